-- `calls_plan::all::plan_all_call` meets its contract: each arm is a case of the definition.
use mathlib.Core.Path.{refl, sym, ◌∙◌}
use Rattle.settings.proofs.SettingsLaws.{accepted-valid}
use Rattle.spec_calls.specs.Settings.{under_settings}
use Rattle.spec_calls.specs.PlanAll.{plan_all_call}
use Rattle.spec_calls.proofs.OneCall.{call-under}
use Rattle.calls_plan.proofs.all.plan_all_call.Goals as goal

pub plan_all_under-requires : goal.plan_all_under-requires
plan_all_under-requires c = accepted-valid c.args.settings.now _ (sym c.read_settings.ensures ∙ c.in-Some.is)

pub returns-in_default : goal.returns-in_default
unfolding plan_all_call under_settings
returns-in_default c =
    record {
      value = rw (sym c.read_settings.ensures ∙ c.in_default.is) c.none_planned.ensures;
      planner_after = rw (sym c.read_settings.ensures ∙ c.in_default.is) refl;
      room_after = rw (sym c.read_settings.ensures ∙ c.in_default.is) refl;
    }

pub returns : goal.returns
unfolding plan_all_call under_settings
returns c =
    let e = sym c.read_settings.ensures ∙ c.in-Some.is in
    record {
      value = rw (call-under c.args.settings.now _ e, e) c.plan_all_under.ensures.value;
      planner_after = rw (call-under c.args.settings.now _ e, e) c.plan_all_under.ensures.planner_after;
      room_after = rw (call-under c.args.settings.now _ e, e) c.plan_all_under.ensures.room_after;
    }
