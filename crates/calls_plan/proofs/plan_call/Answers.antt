-- `calls_plan::plan_call` meets its contract: each arm is a case of the definition.
use mathlib.Core.Path.{refl, sym, ◌∙◌}
use Rattle.settings.proofs.SettingsLaws.{accepted-valid}
use Rattle.spec_calls.specs.Settings.{under_settings}
use Rattle.spec_calls.specs.Plans.{plan_call}
use Rattle.calls_plan.proofs.plan_call.Goals as goal

pub plan_under-requires : goal.plan_under-requires
plan_under-requires c = accepted-valid c.args.settings.now _ (sym c.read_settings.ensures ∙ c.in-Some.is)

pub returns-in_default : goal.returns-in_default
unfolding plan_call under_settings
returns-in_default c =
    record {
      value = rw (sym c.read_settings.ensures ∙ c.in_default.is) c.answer.ensures;
      planner_after = rw (sym c.read_settings.ensures ∙ c.in_default.is) refl;
      room_after = rw (sym c.read_settings.ensures ∙ c.in_default.is) refl;
    }

pub returns : goal.returns
unfolding plan_call under_settings
returns c =
    record {
      value = rw (sym c.read_settings.ensures ∙ c.in-Some.is) c.plan_under.ensures.value;
      planner_after = rw (sym c.read_settings.ensures ∙ c.in-Some.is) c.plan_under.ensures.planner_after;
      room_after = rw (sym c.read_settings.ensures ∙ c.in-Some.is) c.plan_under.ensures.room_after;
    }
