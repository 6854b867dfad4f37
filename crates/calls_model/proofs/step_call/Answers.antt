-- `calls_model::step_call` meets its contract: each arm is a case of the definition.
use mathlib.Core.Path.{refl, sym, ◌∙◌}
use Rattle.settings.proofs.SettingsLaws.{accepted-valid}
use Rattle.spec_calls.specs.Settings.{under_settings}
use Rattle.spec_calls.specs.Models.{step_call}
use Rattle.calls_model.proofs.step_call.Goals as goal

pub step_under-requires : goal.step_under-requires
step_under-requires c = accepted-valid c.args.settings.now _ (sym c.read_settings.ensures ∙ c.in-Some.is)

pub returns-in_default : goal.returns-in_default
unfolding step_call under_settings
returns-in_default c =
    record {
      value = rw (sym c.read_settings.ensures ∙ c.in_default.is) c.answer.ensures;
      model_after = rw (sym c.read_settings.ensures ∙ c.in_default.is) refl;
      store_after = rw (sym c.read_settings.ensures ∙ c.in_default.is) refl;
      room_after = rw (sym c.read_settings.ensures ∙ c.in_default.is) refl;
    }

pub returns : goal.returns
unfolding step_call under_settings
returns c =
    record {
      value = rw (sym c.read_settings.ensures ∙ c.in-Some.is) c.step_under.ensures.value;
      model_after = rw (sym c.read_settings.ensures ∙ c.in-Some.is) c.step_under.ensures.model_after;
      store_after = rw (sym c.read_settings.ensures ∙ c.in-Some.is) c.step_under.ensures.store_after;
      room_after = rw (sym c.read_settings.ensures ∙ c.in-Some.is) c.step_under.ensures.room_after;
    }
