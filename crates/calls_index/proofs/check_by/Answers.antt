-- `check_by` meets its contract: each way out is a case of the definition.
use mathlib.Core.Path.{◌∙◌, sym}
use Rattle.spec_calls.specs.Settings.{under_settings}
use Rattle.calls_index.specs.Results.{index_check_call}
use Rattle.calls_index.proofs.check_by.Goals as goal

pub returns-in_default : goal.returns-in_default
unfolding under_settings index_check_call
returns-in_default c = rw (sym c.read_settings.ensures ∙ c.in_default.is) c.from.ensures

pub returns : goal.returns
unfolding under_settings index_check_call
returns c = rw (sym c.read_settings.ensures ∙ c.in-Some.is) (rw c.checked.ensures at c.from-2.ensures)
