-- `shortest_by` meets its contract: each arm is a case of the definition.
use mathlib.Core.Path.{◌∙◌, sym}
use Rattle.spec_calls.specs.Settings.{under_settings}
use Rattle.calls_shortest.specs.Results.{shortest_call}
use Rattle.calls_shortest.proofs.shortest_by.Goals as goal

pub returns-in_default : goal.returns-in_default
unfolding under_settings shortest_call
returns-in_default c = rw (sym c.read_settings.ensures ∙ c.in_default.is) c.in_numbers.ensures

pub returns : goal.returns
unfolding under_settings shortest_call
returns c =
    rw (sym c.read_settings.ensures ∙ c.in-Some.is)
    (rw c.check_shortest.ensures at c.in_numbers-2.ensures)
