-- `chan_view::neighbours::high_of` meets its contract: each way out decides the test.
use mathlib.Core.Path.{sym, ◌∙◌}
use native.Mathlib.Omega.{arith}
use Rattle.chan_view.specs.Form.Beside.{high_of}
use Rattle.chan_view.proofs.NearLaws.{not_last}
use Rattle.chan_view.proofs.neighbours.high_of.Goals as goal

pub returns-then-is_last : goal.returns-then-is_last
unfolding high_of
returns-then-is_last c = rw (sym c.is_last.ensures ∙ c.if-is_last.true)

pub returns-else-is_last : goal.returns-else-is_last
unfolding high_of
returns-else-is_last c = rw (sym c.is_last.ensures ∙ c.if-is_last.false)

pub overflow_add-result : goal.overflow_add-result
overflow_add-result c = omega (arith, not_last _ _ (sym c.is_last.ensures ∙ c.if-is_last.false))
