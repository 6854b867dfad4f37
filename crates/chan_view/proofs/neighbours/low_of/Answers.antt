-- `chan_view::neighbours::low_of` meets its contract: each way out decides the test.
use mathlib.Core.Path.{sym, ◌∙◌}
use Rattle.chan_view.specs.Form.Beside.{low_of}
use Rattle.chan_view.proofs.NearLaws.{not_first}
use Rattle.chan_view.proofs.neighbours.low_of.Goals as goal

pub returns-then-is_first : goal.returns-then-is_first
unfolding low_of
returns-then-is_first c = rw (sym c.is_first.ensures ∙ c.if-is_first.true)

pub returns-else-is_first : goal.returns-else-is_first
unfolding low_of
returns-else-is_first c = rw (sym c.is_first.ensures ∙ c.if-is_first.false)

pub overflow_sub-result : goal.overflow_sub-result
overflow_sub-result c = not_first _ _ (sym c.is_first.ensures ∙ c.if-is_first.false)
