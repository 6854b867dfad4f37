-- `chan_view::neighbours::first_near` meets its contract: by the bank's place in its run.
use mathlib.Core.Path.{sym, ◌∙◌}
use native.Mathlib.Omega.{arith}
use Rattle.chan_view.specs.Form.Beside.{first_near}
use Rattle.chan_view.proofs.NearLaws.{not_first}
use borrow.Author.Rules.{rules}
use Rattle.chan_view.proofs.neighbours.first_near.Goals as goal

pub returns-then-starts_run : goal.returns-then-starts_run
unfolding first_near
returns-then-starts_run c = rw (sym c.starts_run.ensures ∙ c.if-starts_run.true) (search rules)

pub returns-else-starts_run : goal.returns-else-starts_run
unfolding first_near
returns-else-starts_run c = rw (sym c.starts_run.ensures ∙ c.if-starts_run.false) (search rules)

pub overflow_sub-result : goal.overflow_sub-result
overflow_sub-result c = omega (arith, not_first _ _ (sym c.starts_run.ensures ∙ c.if-starts_run.false))
