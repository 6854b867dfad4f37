-- `chan_view::neighbours::last_near` meets its contract: by the bank's place in its run.
use mathlib.Core.Path.{refl, sym, ◌∙◌}
use native.Mathlib.Omega.{arith}
use Rattle.chan_view.specs.Form.Beside.{last_near}
use Rattle.chan_view.proofs.NearLaws.{not_last}
use borrow.Author.Rules.{rules}
use Rattle.chan_view.proofs.neighbours.last_near.Goals as goal

pub returns-then-starts_run : goal.returns-then-starts_run
unfolding last_near
returns-then-starts_run c = rw (sym c.starts_run.ensures ∙ c.if-starts_run.true) (search rules)

pub returns-else-starts_run : goal.returns-else-starts_run
unfolding last_near
returns-else-starts_run c =
    let e = sym c.starts_run.ensures ∙ c.if-starts_run.false in
    rw e (refl, omega (arith, not_last _ _ e))

pub overflow_add-result : goal.overflow_add-result
overflow_add-result c = omega (arith, not_last _ _ (sym c.starts_run.ensures ∙ c.if-starts_run.false))
