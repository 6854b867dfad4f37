-- `unstamped` meets its contract: the test is the definition's.
use mathlib.Core.Path.{◌∙◌, sym}
use native.Mathlib.Omega.{arith}
use borrow.Author.Tests.{eq-eqb, ne_eqb}
use Rattle.log_stamp.proofs.unstamped.Goals as goal

pub returns-then-found-log : goal.returns-then-found-log
returns-then-found-log c =
    let e = c.faults-found.ensures.0 in
    rw (ne_eqb _ _ (λ z. c.if-found-log.true (e ∙ z)), e)

pub returns : goal.returns
returns c = rw (eq-eqb _ _ (sym c.faults-found.ensures.0 ∙ c.if-found-log.false))
