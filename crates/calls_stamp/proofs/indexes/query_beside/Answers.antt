-- `query_beside` meets its contract: the tests are the definition's, in their order.
use mathlib.Core.Path.{◌∙◌, sym}
use borrow.Author.Tests.{eq-eqb, ne_eqb}
use Rattle.calls_stamp.proofs.indexes.query_beside.Goals as goal

pub returns-then-wrong-n : goal.returns-then-wrong-n
returns-then-wrong-n c =
    let g = c.max-n.ensures in
    let e = rw g at c.first_wrong-wrong.ensures in
    rw (ne_eqb _ _ (λ z. c.if-wrong-n.true (e ∙ z ∙ sym g)), e)

pub returns : goal.returns
returns c =
    let g = c.max-n.ensures in
    let e = rw g at c.first_wrong-wrong.ensures in
    rw (eq-eqb _ _ (sym e ∙ c.if-wrong-n.false ∙ g)) (rw c.found.ensures at c.fits.ensures)
