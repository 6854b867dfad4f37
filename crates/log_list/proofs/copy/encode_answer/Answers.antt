-- `encode_answer` meets its contract: the tests are the definition's, in their order.
use mathlib.Core.Path.{◌∙◌, sym}
use borrow.Author.Tests.{eq-eqb, ne_eqb}
use Rattle.log_list.specs.Log.{encode_answer}
use Rattle.log_list.proofs.copy.encode_answer.Goals as goal

pub returns-then-list-ne0 : goal.returns-then-list-ne0
unfolding encode_answer
returns-then-list-ne0 c = rw (ne_eqb _ 0 c.if-list-ne0.true)

pub returns-then-bad-n : goal.returns-then-bad-n
unfolding encode_answer
returns-then-bad-n c =
    let e = c.first_bad-bad.ensures in
    rw (eq-eqb _ 0 c.if-list-ne0.false, ne_eqb _ _ (λ z. c.if-bad-n.true (e ∙ z)), e)

pub returns : goal.returns
unfolding encode_answer
returns c =
    let e = c.first_bad-bad.ensures in
    rw (eq-eqb _ 0 c.if-list-ne0.false, eq-eqb _ _ (sym e ∙ c.if-bad-n.false)) c.blocks_or_full.ensures
