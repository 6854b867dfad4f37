-- `compared` meets its contract.
use mathlib.Core.Path.{◌∙◌, sym}
use borrow.Author.Tests.{eq-eqb, ne_eqb}
use Rattle.num.specs.Search.{first_false}
use Rattle.spec_index.specs.Index.{words_of, word_right}
use Rattle.log_index.specs.Form.Fields.{fields_word}
use Rattle.log_index.specs.Form.Beside.{beside_fields}
use Rattle.log_index.proofs.query.compared.Goals as goal

pub returns-then-wrong-n : goal.returns-then-wrong-n
unfolding beside_fields
returns-then-wrong-n c =
    let a = c.args in
    let n = words_of a.log.now a.index.now in
    let g = c.max-n.ensures in
    rw (eq-eqb (first_false (word_right fields_word a.log.now a.index.now) n) n (sym (rw g at c.first_wrong-wrong.ensures) ∙ c.if-wrong-n.true ∙ g))

pub returns-else-wrong-n : goal.returns-else-wrong-n
unfolding beside_fields
returns-else-wrong-n c =
    let g = c.max-n.ensures in
    let e = rw g at c.first_wrong-wrong.ensures in
    rw (ne_eqb _ _ (λ z. c.if-wrong-n.false (e ∙ z ∙ sym g)), e)
