-- `query_answer` meets its contract: the tests are the definition's, in their order.
use Rattle.std.specs.Prelude.{Ok}
use mathlib.Core.Path.{◌∙◌, sym}
use borrow.Author.Tests.{eq-eqb, ne_eqb, lt-ltb, le-ltb}
use Rattle.std.proofs.lemmas.Result.{err_from_is_err_and}
use Rattle.spec_index.specs.Index.{index_words}
use Rattle.spec_index.specs.Answers.{query_answer}
use Rattle.log_index.proofs.query.QueryLaws.{beside-refused, beside-passed, beside-next}
use Rattle.log_index.proofs.query.query_answer.Goals as goal

pub returns-then-log-ne0 : goal.returns-then-log-ne0
unfolding query_answer
returns-then-log-ne0 c = rw (ne_eqb _ 0 c.if-log-ne0.true)

pub returns-then-index-ne0 : goal.returns-then-index-ne0
unfolding query_answer
returns-then-index-ne0 c = rw (eq-eqb _ 0 c.if-log-ne0.false, ne_eqb _ 0 c.if-index-ne0.true)

pub returns-then-bank-ge32 : goal.returns-then-bank-ge32
unfolding query_answer
returns-then-bank-ge32 c = rw (eq-eqb _ 0 c.if-log-ne0.false, eq-eqb _ 0 c.if-index-ne0.false, le-ltb _ _ c.if-bank-ge32.true)

pub returns-in_err-beside : goal.returns-in_err-beside
unfolding query_answer
returns-in_err-beside c =
    let a = c.args in
    let p = err_from_is_err_and c.from_residual.result c.from_residual.ensures.1 in
    rw (p.1, p.2, eq-eqb _ 0 c.if-log-ne0.false, eq-eqb _ 0 c.if-index-ne0.false, lt-ltb _ _ c.if-bank-ge32.false)
    (sym (beside-refused a.s a.log.now a.index.now (index_words a.index.now) _ _ (sym c.beside.ensures ∙ c.in_err-beside.was)))

pub returns : goal.returns
unfolding query_answer
returns c =
    let a = c.args in
    let b = (beside-passed a.s a.log.now a.index.now (Ok (index_words a.index.now)) _ (sym c.beside.ensures ∙ c.in_ok-beside.was)).0 in
    rw (eq-eqb _ 0 c.if-log-ne0.false, eq-eqb _ 0 c.if-index-ne0.false, lt-ltb _ _ c.if-bank-ge32.false)
    (rw c.found.ensures at c.fits.ensures ∙ sym (beside-next a.s a.log.now a.index.now _ b))
