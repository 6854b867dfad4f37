-- `checked` meets its contract: the tests are the definition's, in their order.
use Rattle.std.specs.Prelude.{Ok}
use mathlib.Core.Path.{◌∙◌, sym}
use borrow.Author.Tests.{eq-eqb, ne_eqb}
use Rattle.std.proofs.lemmas.Result.{err_from_is_err_and}
use Rattle.spec_index.specs.Index.{index_words}
use Rattle.spec_index.specs.Answers.{beside_answer}
use Rattle.log_index.proofs.query.QueryLaws.{beside-refused, beside-passed, beside-next}
use Rattle.calls_index.specs.Results.{judged_as, checked_answer}
use Rattle.calls_index.proofs.CheckLaws.{rules-after}
use Rattle.calls_index.proofs.checked.Goals as goal

pub returns-then-log-ne0 : goal.returns-then-log-ne0
unfolding checked_answer beside_answer
returns-then-log-ne0 c = rw (ne_eqb _ 0 c.if-log-ne0.true)

pub returns-then-index-ne0 : goal.returns-then-index-ne0
unfolding checked_answer beside_answer
returns-then-index-ne0 c = rw (eq-eqb _ 0 c.if-log-ne0.false, ne_eqb _ 0 c.if-index-ne0.true)

pub returns-in_err-beside : goal.returns-in_err-beside
unfolding checked_answer beside_answer
returns-in_err-beside c =
    let a = c.args in
    let p = err_from_is_err_and c.from_residual.result c.from_residual.ensures.1 in
    rw (p.1, p.2, eq-eqb _ 0 c.if-log-ne0.false, eq-eqb _ 0 c.if-index-ne0.false)
    (sym (beside-refused a.s a.log.now a.index.now (index_words a.index.now) _ _ (sym c.beside.ensures ∙ c.in_err-beside.was)))

pub returns-in_err-check_log : goal.returns-in_err-check_log
unfolding checked_answer beside_answer judged_as
returns-in_err-check_log c =
    let a = c.args in
    let b = (beside-passed a.s a.log.now a.index.now (Ok (index_words a.index.now)) _ (sym c.beside.ensures ∙ c.in_ok-beside.was)).0 in
    let j = sym (c.check_log.ensures ∙ rules-after a.s a.log.now c.if-log-ne0.false b.passed) ∙ c.in_err-check_log.was in
    let p = err_from_is_err_and c.from_residual-in_err-check_log.result c.from_residual-in_err-check_log.ensures.1 in
    rw (p.1, p.2, eq-eqb _ 0 c.if-log-ne0.false, eq-eqb _ 0 c.if-index-ne0.false, beside-next a.s a.log.now a.index.now _ b, j)

pub returns : goal.returns
unfolding checked_answer beside_answer judged_as
returns c =
    let a = c.args in
    let b = (beside-passed a.s a.log.now a.index.now (Ok (index_words a.index.now)) _ (sym c.beside.ensures ∙ c.in_ok-beside.was)).0 in
    let j = sym (c.check_log.ensures ∙ rules-after a.s a.log.now c.if-log-ne0.false b.passed) ∙ c.in_ok-check_log.was in
    rw (eq-eqb _ 0 c.if-log-ne0.false, eq-eqb _ 0 c.if-index-ne0.false, beside-next a.s a.log.now a.index.now _ b, j)
