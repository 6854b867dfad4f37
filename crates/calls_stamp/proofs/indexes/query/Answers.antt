-- `query` meets its contract: numbers are written only where the answer is a count, and then every test was passed.
use mathlib.Core.Path.{◌∙◌, sym}
use Rattle.spec_index.specs.Answers.{lent_after}
use Rattle.calls_stamp.proofs.IndexLaws.{query-passed}
use Rattle.calls_stamp.proofs.indexes.query.Goals as goal

pub list_found-requires : goal.list_found-requires
list_found-requires c =
    let a = c.args in
    let q = query-passed a.log.now a.index.now a.bank _ _ (sym c.query_answer-answer.ensures ∙ c.in-Ok.is) in
    (q.bank-right, q.room-enough)

pub returns-in-Ok : goal.returns-in-Ok
unfolding lent_after
returns-in-Ok c =
    let e = c.query_answer-answer.ensures in
    (e, rw (sym e ∙ c.in-Ok.is) c.list_found.ensures)

pub returns-in_default : goal.returns-in_default
unfolding lent_after
returns-in_default c = (c.query_answer-answer.ensures, rw (sym c.query_answer-answer.ensures ∙ c.in_default.is))
