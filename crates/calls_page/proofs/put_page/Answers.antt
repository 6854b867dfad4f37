-- `put_page` meets its contract: only the start of the room is lent to be drawn, and only where the answer is a page.
use native.Mathlib.Omega.{arith}
use mathlib.Core.Path.{refl, ◌∙◌, sym}
use lib.ListN.{length}
use Rattle.std.proofs.lemmas.Result.{err_from_is_err_and}
use Rattle.spec_check.specs.Check.{records_of}
use Rattle.spec_page.specs.Page.{page}
use Rattle.spec_page.proofs.PageLaws.{length-page}
use Rattle.calls_page.specs.Results.{page_lent}
use Rattle.calls_page.proofs.AnswerLaws.{page-accepts, at-start}
use Rattle.calls_page.proofs.put_page.Goals as goal

pub returns-in_err-page_answer : goal.returns-in_err-page_answer
unfolding page_lent
returns-in_err-page_answer c =
    let p = err_from_is_err_and c.from_residual.result c.from_residual.ensures.1 in
    rw (p.1, p.2) (sym c.in_err-page_answer.was ∙ c.page_answer.ensures, refl)

pub returns-in_default : goal.returns-in_default
returns-in_default c =
    let a = c.args in
    let accepts = page-accepts a.s a.list.now a.start (length a.room.now) (sym c.page_answer.ensures ∙ c.in_ok-page_answer.was) in
    absurd (omega (arith, accepts.fits, c.in_default.ensures.cases))

pub draw-requires : goal.draw-requires
draw-requires c =
    let a = c.args in
    let accepts = page-accepts a.s a.list.now a.start (length a.room.now) (sym c.page_answer.ensures ∙ c.in_ok-page_answer.was) in
    record { list_value = accepts.formed }

pub returns : goal.returns
unfolding page_lent
returns c =
    let a = c.args in
    let new = page a.s (records_of a.s a.list.now) a.start in
    (sym c.in_ok-page_answer.was ∙ c.page_answer.ensures, at-start a.room.now _ new c.draw.ensures (length-page a.s (records_of a.s a.list.now) a.start))
