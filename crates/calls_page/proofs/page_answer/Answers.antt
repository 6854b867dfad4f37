-- `page_answer` meets its contract: each arm is a case of the definition.
use mathlib.Core.Path.{◌∙◌, sym}
use native.Mathlib.Omega.{arith}
use borrow.Author.Tests.{eq-eqb, ne_eqb, le-leb, lt-leb}
use Rattle.std.proofs.lemmas.Result.{err_from_is_err_and}
use Rattle.settings.specs.Instants.{horizon}
use Rattle.spec_rules.specs.Neighbour.{context_of}
use Rattle.spec_page.specs.Page.{page_bytes}
use Rattle.calls_page.specs.Results.{room_for, page_answer}
use Rattle.calls_page.proofs.AnswerLaws.{whole-list}
use Rattle.calls_page.proofs.page_answer.Goals as goal

pub returns-then-list-ne0 : goal.returns-then-list-ne0
unfolding page_answer
returns-then-list-ne0 c = rw (ne_eqb _ 0 c.if-list-ne0.true)

pub returns-then-start-gt-HORIZON : goal.returns-then-start-gt-HORIZON
unfolding page_answer
returns-then-start-gt-HORIZON c =
    let a = c.args in
    rw (eq-eqb _ 0 c.if-list-ne0.false, lt-leb a.start horizon (omega arith))

pub returns-then-room-lt-PAGE : goal.returns-then-room-lt-PAGE
unfolding page_answer room_for
returns-then-room-lt-PAGE c =
    let a = c.args in
    let z = c.if-list-ne0.false in
    rw (eq-eqb _ 0 z, le-leb a.start horizon (omega arith), whole-list (context_of a.s) a.list.now z (sym c.check_list.ensures ∙ c.in_ok-check_list.was), lt-leb page_bytes a.room (omega arith))

pub returns-in_err-check_list : goal.returns-in_err-check_list
unfolding page_answer room_for
returns-in_err-check_list c =
    let a = c.args in
    let z = c.if-list-ne0.false in
    let p = err_from_is_err_and c.from_residual.result c.from_residual.ensures.1 in
    rw (p.1, p.2, eq-eqb _ 0 z, le-leb a.start horizon (omega arith), whole-list (context_of a.s) a.list.now z (sym c.check_list.ensures ∙ c.in_err-check_list.was))

pub returns : goal.returns
unfolding page_answer room_for
returns c =
    let a = c.args in
    let z = c.if-list-ne0.false in
    rw (eq-eqb _ 0 z, le-leb a.start horizon (omega arith), whole-list (context_of a.s) a.list.now z (sym c.check_list.ensures ∙ c.in_ok-check_list.was), le-leb page_bytes a.room (omega arith))
