-- `add_answer` meets its contract: the tests are the definition's, in their order.
use mathlib.Core.Path.{◌∙◌, sym}
use borrow.Author.Tests.{eq-eqb, ne_eqb}
use Rattle.std.proofs.lemmas.Result.{err_from_is_err_and}
use Rattle.num.specs.Bytes.{Bytes}
use Rattle.log_block.specs.Block.{blocks_in}
use Rattle.spec_index.specs.Answers.{add_answer}
use Rattle.log_block.proofs.ListThenLog.{used-few}
use Rattle.log_index.proofs.make.MakeLaws.{fifteen, right-passed, right-refused, right-next, room-said}
use Rattle.log_index.proofs.make.add_answer.Goals as goal

pub returns-then-log-ne0 : goal.returns-then-log-ne0
unfolding add_answer
returns-then-log-ne0 c = rw (ne_eqb _ 0 c.if-log-ne0.true)

pub room_answer-requires : goal.room_answer-requires
room_answer-requires c =
    let a = c.args in
    used-few 15 fifteen a.log.now (right-passed a.s a.log.now (blocks_in a.log.now) _ (sym c.right.ensures ∙ c.in_ok-right.was)).right

pub returns-in_err-right : goal.returns-in_err-right
unfolding add_answer
returns-in_err-right c =
    let a = c.args in
    let p = err_from_is_err_and c.from_residual.result c.from_residual.ensures.1 in
    rw (p.1, p.2, eq-eqb _ 0 c.if-log-ne0.false)
    (sym (right-refused a.s a.log.now (blocks_in a.log.now) _ _ (sym c.right.ensures ∙ c.in_err-right.was)))

pub returns : goal.returns
unfolding add_answer
returns c =
    let a = c.args in
    let p = right-passed a.s a.log.now (blocks_in a.log.now) _ (sym c.right.ensures ∙ c.in_ok-right.was) in
    let w : Bytes a.log.now = λ i h. (c.shared_slice_known-1.given i).fits in
    rw (eq-eqb _ 0 c.if-log-ne0.false)
    (c.room_answer.ensures ∙ room-said a.s 15 fifteen a.log.now w p a.kept a.index.now ∙ sym (right-next a.s a.log.now _ p))
