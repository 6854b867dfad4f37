-- `stamp_answer` meets its contract: the tests are the definition's, in their order.
use mathlib.Core.Path.{◌∙◌, sym}
use native.Mathlib.Omega.{arith}
use borrow.Author.Tests.{eq-eqb, ne_eqb}
use Rattle.std.proofs.lemmas.Result.{err_from_is_err_and}
use Rattle.log_block.specs.Block.{blocks_in}
use Rattle.log_index.proofs.make.MakeLaws.{fifteen, right-passed}
use Rattle.log_stamp.proofs.moved.ChunkLaws.{records-few}
use Rattle.log_stamp.specs.Copy.{stamp_answer}
use Rattle.log_stamp.proofs.CopyLaws.{old-refused}
use Rattle.log_stamp.proofs.copy.stamp_answer.Goals as goal

pub returns-then-log-ne0 : goal.returns-then-log-ne0
unfolding stamp_answer
returns-then-log-ne0 c = rw (ne_eqb _ 0 c.if-log-ne0.true)

pub records_in-requires : goal.records_in-requires
records_in-requires c =
    let a = c.args in
    record {
      log_value = (right-passed a.s a.log.now (blocks_in a.log.now) _ (sym c.right.ensures ∙ c.in_ok-right.was)).right;
    }

pub blocks_or_full-requires : goal.blocks_or_full-requires
blocks_or_full-requires c =
    let a = c.args in
    let p = right-passed a.s a.log.now (blocks_in a.log.now) _ (sym c.right.ensures ∙ c.in_ok-right.was) in
    (omega arith, omega arith, omega (arith, records-few 15 fifteen a.log.now p.right))

pub returns-in_err-right : goal.returns-in_err-right
unfolding stamp_answer
returns-in_err-right c =
    let a = c.args in
    let p = err_from_is_err_and c.from_residual.result c.from_residual.ensures.1 in
    rw (p.1, p.2, eq-eqb _ 0 c.if-log-ne0.false)
    (sym (old-refused a.s a.log.now (blocks_in a.log.now) _ _ (sym c.right.ensures ∙ c.in_err-right.was)))

pub returns : goal.returns
unfolding stamp_answer
returns c =
    let a = c.args in
    let p = right-passed a.s a.log.now (blocks_in a.log.now) _ (sym c.right.ensures ∙ c.in_ok-right.was) in
    rw (eq-eqb _ 0 c.if-log-ne0.false, eq-eqb _ _ p.right, eq-eqb _ _ p.good) (rw c.records_in.ensures at c.blocks_or_full.ensures)
