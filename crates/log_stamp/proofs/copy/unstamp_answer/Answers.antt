-- `unstamp_answer` meets its contract: the tests are the definition's, in their order.
use Rattle.std.proofs.lemmas.Result.{err_from_is_err_and}
use Rattle.std.specs.Prelude.{Err}
use mathlib.Core.Path.{◌∙◌, sym}
use native.Mathlib.Omega.{arith}
use borrow.Author.Tests.{eq-eqb, ne_eqb}
use Rattle.log_list.specs.Log.{blocks_or_full}
use Rattle.log_block.specs.Block.{list_of}
use Rattle.log_stamp.proofs.moved.ChunkLaws.{records-few}
use Rattle.log_stamp.specs.Copy.{unstamp_answer}
use Rattle.log_stamp.proofs.StampLaws.{fourteen, right-passed, right-refused, right-next}
use Rattle.log_stamp.proofs.copy.unstamp_answer.Goals as goal

pub returns-then-log-ne0 : goal.returns-then-log-ne0
unfolding unstamp_answer
returns-then-log-ne0 c = rw (ne_eqb _ 0 c.if-log-ne0.true)

pub records_in-requires : goal.records_in-requires
records_in-requires c =
    record {
      log_value = (right-passed _ _ (sym c.tested.ensures ∙ c.in_ok-tested.was)).0.right;
    }

pub blocks_or_full-requires : goal.blocks_or_full-requires
blocks_or_full-requires c =
    let log = c.args.log.now in
    let p = (right-passed log _ (sym c.tested.ensures ∙ c.in_ok-tested.was)).0 in
    (omega arith, omega arith, omega (arith, records-few 14 fourteen log p.right))

pub returns-in_err-tested : goal.returns-in_err-tested
unfolding unstamp_answer
returns-in_err-tested c =
    let log = c.args.log.now in
    let room = c.args.room in
    let p = err_from_is_err_and c.from_residual.result c.from_residual.ensures.1 in
    rw (p.1, p.2, eq-eqb _ 0 c.if-log-ne0.false)
    (sym (right-refused Err log _ (λ s. blocks_or_full 15 (list_of log) room) (sym c.tested.ensures ∙ c.in_err-tested.was)))

pub returns : goal.returns
unfolding unstamp_answer
returns c =
    let log = c.args.log.now in
    let room = c.args.room in
    let p = (right-passed log _ (sym c.tested.ensures ∙ c.in_ok-tested.was)).0 in
    rw (eq-eqb _ 0 c.if-log-ne0.false) (rw c.records_in.ensures at c.blocks_or_full.ensures ∙ sym (right-next Err log (λ s. blocks_or_full 15 (list_of log) room) p))
