-- `add_answer` meets its contract: the tests are the definition's, in their order.
use Rattle.std.proofs.lemmas.Result.{err_from_is_err_and}
use Rattle.std.specs.Prelude.{Err}
use mathlib.Core.Path.{◌∙◌, sym}
use borrow.Author.Tests.{eq-eqb, ne_eqb}
use lib.ListN.{length}
use Rattle.num.specs.Bytes.{Bytes}
use Rattle.log_block.specs.Block.{blocks_in}
use Rattle.log_block.proofs.ListThenLog.{used-few}
use Rattle.spec_index.specs.Answers.{refused, index_right, count_or_full}
use Rattle.log_index.proofs.make.MakeLaws.{room-said}
use Rattle.log_stamp.specs.Stamp.{settings_of}
use Rattle.log_stamp.proofs.StampLaws.{fourteen, right-passed, right-refused, right-next}
use Rattle.calls_stamp.specs.Results.{stamped_index_answer}
use Rattle.calls_stamp.proofs.IndexLaws.{made}
use Rattle.calls_stamp.proofs.indexes.add_answer.Goals as goal
use Rattle.spec_index.specs.declared.IndexRefusal.TheVariants.{Refused}

pub returns-then-log-ne0 : goal.returns-then-log-ne0
unfolding stamped_index_answer
returns-then-log-ne0 c = rw (ne_eqb _ 0 c.if-log-ne0.true)

pub room_answer-requires : goal.room_answer-requires
room_answer-requires c =
    let a = c.args in
    used-few 14 fourteen a.log.now (right-passed a.log.now _ (sym c.tested.ensures ∙ c.in_ok-tested.was)).0.right

pub returns-in_err-tested : goal.returns-in_err-tested
unfolding stamped_index_answer
returns-in_err-tested c =
    let a = c.args in
    let p = err_from_is_err_and c.from_residual.result c.from_residual.ensures.1 in
    rw (p.1, p.2, eq-eqb _ 0 c.if-log-ne0.false)
    (sym (right-refused refused a.log.now _ (λ s. index_right s a.log.now a.index.now a.kept (count_or_full (blocks_in a.log.now) (length a.index.now))) (sym c.tested.ensures ∙ c.in_err-tested.was)))

pub returns : goal.returns
unfolding stamped_index_answer
returns c =
    let a = c.args in
    let log = a.log.now in
    let p = (right-passed log _ (sym c.tested.ensures ∙ c.in_ok-tested.was)).0 in
    let w : Bytes log = λ i h. (c.shared_slice_known-1.given i).fits in
    rw (eq-eqb _ 0 c.if-log-ne0.false)
    (c.room_answer.ensures ∙ room-said (settings_of log) 14 fourteen log w (made log p) a.kept a.index.now
    ∙ sym (right-next refused log (λ s. index_right s log a.index.now a.kept (count_or_full (blocks_in log) (length a.index.now))) p))
