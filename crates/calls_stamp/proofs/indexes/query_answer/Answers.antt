-- `query_answer` meets its contract: the tests are the definition's, in their order.
use Rattle.std.proofs.lemmas.Result.{err_from_is_err_and}
use Rattle.std.specs.Prelude.{Err}
use mathlib.Core.Path.{◌∙◌, sym}
use borrow.Author.Tests.{eq-eqb, ne_eqb, lt-ltb, le-ltb}
use Rattle.num.specs.Bytes.{Bytes}
use Rattle.num.specs.Marks.{count_up_to}
use Rattle.log_block.proofs.ListThenLog.{used-few}
use Rattle.spec_index.specs.Index.{index_words, words_of}
use Rattle.spec_index.specs.Query.{has_bit}
use Rattle.spec_index.specs.Answers.{refused, index_right, count_or_full}
use Rattle.log_stamp.proofs.StampLaws.{fourteen, right-passed, right-refused, right-next}
use Rattle.calls_stamp.specs.Results.{stamped_query_answer}
use Rattle.calls_stamp.proofs.IndexLaws.{beside-said}
use Rattle.calls_stamp.proofs.indexes.query_answer.Goals as goal
use Rattle.spec_index.specs.declared.IndexRefusal.TheVariants.{Refused}

pub returns-then-log-ne0 : goal.returns-then-log-ne0
unfolding stamped_query_answer
returns-then-log-ne0 c = rw (ne_eqb _ 0 c.if-log-ne0.true)

pub returns-then-index-ne0 : goal.returns-then-index-ne0
unfolding stamped_query_answer
returns-then-index-ne0 c = rw (eq-eqb _ 0 c.if-log-ne0.false, ne_eqb _ 0 c.if-index-ne0.true)

pub returns-then-bank-ge32 : goal.returns-then-bank-ge32
unfolding stamped_query_answer
returns-then-bank-ge32 c = rw (eq-eqb _ 0 c.if-log-ne0.false, eq-eqb _ 0 c.if-index-ne0.false, le-ltb _ _ c.if-bank-ge32.true)

pub query_beside-requires : goal.query_beside-requires
query_beside-requires c =
    let log = c.args.log.now in
    record {
      bank_bound = c.if-bank-ge32.false;
      by_index = used-few 14 fourteen log (right-passed log _ (sym c.tested.ensures ∙ c.in_ok-tested.was)).0.right;
    }

pub returns-in_err-tested : goal.returns-in_err-tested
unfolding stamped_query_answer
returns-in_err-tested c =
    let a = c.args in
    let index = a.index.now in
    let p = err_from_is_err_and c.from_residual.result c.from_residual.ensures.1 in
    rw (p.1, p.2, eq-eqb _ 0 c.if-log-ne0.false, eq-eqb _ 0 c.if-index-ne0.false, lt-ltb _ _ c.if-bank-ge32.false)
    (sym (right-refused refused a.log.now _ (λ s. index_right s a.log.now index (words_of a.log.now index) (count_or_full (count_up_to (has_bit index a.bank) (index_words index)) a.room)) (sym c.tested.ensures ∙ c.in_err-tested.was)))

pub returns : goal.returns
unfolding stamped_query_answer
returns c =
    let a = c.args in
    let log = a.log.now in
    let index = a.index.now in
    let p = (right-passed log _ (sym c.tested.ensures ∙ c.in_ok-tested.was)).0 in
    let w : Bytes log = λ i h. (c.shared_slice_known-1.given i).fits in
    rw (eq-eqb _ 0 c.if-log-ne0.false, eq-eqb _ 0 c.if-index-ne0.false, lt-ltb _ _ c.if-bank-ge32.false)
    (c.query_beside.ensures ∙ beside-said log index w p (words_of log index) (count_or_full (count_up_to (has_bit index a.bank) (index_words index)) a.room)
    ∙ sym (right-next refused log (λ s. index_right s log index (words_of log index) (count_or_full (count_up_to (has_bit index a.bank) (index_words index)) a.room)) p))
