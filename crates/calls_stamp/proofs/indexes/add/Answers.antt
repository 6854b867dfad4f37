-- `add` meets its contract: words are written only where the answer is a count, and then every test was passed.
use mathlib.Core.Path.{◌∙◌, sym}
use Rattle.num.specs.Bytes.{Bytes}
use Rattle.log_block.proofs.ListThenLog.{used-few}
use Rattle.spec_index.specs.Answers.{lent_after}
use Rattle.spec_index.proofs.IndexLaws.{kept-most}
use Rattle.log_index.proofs.make.MakeLaws.{kept-said, words-said}
use Rattle.log_stamp.specs.Stamp.{settings_of}
use Rattle.log_stamp.proofs.StampLaws.{fourteen}
use Rattle.calls_stamp.proofs.IndexLaws.{made, added}
use Rattle.calls_stamp.proofs.indexes.add.Goals as goal

pub write_index-requires : goal.write_index-requires
write_index-requires c =
    let a = c.args in
    let log = a.log.now in
    let p = added log a.kept a.index.now _ (sym c.add_answer-answer.ensures ∙ c.in-Ok.is) in
    let w : Bytes log = λ i h. (c.shared_slice_known-1.given i).fits in
    let v : Bytes a.index.now = λ i h. (c.slice_known-1.given i).fits in
    record {
      by_index = (used-few 14 fourteen log p.passed.right, kept-most (settings_of log) log a.index.now a.kept p.same, p.room-enough);
      kept_value = kept-said (settings_of log) 14 fourteen log a.kept a.index.now w v (made log p.passed) p.same;
    }

pub returns-in-Ok : goal.returns-in-Ok
unfolding lent_after
returns-in-Ok c =
    let a = c.args in
    let log = a.log.now in
    let e = sym c.add_answer-answer.ensures ∙ c.in-Ok.is in
    let p = added log a.kept a.index.now _ e in
    let w : Bytes log = λ i h. (c.shared_slice_known-1.given i).fits in
    (c.add_answer-answer.ensures, rw e (rw (words-said (settings_of log) 14 fourteen log w (made log p.passed)) at c.write_index.ensures))

pub returns-in_default : goal.returns-in_default
unfolding lent_after
returns-in_default c = (c.add_answer-answer.ensures, rw (sym c.add_answer-answer.ensures ∙ c.in_default.is))
