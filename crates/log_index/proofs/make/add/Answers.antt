-- `add` meets its contract: words are written only where the answer is a count, and then every test was passed.
use mathlib.Core.Path.{◌∙◌, sym}
use Rattle.num.specs.Bytes.{Bytes}
use Rattle.spec_index.specs.Answers.{lent_after}
use Rattle.spec_index.proofs.IndexLaws.{kept-most}
use Rattle.log_block.proofs.ListThenLog.{used-few}
use Rattle.log_index.proofs.make.MakeLaws.{fifteen, added, kept-said, words-said}
use Rattle.log_index.proofs.make.add.Goals as goal

pub write_index-requires : goal.write_index-requires
write_index-requires c =
    let a = c.args in
    let p = added a.s a.log.now a.kept a.index.now _ (sym c.add_answer-answer.ensures ∙ c.in-Ok.is) in
    let w : Bytes a.log.now = λ i h. (c.shared_slice_known-1.given i).fits in
    let v : Bytes a.index.now = λ i h. (c.slice_known-1.given i).fits in
    record {
      by_index = (used-few 15 fifteen a.log.now p.passed.right, kept-most a.s a.log.now a.index.now a.kept p.same, p.room-enough);
      kept_value = kept-said a.s 15 fifteen a.log.now a.kept a.index.now w v p.passed p.same;
    }

pub returns-in-Ok : goal.returns-in-Ok
unfolding lent_after
returns-in-Ok c =
    let a = c.args in
    let e = sym c.add_answer-answer.ensures ∙ c.in-Ok.is in
    let p = added a.s a.log.now a.kept a.index.now _ e in
    let w : Bytes a.log.now = λ i h. (c.shared_slice_known-1.given i).fits in
    (c.add_answer-answer.ensures, rw e (rw (words-said a.s 15 fifteen a.log.now w p.passed) at c.write_index.ensures))

pub returns-in_default : goal.returns-in_default
unfolding lent_after
returns-in_default c = (c.add_answer-answer.ensures, rw (sym c.add_answer-answer.ensures ∙ c.in_default.is))
