-- `decode` meets its contract: the list is written only where the answer is a count, and then every test was passed.
use mathlib.Core.Path.{◌∙◌, sym}
use native.Mathlib.Omega.{arith}
use Rattle.log_list.specs.Log.{copied}
use Rattle.log_block.proofs.ListThenLog.{list-whole}
use Rattle.log_stamp.proofs.StampLaws.{fourteen}
use Rattle.log_stamp.proofs.CopyLaws.{decoded}
use Rattle.log_stamp.proofs.copy.decode.Goals as goal

pub read_list-requires : goal.read_list-requires
read_list-requires c =
    let p = decoded _ _ _ (sym c.decode_answer-answer.ensures ∙ c.in-Ok.is) in
    record {
      log_value = p.passed.right;
      log_in_bounds = omega (arith, p.room-enough, list-whole 14 fourteen _ p.passed.right);
    }

pub returns-in-Ok : goal.returns-in-Ok
unfolding copied
returns-in-Ok c = (c.decode_answer-answer.ensures, rw (sym c.decode_answer-answer.ensures ∙ c.in-Ok.is) c.read_list.ensures)

pub returns-in_default : goal.returns-in_default
unfolding copied
returns-in_default c = (c.decode_answer-answer.ensures, rw (sym c.decode_answer-answer.ensures ∙ c.in_default.is))
