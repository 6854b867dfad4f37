-- `decode` meets its contract: the list is written only where the answer is a count, and then every test was passed.
use mathlib.Core.Path.{◌∙◌, sym}
use native.Mathlib.Omega.{arith}
use Rattle.log_list.specs.Log.{decode_log, copied}
use Rattle.log_list.proofs.CopyLaws.{decoded}
use Rattle.log_block.proofs.ListThenLog.{whole-records}
use Rattle.log_list.proofs.copy.decode.Goals as goal

pub read_list-requires : goal.read_list-requires
read_list-requires c =
    let p = decoded _ _ _ _ _ (sym c.decode_answer-answer.ensures ∙ c.in-Ok.is) in
    record {
      log_value = p.right;
      log_in_bounds = omega (arith, p.room-enough, whole-records _ c.args.per.few _ p.right);
    }

pub returns-in-Ok : goal.returns-in-Ok
unfolding decode_log copied
returns-in-Ok c = (c.decode_answer-answer.ensures, rw (sym c.decode_answer-answer.ensures ∙ c.in-Ok.is) c.read_list.ensures)

pub returns-in_default : goal.returns-in_default
unfolding decode_log copied
returns-in_default c = (c.decode_answer-answer.ensures, rw (sym c.decode_answer-answer.ensures ∙ c.in_default.is))
