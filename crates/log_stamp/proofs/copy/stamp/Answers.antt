-- `stamp` meets its contract: the new log is written only where the answer is a count, and then every test was passed.
use mathlib.Core.Path.{◌∙◌, sym}
use native.Mathlib.Omega.{arith}
use Rattle.log_list.specs.Log.{copied}
use Rattle.log_stamp.proofs.CopyLaws.{stamped}
use Rattle.log_stamp.proofs.copy.stamp.Goals as goal

pub write_moved-requires : goal.write_moved-requires
write_moved-requires c =
    let p = stamped _ _ _ _ (sym c.stamp_answer-answer.ensures ∙ c.in-Ok.is) in
    record {
      le_per = omega arith;
      log_value = p.right;
      log_in_bounds = rw c.stamped.ensures.0 (p.fits.room-enough, p.fits.number_fits);
    }

pub returns-in-Ok : goal.returns-in-Ok
unfolding copied
returns-in-Ok c = (c.stamp_answer-answer.ensures, rw (sym c.stamp_answer-answer.ensures ∙ c.in-Ok.is) (rw (c.stamped.ensures.0, c.stamped.ensures.1) at c.write_moved.ensures))

pub returns-in_default : goal.returns-in_default
unfolding copied
returns-in_default c = (c.stamp_answer-answer.ensures, rw (sym c.stamp_answer-answer.ensures ∙ c.in_default.is))
