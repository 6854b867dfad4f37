-- `unstamp` meets its contract: the old log is written only where the answer is a count, and then every test was passed.
use mathlib.Core.Path.{◌∙◌, sym, refl}
use native.Mathlib.Omega.{arith}
use Rattle.log_list.specs.Log.{copied}
use Rattle.log_stamp.proofs.CopyLaws.{unstamped}
use Rattle.log_stamp.proofs.copy.unstamp.Goals as goal

pub write_moved-requires : goal.write_moved-requires
write_moved-requires c =
    let p = unstamped _ _ _ (sym c.unstamp_answer-answer.ensures ∙ c.in-Ok.is) in
    record {
      le_per = omega arith;
      log_value = p.passed.right;
      log_in_bounds = rw c.plain.ensures.0 (p.fits.room-enough, p.fits.number_fits);
    }

pub returns-in-Ok : goal.returns-in-Ok
unfolding copied
returns-in-Ok c = (c.unstamp_answer-answer.ensures, rw (sym c.unstamp_answer-answer.ensures ∙ c.in-Ok.is) (rw (c.plain.ensures.0, c.plain.ensures.1) at c.write_moved.ensures))

pub returns-in_default : goal.returns-in_default
unfolding copied
returns-in_default c = (c.unstamp_answer-answer.ensures, rw (sym c.unstamp_answer-answer.ensures ∙ c.in_default.is))
