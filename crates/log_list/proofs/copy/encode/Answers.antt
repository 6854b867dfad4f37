-- `encode` meets its contract: the log is written only where the answer is a count, and then every test was passed.
use mathlib.Core.Path.{◌∙◌, sym}
use Rattle.log_list.specs.Log.{encode_log, copied}
use Rattle.log_list.proofs.CopyLaws.{encoded}
use Rattle.log_list.proofs.copy.encode.Goals as goal

pub write_log-requires : goal.write_log-requires
write_log-requires c =
    let p = encoded _ _ _ _ _ (sym c.encode_answer-answer.ensures ∙ c.in-Ok.is) in
    record {
      list_in_bounds = p.room-enough;
      list_bound = p.number_fits;
    }

pub returns-in-Ok : goal.returns-in-Ok
unfolding encode_log copied
returns-in-Ok c = (c.encode_answer-answer.ensures, rw (sym c.encode_answer-answer.ensures ∙ c.in-Ok.is) c.write_log.ensures)

pub returns-in_default : goal.returns-in_default
unfolding encode_log copied
returns-in_default c = (c.encode_answer-answer.ensures, rw (sym c.encode_answer-answer.ensures ∙ c.in_default.is))
