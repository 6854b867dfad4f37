-- `CopyAnswer::from` gives the answer in numbers: each arm is a case of the definition.
use Rattle.spec_calls.specs.Logs.{copy_answer}
use Rattle.spec_calls.proofs.CopyAnswerFromResultU64Refusal.from.Goals as goal

pub returns-in-Err : goal.returns-in-Err
unfolding copy_answer
returns-in-Err c = rw (c.in-Err.is, c.answer-a.ensures)

pub returns-in-Ok : goal.returns-in-Ok
unfolding copy_answer
returns-in-Ok c = rw c.in-Ok.is
