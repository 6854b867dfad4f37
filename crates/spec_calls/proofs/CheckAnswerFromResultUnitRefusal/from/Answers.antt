-- A verdict in numbers meets its contract: each arm is a case of the definition.
use Rattle.spec_calls.specs.Checks.{check_answer}
use Rattle.spec_calls.proofs.CheckAnswerFromResultUnitRefusal.from.Goals as goal

pub returns-in-Ok : goal.returns-in-Ok
unfolding check_answer
returns-in-Ok c = rw c.in-Ok.is

pub returns-in-Err : goal.returns-in-Err
unfolding check_answer
returns-in-Err c = rw (c.in-Err.is, c.answer-a.ensures)
