-- `calls_plan::ways::answer` meets its contract: each arm is a case of the definition.
use Rattle.spec_calls.specs.Plans.{plan_answer}
use Rattle.calls_plan.proofs.ways.answer.Goals as goal

pub returns-in-Err : goal.returns-in-Err
unfolding plan_answer
returns-in-Err c = rw (c.in-Err.is, c.answer-a.ensures)

pub returns-in-Ok : goal.returns-in-Ok
unfolding plan_answer
returns-in-Ok c = rw c.in-Ok.is
