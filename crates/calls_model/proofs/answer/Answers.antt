-- `calls_model::answer` meets its contract: each arm is a case of the definition.
use Rattle.spec_calls.specs.Models.{stepped_answer}
use Rattle.calls_model.proofs.answer.Goals as goal

pub returns-in-Err : goal.returns-in-Err
unfolding stepped_answer
returns-in-Err c = rw (c.in-Err.is, c.answer-why.ensures)

pub returns-in-Ok-Read : goal.returns-in-Ok-Read
unfolding stepped_answer
returns-in-Ok-Read c =
    let did = rw c.in-Ok-Read.is at c.in-Ok-Read.field-0-is in
    rw (c.in-Ok-Read.is, did) c.event.ensures

pub returns-in-Ok-Retired : goal.returns-in-Ok-Retired
unfolding stepped_answer
returns-in-Ok-Retired c =
    let did = rw c.in-Ok-Retired.is at c.in-Ok-Retired.field-0-is in
    rw (c.in-Ok-Retired.is, did) c.event-in-Ok-Retired.ensures

pub returns-in-Ok-Neither : goal.returns-in-Ok-Neither
unfolding stepped_answer
returns-in-Ok-Neither c =
    let did = rw c.in-Ok-Neither.is at c.in-Ok-Neither.field-0-is in
    rw (c.in-Ok-Neither.is, did) c.event-in-Ok-Neither.ensures
