-- `IndexAnswer::from` gives the answer in numbers: each arm is a case of the definition.
use Rattle.calls_index.specs.Results.{index_answer}
use Rattle.calls_index.proofs.IndexAnswerFromResultU64IndexRefusal.from.Goals as goal

pub returns-in-Err-Refused : goal.returns-in-Err-Refused
unfolding index_answer
returns-in-Err-Refused c = let why = rw c.in-Err-Refused.is at c.in-Err-Refused.field-0-is in rw (c.in-Err-Refused.is, why, c.answer-a.ensures)

pub returns-in-Err-Differs : goal.returns-in-Err-Differs
unfolding index_answer
returns-in-Err-Differs c = let why = rw c.in-Err-Differs.is at c.in-Err-Differs.field-0-is in rw (c.in-Err-Differs.is, why)

pub returns-in-Ok : goal.returns-in-Ok
unfolding index_answer
returns-in-Ok c = rw c.in-Ok.is
