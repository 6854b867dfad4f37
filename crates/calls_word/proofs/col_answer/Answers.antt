-- `col_answer` meets its contract: each arm is a case of the definition.
use Rattle.calls_word.specs.Words.{col_answer}
use Rattle.calls_word.proofs.col_answer.Goals as goal

pub returns-in-None : goal.returns-in-None
unfolding col_answer
returns-in-None c = rw c.in-None.is c.from.ensures

pub returns-in-Some : goal.returns-in-Some
unfolding col_answer
returns-in-Some c = rw c.in-Some.is c.from-in-Some.ensures
