-- `word_answer` meets its contract: each arm is a case of the definition.
use Rattle.calls_word.specs.Words.{word_answer}
use Rattle.calls_word.proofs.word_answer.Goals as goal

pub returns-in-None : goal.returns-in-None
unfolding word_answer
returns-in-None c = rw c.in-None.is c.from.ensures

pub returns-in-Some : goal.returns-in-Some
unfolding word_answer
returns-in-Some c = rw c.in-Some.is
