-- A refused word meets its contract: the number is the refusal's.
use Rattle.calls_word.specs.Words.{no_word_answer}
use Rattle.calls_word.proofs.WordAnswerFromRefusal.from.Goals as goal

pub returns : goal.returns
unfolding no_word_answer
returns c = rw c.answer.ensures
