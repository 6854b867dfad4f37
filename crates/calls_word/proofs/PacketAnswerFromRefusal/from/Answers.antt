-- A refused packet meets its contract: the number is the refusal's.
use Rattle.calls_word.specs.Words.{no_packet}
use Rattle.calls_word.proofs.PacketAnswerFromRefusal.from.Goals as goal

pub returns : goal.returns
unfolding no_packet
returns c = rw c.answer.ensures
