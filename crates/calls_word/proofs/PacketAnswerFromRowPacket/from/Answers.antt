-- A ROW packet in numbers meets its contract: each arm is a case of the definition.
use Rattle.calls_word.specs.Words.{row_numbers}
use Rattle.calls_word.proofs.PacketAnswerFromRowPacket.from.Goals as goal

pub returns-in-Act : goal.returns-in-Act
unfolding row_numbers
returns-in-Act c = rw c.in-Act.is

pub returns-in-Prer : goal.returns-in-Prer
unfolding row_numbers
returns-in-Prer c = rw c.in-Prer.is

pub returns-in-Refa : goal.returns-in-Refa
unfolding row_numbers
returns-in-Refa c = rw c.in-Refa.is

pub returns-in-Refp : goal.returns-in-Refp
unfolding row_numbers
returns-in-Refp c = rw c.in-Refp.is
