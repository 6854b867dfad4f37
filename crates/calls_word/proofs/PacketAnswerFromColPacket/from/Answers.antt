-- A COL packet in numbers meets its contract: each arm is a case of the definition.
use Rattle.calls_word.specs.Words.{col_numbers}
use Rattle.calls_word.proofs.PacketAnswerFromColPacket.from.Goals as goal

pub returns-in-Nocop : goal.returns-in-Nocop
unfolding col_numbers
returns-in-Nocop c = rw c.in-Nocop.is

pub returns-in-Wr : goal.returns-in-Wr
unfolding col_numbers
returns-in-Wr c = rw (c.in-Wr.is, c.access_command.ensures)

pub returns-in-Rd : goal.returns-in-Rd
unfolding col_numbers
returns-in-Rd c = rw (c.in-Rd.is, c.access_command-in-Rd.ensures)
