-- `row_word` meets its contract: each arm is `row_fields` at the packet's fields.
use Rattle.packet.specs.Row.{row_word}
use Rattle.packet.proofs.row.row_word.Goals as goal

pub returns-in-Act : goal.returns-in-Act
unfolding row_word
returns-in-Act c = rw c.in-Act.is c.row_fields.ensures

pub returns-in-Prer : goal.returns-in-Prer
unfolding row_word
returns-in-Prer c = rw c.in-Prer.is c.row_fields-in-Prer.ensures

pub returns-in-Refa : goal.returns-in-Refa
unfolding row_word
returns-in-Refa c = rw c.in-Refa.is c.row_fields-in-Refa.ensures

pub returns-in-Refp : goal.returns-in-Refp
unfolding row_word
returns-in-Refp c = rw c.in-Refp.is c.row_fields-in-Refp.ensures
