-- `col_word` meets its contract: each arm is `col_fields` at the packet's fields.
use Rattle.packet.specs.Col.{col_word}
use Rattle.packet.proofs.col.col_word.Goals as goal

pub returns-in-Nocop : goal.returns-in-Nocop
unfolding col_word
returns-in-Nocop c = rw c.in-Nocop.is c.col_fields.ensures

pub returns-in-Wr : goal.returns-in-Wr
unfolding col_word
returns-in-Wr c = rw c.in-Wr.is (rw c.access_cop.ensures at c.col_fields-in-Wr.ensures)

pub returns-in-Rd : goal.returns-in-Rd
unfolding col_word
returns-in-Rd c = rw c.in-Rd.is (rw c.access_cop-in-Rd.ensures at c.col_fields-in-Rd.ensures)
