-- `model_store::touching::col_touch` meets its contract: by the packet.
use Rattle.model_store.specs.Form.Touch.{col_touch}
use borrow.Author.Rules.{rules}
use Rattle.model_store.proofs.touching.col_touch.Goals as goal

pub returns-in-Nocop : goal.returns-in-Nocop
unfolding col_touch
returns-in-Nocop c = rw c.in-Nocop.is c.retire_touch.ensures

pub returns-in-Wr : goal.returns-in-Wr
unfolding col_touch
returns-in-Wr c = rw c.in-Wr.is c.retire_touch-in-Wr.ensures

pub returns-in-Rd : goal.returns-in-Rd
unfolding col_touch
returns-in-Rd c = rw (c.in-Rd.is, c.row_of.ensures)

pub row_of-requires : goal.row_of-requires
row_of-requires c =
    search
    rules
