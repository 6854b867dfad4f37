-- `plan_packets::cols::put_instead` meets its contract.
use Rattle.plan_packets.specs.Form.ColSlots.{instead_stored}
use Rattle.plan_packets.proofs.cols.put_instead.Goals as goal

pub returns-then-moved : goal.returns-then-moved
unfolding instead_stored
returns-then-moved c = rw (← c.two-moved.ensures, c.if-moved.true) (rw (c.store_retire.ensures, c.held_bank-h.ensures.0, c.u16_at-second.ensures.0) at c.put_moved.ensures)

pub returns : goal.returns
unfolding instead_stored
returns c = rw (← c.two-moved.ensures, c.if-moved.false) (rw (c.store_retire.ensures, c.held_bank-h.ensures.0) at c.put_alone.ensures)
