-- `plan_packets::cols::put_alone` meets its contract.
use Rattle.plan_packets.specs.Form.ColSlots.{alone_stored}
use Rattle.plan_packets.proofs.cols.put_alone.Goals as goal

pub returns : goal.returns
unfolding alone_stored
returns c = rw (c.put_u16.ensures, c.from.ensures, c.put_now.ensures, c.store_col.ensures, c.store_write.ensures)
