-- `plan_packets::cols::put_moved` meets its contract.
use Rattle.plan_packets.specs.Form.ColSlots.{moved_stored}
use Rattle.plan_packets.proofs.cols.put_moved.Goals as goal

pub returns : goal.returns
unfolding moved_stored
returns c = rw (c.put_u16-2.ensures, c.from-2.ensures, c.put_u16.ensures, c.from.ensures, c.put_now.ensures, c.store_col.ensures, c.store_behind.ensures)
