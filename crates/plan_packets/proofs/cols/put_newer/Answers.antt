-- `plan_packets::cols::put_newer` meets its contract.
use Rattle.plan_packets.specs.Form.ColSlots.{newer_stored}
use Rattle.plan_packets.proofs.cols.put_newer.Goals as goal

pub returns : goal.returns
unfolding newer_stored
returns c = rw (c.put_u16.ensures, c.from.ensures, c.put_now.ensures, c.store_col.ensures, c.store_beside.ensures)
