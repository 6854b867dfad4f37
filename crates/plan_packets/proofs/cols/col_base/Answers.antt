-- `plan_packets::cols::col_base` meets its contract.
use Rattle.plan_packets.specs.Form.ColSlots.{col_base}
use Rattle.plan_packets.proofs.cols.col_base.Goals as goal

pub returns : goal.returns
unfolding col_base
returns c = rw (c.max-2.ensures, c.after.ensures, c.max.ensures, c.stored-2.ensures, c.stored.ensures)
