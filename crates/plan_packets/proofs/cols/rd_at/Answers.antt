-- `plan_packets::cols::rd_at` meets its contract.
use Rattle.plan_packets.specs.Form.ColSlots.{rd_at}
use Rattle.plan_packets.proofs.cols.rd_at.Goals as goal

pub returns : goal.returns
unfolding rd_at
returns c = rw (c.max.ensures, c.after.ensures, c.col_base.ensures)
