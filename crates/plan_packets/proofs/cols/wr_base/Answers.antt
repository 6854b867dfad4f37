-- `plan_packets::cols::wr_base` meets its contract.
use Rattle.plan_packets.specs.Form.ColSlots.{wr_base}
use Rattle.plan_packets.proofs.cols.wr_base.Goals as goal

pub returns : goal.returns
unfolding wr_base
returns c = rw (c.max.ensures, c.col_base.ensures, c.max-free.ensures, c.after.ensures, c.after-opened.ensures, c.saturating_sub.ensures)
