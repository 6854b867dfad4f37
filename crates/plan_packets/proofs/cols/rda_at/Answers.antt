-- `plan_packets::cols::rda_at` meets its contract.
use Rattle.plan_packets.specs.Form.ColSlots.{rda_at}
use Rattle.plan_packets.proofs.cols.rda_at.Goals as goal

pub returns : goal.returns
unfolding rda_at
returns c = rw (c.max.ensures, c.saturating_sub.ensures, c.from.ensures, c.prer_asks.ensures, c.rd_at.ensures)
