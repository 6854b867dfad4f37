-- `plan_packets::cols::closing_at` meets its contract.
use Rattle.plan_packets.specs.Form.ColSlots.{nocop_at, closing_at}
use Rattle.plan_packets.proofs.cols.closing_at.Goals as goal

pub returns : goal.returns
unfolding nocop_at closing_at
returns c = rw (c.max.ensures, c.saturating_sub.ensures, c.from.ensures, c.prer_asks.ensures, c.max-t.ensures, c.retire_at.ensures, c.col_base.ensures, c.held_bank-h.ensures.0)
