-- `plan_packets::cols::retire_at` meets its contract.
use Rattle.plan_packets.specs.Form.ColSlots.{retire_at}
use Rattle.plan_packets.proofs.cols.retire_at.Goals as goal

pub returns : goal.returns
unfolding retire_at
returns c = rw (c.max.ensures, c.after.ensures, c.after-2.ensures, c.held_bank-h.ensures.0)
