-- `plan_packets::cols::put_nocop` meets its contract.
use Rattle.plan_packets.specs.Form.ColSlots.{nocop_stored}
use Rattle.plan_packets.proofs.cols.put_nocop.Goals as goal

pub returns : goal.returns
unfolding nocop_stored
returns c = rw (c.put_u16.ensures, c.put_now.ensures, c.store_col.ensures, c.store_shift.ensures, c.store_retire.ensures, c.newer_mask-second.ensures, c.left_count-left.ensures, c.held_bank-h.ensures.0)
