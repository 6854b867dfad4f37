-- `plan_packets::cols::put_closing` meets its contract.
use Rattle.plan_packets.proofs.cols.Puts.{closing-put}
use Rattle.plan_packets.proofs.cols.put_closing.Goals as goal

pub returns : goal.returns
returns c = closing-put _ _ _ c.held_bank-h.ensures.0 c.left_count-left.ensures c.newer_mask-second.ensures c.store_retire.ensures c.store_shift.ensures c.store_implied.ensures c.store_col.ensures c.put_now.ensures c.put_u16.ensures
