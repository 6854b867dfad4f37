-- `plan_packets::rows::open_at` meets its contract.
use Rattle.plan_packets.specs.Form.RowSlots.{open_at}
use Rattle.plan_packets.proofs.rows.open_at.Goals as goal

pub returns : goal.returns
unfolding open_at
returns c = rw (c.max-3.ensures, c.max-2.ensures, c.max.ensures, c.row_base.ensures, c.after_near.ensures, c.after_near-closed.ensures, c.after_gap-other.ensures, c.other_in.ensures)
