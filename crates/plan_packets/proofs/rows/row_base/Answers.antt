-- `plan_packets::rows::row_base` meets its contract.
use Rattle.plan_packets.specs.Form.RowSlots.{row_base}
use Rattle.plan_packets.proofs.rows.row_base.Goals as goal

pub returns : goal.returns
unfolding row_base
returns c = rw (c.max-2.ensures, c.stored-3.ensures, c.max.ensures, c.after.ensures, c.max-last.ensures, c.stored-2.ensures, c.stored.ensures)
