-- `plan_packets::rows::close_at` meets its contract.
use Rattle.plan_packets.specs.Form.RowSlots.{close_at}
use Rattle.plan_packets.proofs.rows.close_at.Goals as goal

pub returns : goal.returns
unfolding close_at
returns c = rw (c.max.ensures, c.row_base.ensures, c.prer_asks.ensures)
