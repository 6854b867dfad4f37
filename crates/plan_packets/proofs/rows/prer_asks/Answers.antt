-- `plan_packets::rows::prer_asks` meets its contract.
use Rattle.plan_packets.specs.Form.RowSlots.{prer_asks}
use Rattle.plan_packets.proofs.rows.prer_asks.Goals as goal

pub returns : goal.returns
unfolding prer_asks
returns c = rw (c.max-2.ensures, c.max.ensures, c.after.ensures, c.max-cols.ensures, c.after_near-2.ensures, c.after_near.ensures, c.after_near-opened.ensures)
