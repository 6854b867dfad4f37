-- `plan_packets::cols::put_wr` meets its contract.
use Rattle.plan_packets.specs.Form.ColSlots.{wr_stored}
use Rattle.plan_packets.proofs.cols.put_wr.Goals as goal

pub returns-then-leaves : goal.returns-then-leaves
unfolding wr_stored
returns-then-leaves c = rw c.if-leaves.true c.put_instead.ensures

pub returns-then-waits : goal.returns-then-waits
unfolding wr_stored
returns-then-waits c = rw (c.if-leaves.false, ← c.waits.ensures, c.if-waits.true) c.put_newer.ensures

pub returns : goal.returns
unfolding wr_stored
returns c = rw (c.if-leaves.false, ← c.waits.ensures, c.if-waits.false) c.put_alone.ensures
