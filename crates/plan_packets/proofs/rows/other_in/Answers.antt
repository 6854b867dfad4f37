-- `plan_packets::rows::other_in` meets its contract.
use borrow.Author.Tests.{lt-ltb, le-ltb}
use Rattle.plan_packets.specs.Form.RowSlots.{other_in}
use Rattle.plan_packets.proofs.rows.other_in.Goals as goal

pub returns-then-s : goal.returns-then-s
unfolding other_in
returns-then-s c = rw (lt-ltb _ _ c.if-s.true) c.far_in.ensures

pub returns-else-s : goal.returns-else-s
unfolding other_in
returns-else-s c = rw (le-ltb _ _ c.if-s.false) c.latest_in.ensures
