-- `model_store::touching::leave_touch` meets its contract: by whether the write leaves.
use Rattle.model_store.specs.Form.Touch.{retire_touch}
use Rattle.model_store.proofs.touching.leave_touch.Goals as goal

pub returns-then-leaves : goal.returns-then-leaves
unfolding retire_touch
returns-then-leaves c = rw (c.if-leaves.true, c.place_of.ensures)

pub returns-else-leaves : goal.returns-else-leaves
unfolding retire_touch
returns-else-leaves c = rw c.if-leaves.false
