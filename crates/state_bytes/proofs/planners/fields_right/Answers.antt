-- `state_bytes::planners::fields_right` meets its contract: its tests are those of the definition.
use Rattle.state_bytes.proofs.planners.fields_right.Goals as goal

pub returns : goal.returns
returns c = rw (c.u32_at-2.ensures, c.u32_at.ensures, c.u32_at-now.ensures)
