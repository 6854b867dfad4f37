-- `state_bytes::tested::tag_right` meets its contract: the tests are those of the definition.
use Rattle.state_bytes.proofs.tested.tag_right.Goals as goal

pub returns : goal.returns
returns c = rw c.is_first.ensures
