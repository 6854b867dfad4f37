-- `state_bytes::tested::channel_right` meets its contract: its parts are those of the definition.
use Rattle.state_bytes.specs.Form.Tested.{channel_tested}
use Rattle.state_bytes.proofs.tested.channel_right.Goals as goal

pub returns : goal.returns
unfolding channel_tested
returns c = rw (c.buffer_right.ensures, c.tags_right.ensures, c.instants_right.ensures)
