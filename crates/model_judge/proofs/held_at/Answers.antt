-- `model_judge::held_at` meets its contract: the buffer and whether data are due are those of the state.
use Rattle.spec_state.specs.ChannelBytes.{channel_in}
use Rattle.model_judge.proofs.held_at.Goals as goal

pub returns : goal.returns
unfolding channel_in
returns c = rw (c.held_of.ensures, c.due_at.ensures, c.buffer_at.ensures)
