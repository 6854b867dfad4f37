-- `state_bytes::reads::due_at` meets its contract: the byte is the one read.
use mathlib.Core.Path.{refl}
use Rattle.state_bytes.proofs.reads.due_at.Goals as goal

pub returns : goal.returns
returns c = refl
