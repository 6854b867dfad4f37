-- `state_bytes::reads::write_at` meets its contract: each number is the one read.
use Rattle.state_bytes.proofs.reads.write_at.Goals as goal

pub returns : goal.returns
returns c = rw (c.u16_at.ensures.0, c.instant_at.ensures, c.from-2.ensures, c.from.ensures)
