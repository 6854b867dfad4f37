-- `chan_least::quick::loses` meets its contract: the three tests.
use Rattle.chan_least.proofs.quick.loses.Goals as goal

pub returns : goal.returns
returns c = rw (c.is_closed.ensures, c.is_near.ensures)
