-- `chan_least::quick::closed_near` meets its contract: the three tests.
use Rattle.chan_least.proofs.quick.closed_near.Goals as goal

pub returns : goal.returns
returns c = rw (c.is_closed-3.ensures, c.is_closed-2.ensures, c.is_closed.ensures)
