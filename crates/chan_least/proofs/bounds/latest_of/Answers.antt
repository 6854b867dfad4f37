-- `chan_least::bounds::latest_of` meets its contract: the larger of the first two, then of that and the third.
use Rattle.chan_least.proofs.bounds.latest_of.Goals as goal

pub returns : goal.returns
returns c = rw (c.max-2.ensures, c.max.ensures)
