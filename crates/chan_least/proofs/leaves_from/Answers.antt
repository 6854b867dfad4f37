-- `chan_least::leaves_from` meets its contract: the sum in 64 bits, and rules 12 and 17.
use Rattle.chan_least.proofs.leaves_from.Goals as goal

pub returns : goal.returns
returns c = rw (c.may_stay.ensures, c.from-2.ensures, c.from.ensures)
