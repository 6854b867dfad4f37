-- `check_walk::short::is_after` meets its contract: the sum in 64 bits.
use Rattle.check_walk.proofs.short.is_after.Goals as goal

pub returns : goal.returns
returns c = rw (c.from-3.ensures, c.from-2.ensures, c.from.ensures)
