-- `chan_least::retire_least` meets its contract: the two bounds.
use Rattle.chan_least.specs.Form.Least.{retire_least}
use Rattle.chan_least.proofs.retire_least.Goals as goal

pub returns : goal.returns
unfolding retire_least
returns c = rw (c.max.ensures, c.implied_bound.ensures, c.retire_bound.ensures)
