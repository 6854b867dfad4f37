-- `chan_least::quick::opens_well` meets its contract: the state and the bound.
use Rattle.chan_least.specs.Form.Quick.{opens_well}
use Rattle.chan_least.proofs.quick.opens_well.Goals as goal

pub returns : goal.returns
unfolding opens_well
returns c = rw (c.from.ensures, c.closed_near.ensures, c.open_bound-bound.ensures, c.latest_of.ensures)
