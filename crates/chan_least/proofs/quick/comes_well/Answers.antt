-- `chan_least::quick::comes_well` meets its contract: the tests.
use Rattle.chan_least.proofs.quick.comes_well.Goals as goal

pub returns : goal.returns
returns c = rw c.in_range.ensures
