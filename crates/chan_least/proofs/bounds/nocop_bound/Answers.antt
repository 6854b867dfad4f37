-- `chan_least::bounds::nocop_bound` meets its contract: the bounds are those of the definition.
use Rattle.chan_least.specs.Form.Least.{nocop_bound}
use Rattle.chan_least.proofs.bounds.nocop_bound.Goals as goal

pub returns : goal.returns
unfolding nocop_bound
returns c = rw c.on_col.ensures
