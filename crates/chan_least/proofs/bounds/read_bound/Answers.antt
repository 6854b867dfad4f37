-- `chan_least::bounds::read_bound` meets its contract: the bounds are those of the definition.
use Rattle.chan_least.specs.Form.Least.{read_bound}
use Rattle.chan_least.proofs.bounds.read_bound.Goals as goal

pub returns : goal.returns
unfolding read_bound
returns c = rw (c.on_col.ensures, c.after_gap.ensures)
