-- `chan_least::bounds::open_bound` meets its contract: the bounds are those of the definition.
use Rattle.chan_least.specs.Form.Least.{open_bound}
use Rattle.chan_least.proofs.bounds.open_bound.Goals as goal

pub returns : goal.returns
unfolding open_bound
returns c = rw (c.on_row.ensures, c.max.ensures, c.after_gap.ensures)
