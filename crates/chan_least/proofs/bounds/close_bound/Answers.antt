-- `chan_least::bounds::close_bound` meets its contract: the bounds are those of the definition.
use Rattle.chan_least.specs.Form.Least.{close_bound}
use Rattle.chan_least.proofs.bounds.close_bound.Goals as goal

pub returns : goal.returns
unfolding close_bound
returns c = rw (c.on_row.ensures, c.prer_bound.ensures)
