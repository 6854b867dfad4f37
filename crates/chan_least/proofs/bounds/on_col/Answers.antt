-- `chan_least::bounds::on_col` meets its contract: the bounds are those of the definition.
use Rattle.chan_least.proofs.bounds.on_col.Goals as goal

pub returns : goal.returns
returns c = rw (c.max-2.ensures, c.max.ensures, c.after_gap.ensures, c.from.ensures)
