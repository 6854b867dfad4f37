-- `chan_view::bounds::after_gap` meets its contract: the distance is the same number in 64 bits.
use Rattle.chan_view.proofs.bounds.after_gap.Goals as goal

pub returns : goal.returns
returns c = rw c.from.ensures at c.since_wide.ensures
