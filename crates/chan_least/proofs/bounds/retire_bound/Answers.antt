-- `chan_least::bounds::retire_bound` meets its contract: the bounds are those of the definition.
use Rattle.chan_least.specs.Form.Least.{retire_bound}
use Rattle.chan_least.proofs.bounds.retire_bound.Goals as goal

pub returns : goal.returns
unfolding retire_bound
returns c =
    rw (
      c.max.ensures,
      c.after_gap.ensures,
      c.from-2.ensures,
      c.from.ensures,
    )
