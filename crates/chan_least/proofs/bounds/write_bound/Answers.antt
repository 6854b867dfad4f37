-- `chan_least::bounds::write_bound` meets its contract: the bounds are those of the definition.
use Rattle.chan_least.specs.Form.Least.{write_bound}
use Rattle.chan_least.proofs.bounds.write_bound.Goals as goal

pub returns : goal.returns
unfolding write_bound
returns c =
    rw (
      c.on_col.ensures,
      c.max.ensures,
      c.since_wide-2.ensures,
      c.since_wide.ensures,
      c.saturating_sub-gap.ensures,
      c.from-5.ensures,
      c.from-4.ensures,
      c.from-3.ensures,
      c.saturating_sub-least.ensures,
      c.from-2.ensures,
      c.from.ensures,
    )
