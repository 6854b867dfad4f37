-- `chan_least::bounds::prer_bound` meets its contract: the bounds are those of the definition.
use Rattle.chan_least.proofs.bounds.prer_bound.Goals as goal

pub returns : goal.returns
returns c =
    rw (
      c.max-2.ensures,
      c.max.ensures,
      c.after_gap-4.ensures,
      c.after_gap-3.ensures,
      c.max-columns.ensures,
      c.after_gap-2.ensures,
      c.after_gap.ensures,
    )
