-- `chan_judge::tests::turned` meets its contract: the distance in 64 bits.
use Rattle.chan_judge.proofs.tests.turned.Goals as goal

pub returns : goal.returns
returns c =
    rw (
      c.keeps.ensures,
      c.since_wide.ensures,
      c.saturating_sub-gap.ensures,
      c.from-3.ensures,
      c.from-2.ensures,
      c.from.ensures,
    )
