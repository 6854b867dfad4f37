-- `chan_judge::tests::row_ready` meets its contract: the three distances.
use Rattle.chan_judge.proofs.tests.row_ready.Goals as goal

pub returns : goal.returns
returns c =
    rw (
      c.apart-2.ensures,
      c.apart.ensures,
      c.keeps-write.ensures,
      c.since_wide.ensures,
      c.saturating_sub-least.ensures,
      c.from-2.ensures,
      c.from.ensures,
    )
