-- `chan_judge::tests::apart` meets its contract: the bound of one last instant.
use Rattle.chan_judge.proofs.tests.apart.Goals as goal

pub returns : goal.returns
returns c =
    rw (
      c.keeps.ensures,
      c.after_gap.ensures,
    )
