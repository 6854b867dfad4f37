-- `chan_judge::tests::spared` meets its contract: the test is that of the definition.
use Rattle.chan_judge.proofs.tests.spared.Goals as goal

pub returns : goal.returns
returns c =
    rw (
      c.is_closed.ensures,
      c.is_near.ensures,
    )
