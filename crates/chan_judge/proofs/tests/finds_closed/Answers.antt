-- `chan_judge::tests::finds_closed` meets its contract: the states of the three banks.
use Rattle.chan_judge.proofs.tests.finds_closed.Goals as goal

pub returns : goal.returns
returns c =
    rw (
      c.is_closed-3.ensures,
      c.is_closed-2.ensures,
      c.is_closed.ensures,
    )
