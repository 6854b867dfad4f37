-- `chan_judge::tests::finds_open` meets its contract: the states of the two banks.
use Rattle.chan_judge.proofs.tests.finds_open.Goals as goal

pub returns : goal.returns
returns c =
    rw (
      c.is_open-2.ensures,
      c.closes_named.ensures,
      c.is_open.ensures,
    )
