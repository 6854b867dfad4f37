-- `chan_judge::tests::in_order` meets its contract: the four tests.
use Rattle.chan_judge.proofs.tests.in_order.Goals as goal

pub returns : goal.returns
returns c =
    rw (
      c.data_in_time.ensures,
      c.in_range.ensures,
    )
