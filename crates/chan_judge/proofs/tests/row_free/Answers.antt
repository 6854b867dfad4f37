-- `chan_judge::tests::row_free` meets its contract: the test of the last instant is its own.
use Rattle.chan_judge.proofs.tests.row_free.Goals as goal

pub returns : goal.returns
returns c = rw c.apart.ensures
