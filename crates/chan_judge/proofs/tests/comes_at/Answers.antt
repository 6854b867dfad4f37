-- `chan_judge::tests::comes_at` meets its contract: by the arrival.
use Rattle.chan_judge.specs.Form.Tests.{comes_at}
use Rattle.chan_judge.proofs.tests.comes_at.Goals as goal

pub returns-in-Some : goal.returns-in-Some
unfolding comes_at
returns-in-Some c = rw c.in-Some.is

pub returns-in-None : goal.returns-in-None
unfolding comes_at
returns-in-None c = rw c.in-None.is
