-- `chan_judge::tests::closes_named` meets its contract: each way out decides the test.
use Rattle.chan_judge.proofs.tests.closes_named.Goals as goal

pub returns-then-h-out : goal.returns-then-h-out
returns-then-h-out c = rw c.if-h-out.true c.is_near.ensures

pub returns : goal.returns
returns c = rw c.if-h-out.false
