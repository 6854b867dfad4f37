-- `chan_least::act_in` meets its contract: each way out decides the test.
use Rattle.chan_least.proofs.act_in.Goals as goal

pub returns-then-opens : goal.returns-then-opens
returns-then-opens c = rw (c.act_bound.ensures, c.if-opens.true)

pub returns : goal.returns
returns c = rw c.if-opens.false
