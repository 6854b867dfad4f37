-- `check_walk::short::reads_beside` meets its contract: by the state of the buffer.
use Rattle.check_walk.specs.Form.Short.{reads_beside}
use Rattle.check_walk.proofs.short.reads_beside.Goals as goal

pub returns-in-Empty : goal.returns-in-Empty
unfolding reads_beside
returns-in-Empty c = rw c.in-Empty.is

pub returns-in-One : goal.returns-in-One
unfolding reads_beside
returns-in-One c = rw c.in-One.is

pub returns-in-Two : goal.returns-in-Two
unfolding reads_beside
returns-in-Two c = rw c.in-Two.is
