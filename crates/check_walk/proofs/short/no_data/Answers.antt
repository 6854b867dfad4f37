-- `check_walk::short::no_data` meets its contract: the two numbers.
use Rattle.check_walk.proofs.short.no_data.Goals as goal

pub returns : goal.returns
returns c = rw (c.u64_at-dqb.ensures, c.u64_at-dqa.ensures)
