-- `check_walk::short::fields_at` meets its contract: the three numbers.
use Rattle.check_walk.proofs.short.fields_at.Goals as goal

pub returns : goal.returns
returns c = rw (c.u64_at.ensures, c.u32_at-2.ensures, c.u32_at.ensures)
