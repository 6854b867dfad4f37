-- `log_block::count_right` meets its contract: each way out decides one of the tests of the count.
use Rattle.std.proofs.Common.{arith, le-leb}
use borrow.Author.Tests.{lt-leb}
use Rattle.log_block.specs.Block.{used}
use Rattle.log_block.proofs.count_right.Goals as goal

pub returns-then-n-lt1 : goal.returns-then-n-lt1
returns-then-n-lt1 c = rw (lt-leb 1 (used c.args.b.now) (omega arith))

pub returns-then-per-n : goal.returns-then-per-n
returns-then-per-n c = rw (le-leb 1 (used c.args.b.now) (omega arith), lt-leb (used c.args.b.now) c.args.per (omega arith))

pub returns-then-last : goal.returns-then-last
returns-then-last c = rw (le-leb 1 (used c.args.b.now) (omega arith), le-leb (used c.args.b.now) c.args.per (omega arith), c.if-last.true)

pub returns : goal.returns
returns c = rw (le-leb 1 (used c.args.b.now) (omega arith), le-leb (used c.args.b.now) c.args.per (omega arith), c.if-last.false, c.u32_at-n.ensures)
