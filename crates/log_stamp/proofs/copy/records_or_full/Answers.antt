-- `records_or_full` meets its contract: the test is the definition's.
use Prim.Native.Nat.{◌/◌}
use borrow.Author.Tests.{le-leb, lt-leb}
use Rattle.log_stamp.proofs.copy.records_or_full.Goals as goal

pub returns-then-n-room : goal.returns-then-n-room
returns-then-n-room c = rw (le-leb c.args.n (c.args.room / 32) c.if-n-room.true)

pub returns : goal.returns
returns c = rw (lt-leb c.args.n (c.args.room / 32) c.if-n-room.false)
