-- `placed` meets its contract: the tests are the definition's, in their order.
use Rattle.std.proofs.Common.{le-ltb, lt-ltb}
use Rattle.record.specs.Request.{placed}
use Rattle.record_bytes.proofs.requests.placed.Goals as goal

pub returns-then-p-ge32 : goal.returns-then-p-ge32
unfolding placed
returns-then-p-ge32 c = rw (le-ltb _ 32 c.if-p-ge32.true)

pub returns-then-s-p : goal.returns-then-s-p
unfolding placed
returns-then-s-p c =
    let s = c.args.s in
    rw (lt-ltb _ 32 c.if-p-ge32.false, le-ltb _ s.rows c.if-s-p.true)

pub returns-then-s-p-2 : goal.returns-then-s-p-2
unfolding placed
returns-then-s-p-2 c =
    let s = c.args.s in
    rw (lt-ltb _ 32 c.if-p-ge32.false, lt-ltb _ s.rows c.if-s-p.false, le-ltb _ s.columns c.if-s-p-2.true)

pub returns : goal.returns
unfolding placed
returns c =
    let s = c.args.s in
    rw (lt-ltb _ 32 c.if-p-ge32.false, lt-ltb _ s.rows c.if-s-p.false, lt-ltb _ s.columns c.if-s-p-2.false)
