-- `state_bytes::tested::buffer_right` meets its contract: each number is the one read.
use borrow.Author.Tests.{ne_eqb}
use Rattle.state_bytes.specs.Form.Tested.{buffer_right}
use Rattle.state_bytes.proofs.tested.buffer_right.Goals as goal

pub returns-then-count-eq0 : goal.returns-then-count-eq0
unfolding buffer_right
returns-then-count-eq0 c =
    rw (
      c.u64_at-then-count-eq0.ensures,
      c.u64_at.ensures,
      ← c.u64_at-count.ensures,
      c.if-count-eq0.true,
    )

pub returns-then-count-due : goal.returns-then-count-due
unfolding buffer_right
returns-then-count-due c =
    rw (
      c.u64_at-then-count-due.ensures,
      c.write_right-older.ensures,
      ← c.u64_at-count.ensures,
      ne_eqb _ 0 c.if-count-eq0.false,
      c.if-count-due.true,
    )

pub returns : goal.returns
unfolding buffer_right
returns c =
    rw (
      c.write_right.ensures,
      c.write_right-older.ensures,
      ← c.u64_at-count.ensures,
      ne_eqb _ 0 c.if-count-eq0.false,
      c.if-count-due.false,
    )
