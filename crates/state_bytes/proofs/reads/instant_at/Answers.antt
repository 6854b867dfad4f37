-- `state_bytes::reads::instant_at` meets its contract: 0 stands for none, any other number for an instant of 3 more.
use native.Mathlib.Omega.{arith}
use borrow.Author.Tests.{eq-eqb, ne_eqb}
use Rattle.state_bytes.proofs.reads.instant_at.Goals as goal

pub overflow_add-result : goal.overflow_add-result
overflow_add-result c =
    let n = c.u32_at-n.ensures in omega arith

pub returns-then-n-eq0 : goal.returns-then-n-eq0
returns-then-n-eq0 c = rw (eq-eqb _ 0 (rw c.u32_at-n.ensures at c.if-n-eq0.true))

pub returns-else-n-eq0 : goal.returns-else-n-eq0
returns-else-n-eq0 c = rw (ne_eqb _ 0 (rw c.u32_at-n.ensures at c.if-n-eq0.false), c.u32_at-n.ensures)
