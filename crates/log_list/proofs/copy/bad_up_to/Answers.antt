-- `bad_up_to` meets its contract: the test is the definition's.
use Prim.Native.Nat.{◌*◌, ◌≤◌}
use native.Mathlib.Nat.{mul-le-mul_right}
use native.Mathlib.Omega.{arith}
use borrow.Author.Tests.{eq-eqb, ne_eqb}
use Rattle.log_block.specs.Block.{used, block_at}
use Rattle.log_list.proofs.BadLaws.{bad-most}
use Rattle.log_list.proofs.copy.bad_up_to.Goals as goal

pub overflow_mul-first : goal.overflow_mul-first
overflow_mul-first c =
    let a = c.args in
    let m : a.per.records * a.k ≤ 15 * a.k = mul-le-mul_right a.k a.per.few in
    omega arith

pub overflow_add-result : goal.overflow_add-result
overflow_add-result c =
    let a = c.args in
    let b = block_at a.log.now a.k in
    let m : a.per.records * a.k ≤ 15 * a.k = mul-le-mul_right a.k a.per.few in
    omega (arith, bad-most a.s b (used b))

pub returns-then-bad-first : goal.returns-then-bad-first
returns-then-bad-first c =
    let a = c.args in
    rw (eq-eqb a.bad (a.per.records * a.k) c.if-bad-first.true, c.bad_in_block.ensures)

pub returns : goal.returns
returns c =
    let a = c.args in
    rw (ne_eqb a.bad (a.per.records * a.k) c.if-bad-first.false)
