-- `record_bytes::quick::four_right` meets its contract: each of the four has its place.
use Rattle.std.proofs.Common.{◌≡◌, ℕ, ◌+◌, ◌*◌, arith}
use Rattle.record.specs.Record.{well_formed, record_at}
use Rattle.record_bytes.proofs.quick.QuickLaws.{four-say}
use Rattle.record_bytes.proofs.quick.four_right.Goals as goal

pub returns : goal.returns
returns c =
    let third = c.record_right-third in
    let second = c.record_right-second in
    let first = c.record_right-first in
    let a = c.args in
    let place : (j : ℕ) → 32 * a.i + 32 * j ≡ 32 * (a.i + j) = λ j. omega arith in
    let zero : a.i + 0 ≡ a.i = omega arith in
    four-say (λ j. well_formed a.s (record_at a.b.now (a.i + j))) first.result second.result third.result c.record_right-fourth.result
    (rw zero first.ensures) (rw (← place 1) second.ensures) (rw (← place 2) third.ensures) (rw (← place 3) c.record_right-fourth.ensures)
