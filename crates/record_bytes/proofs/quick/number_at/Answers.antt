-- `record_bytes::quick::number_at` meets its contract: a number of four bytes is the sum of its bytes, each by its place.
use Rattle.std.proofs.Common.{◌≡◌, ◌+◌, arith}
use Rattle.num.proofs.ByteLaws.{number-part, number-one}
use Rattle.record_bytes.proofs.quick.number_at.Goals as goal

pub returns : goal.returns
returns c =
    let a = c.args in
    let l = a.b.now in
    let at = a.at in
    let x : at + 2 + 1 ≡ at + 3 = omega arith in
    let high = rw x at (number-part l (at + 2) 1 1 (omega arith)) in
    omega (
      arith,
      number-part l at 2 2 (omega arith),
      number-part l at 1 1 (omega arith),
      high,
      number-one l at (omega arith),
      number-one l (at + 1) (omega arith),
      number-one l (at + 2) (omega arith),
      number-one l (at + 3) (omega arith),
    )
