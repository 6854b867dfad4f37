-- `num::half_at` meets its contract: a number of two bytes is its first and its second.
use Prim.Native.Nat.{◌+◌}
use native.Mathlib.Omega.{arith}
use Rattle.num.proofs.ByteLaws.{number-part, number-one}
use Rattle.num.proofs.half_at.Goals as goal

pub returns : goal.returns
returns c =
    let a = c.args in
    omega (arith, number-part a.b.now a.at 1 1 (omega arith), number-one a.b.now a.at (omega arith), number-one a.b.now (a.at + 1) (omega arith))
