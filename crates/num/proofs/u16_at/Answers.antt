-- `num::u16_at` meets its contract: a number of two bytes is its first and its second byte.
use native.Mathlib.Omega.{arith}
use Rattle.num.proofs.ByteLaws.{number-part, number-one}
use Prim.Native.Nat.{◌+◌}
use borrow.Author.Rules.{rules}
use Rattle.num.proofs.u16_at.Goals as goal

pub returns : goal.returns
returns c =
    let l = c.args.b.now in
    let a = c.args.at in
    (omega (arith, number-part l a 1 1 (omega arith), number-one l a (omega arith), number-one l (a + 1) (omega arith)), search rules)
