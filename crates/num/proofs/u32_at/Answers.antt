-- `num::u32_at` meets its contract: a number of four bytes is its first two and its further two.
use native.Mathlib.Omega.{arith}
use Rattle.num.proofs.ByteLaws.{number-part}
use Rattle.num.proofs.u32_at.Goals as goal

pub returns : goal.returns
returns c = omega (arith, number-part c.args.b.now c.args.at 2 2 (omega arith))
