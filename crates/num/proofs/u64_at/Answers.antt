-- `num::u64_at` meets its contract: a number of eight bytes is its first four and its further four.
use native.Mathlib.Omega.{arith}
use Rattle.num.proofs.ByteLaws.{number-part}
use Rattle.num.proofs.u64_at.Goals as goal

pub returns : goal.returns
returns c = omega (arith, number-part c.args.b.now c.args.at 4 4 (omega arith))
