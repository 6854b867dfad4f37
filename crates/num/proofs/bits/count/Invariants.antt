-- `num::bits::count` meets its contract: n is the number of marks of the words passed so far.
use mathlib.Core.Path.{◌≡◌}
use Prim.Native.Nat.{◌*◌}
use Rattle.num.specs.Marks.{mark, count_up_to}
use Rattle.num.proofs.bits.count.Given as goal

abbrev pub invariant-loop-k : goal.invariant-loop-k
invariant-loop-k l = l.n ≡ count_up_to (mark l.ws) (64 * l.k)
