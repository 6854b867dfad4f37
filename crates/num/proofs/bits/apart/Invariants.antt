-- `num::bits::apart` meets its contract: right says whether the marks of the words passed so far stand alone, and low is the next word.
use mathlib.Core.Path.{◌≡◌}
use Prim.Native.Nat.{◌*◌}
use lib.ListN.{get_or}
use Rattle.num.specs.Search.{all_up_to}
use Rattle.num.specs.Marks.{alone}
use Rattle.num.proofs.bits.apart.Given as goal

abbrev pub invariant-loop-k : goal.invariant-loop-k
invariant-loop-k l = (l.low ≡ get_or l.ws l.k 0) × (l.right ≡ all_up_to (alone l.ws) (64 * l.k))
