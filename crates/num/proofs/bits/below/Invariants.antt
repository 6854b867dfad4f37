-- `num::bits::below` meets its contract: right says whether the marks of the words passed so far are below n, and left is what n has
-- past them.
use mathlib.Core.Path.{◌≡◌}
use Prim.Native.Nat.{◌-◌, ◌*◌}
use Rattle.num.specs.Search.{all_up_to}
use Rattle.num.specs.Marks.{aged}
use Rattle.num.proofs.bits.below.Given as goal

abbrev pub invariant-loop-k : goal.invariant-loop-k
invariant-loop-k l = (l.left ≡ l.n - 64 * l.k) × (l.right ≡ all_up_to (aged l.ws l.n) (64 * l.k))
