-- `num::bits::pushed` meets its contract: the words written so far are those of the marks d later, and low is the word of those that
-- stand q words later which comes before the next.
use mathlib.Core.Path.{◌≡◌}
use Prim.Native.Nat.{◌+◌}
use lib.ListN.{length, take}
use Rattle.num.specs.Marks.{mark, later, words}
use Rattle.num.specs.Form.Across.{back}
use Rattle.num.proofs.bits.pushed.Given as goal

abbrev pub invariant-loop-k : goal.invariant-loop-k
invariant-loop-k l = (length l.out ≡ 16) × (l.low ≡ back l.ws (l.q + 1) l.k) × (take l.k l.out ≡ words (later (mark l.ws) l.d) l.k)
