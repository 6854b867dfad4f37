-- `plan_by_value::packets::is_late` meets its contract: the test of the code is the opposite of the definition's.
use Prim.Native.Nat.{ℕ, ◌+◌}
use mathlib.Core.Path.{◌≡◌, refl}
use mathlib.Core.Bool.{Bool, true, false, not}
use lib.Dec.{leb, ltb}
use borrow.Author.Tests.{leb-true, leb-false, lt-ltb, le-ltb}
use Rattle.plan_by_value.proofs.packets.is_late.Goals as goal

above : (a b : ℕ) → ltb a b ≡ not (leb b a)
above a b = go (leb b a) refl
  where
    go : (t : Bool) → leb b a ≡ t → ltb a b ≡ not t
    go true e = le-ltb a b (leb-true b a e)
    go false e = lt-ltb a b (leb-false b a e)

pub returns : goal.returns
returns c = rw c.from.ensures (above 1000000000 (c.args.slot + c.args.delay))
