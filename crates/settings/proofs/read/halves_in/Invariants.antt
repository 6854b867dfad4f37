-- `settings::halves_in` meets its contract: after i turns the first i numbers are read.
use mathlib.Core.Path.{◌≡◌}
use Prim.Native.Nat.{ℕ, ◌<◌}
use lib.ListN.{length, get_or}
use Rattle.settings.specs.Settings.{half}
use Rattle.settings.proofs.read.halves_in.Given as goal

abbrev pub invariant-loop-i : goal.invariant-loop-i
invariant-loop-i l = (length l.h ≡ 16) × ((k : ℕ) → k < l.i → get_or l.h k 0 ≡ half l.b k)
