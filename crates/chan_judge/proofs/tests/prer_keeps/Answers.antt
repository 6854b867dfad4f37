-- `chan_judge::tests::prer_keeps` meets its contract: where there is none, no bound is asked.
use Prim.Native.Nat.{ℕ}
use mathlib.Core.Path.{◌≡◌, refl, sym}
use mathlib.Core.Bool.{Bool, true, false, not, ◌||◌}
use lib.Dec.{leb, leb-zero}
use Rattle.chan_view.specs.Form.Bounds.{bound_if}
use Rattle.chan_judge.proofs.tests.prer_keeps.Goals as goal

flagged : (applies : Bool) (bound t : ℕ) → (not applies || leb bound t) ≡ leb (bound_if applies bound) t
flagged true bound t = refl
flagged false bound t = sym (leb-zero t)

pub returns : goal.returns
returns c =
    let a = c.args in flagged a.p.applies a.bound a.p.at
