-- One turn of the search: a start that is tried, and one that need not be.
-- Assumes nothing.
use Rattle.std.specs.Prelude.{Option, None, Some}
use Prim.Native.Nat.{ℕ, zero, suc, ◌-◌, ◌<◌}
use mathlib.Core.Path.{◌≡◌, refl, sym, ap, ◌∙◌}
use mathlib.Core.Bool.{Bool, true, false, not, ◌||◌}
use mathlib.Core.List.{List}
use lib.ListN.{length}
use native.Mathlib.Omega.{arith}
use borrow.Author.Tests.{ltb-true}
use Rattle.record.specs.declared.Record.{Record}
use Rattle.spec_rules.specs.Neighbour.{Context}
use Rattle.spec_rules.specs.Packets.{traits}
use Rattle.spec_rules.specs.History.{has}
use Rattle.spec_rules.specs.Broken.{record_in, first_broken}
use Rattle.spec_rules.proofs.Bools.{not-both}
use Rattle.spec_check.specs.Shortest.{run, still_breaks, last_true}
use Rattle.spec_check.proofs.ShortestLaws.{last-skips, last_found, early-front, early-fails}
use Rattle.check_list.specs.declared.shortest.Tried.{Tried}
use Rattle.check_list.specs.Form.Tried.{tried_at}

-- the index itself, where the test holds there, and else the one before it
pub last-here : (f : ℕ → Bool) (i : ℕ) → 0 < i → f i ≡ true → last_true f i ≡ i
last-here f zero h e = absurd (omega arith)
last-here f (suc m) h e = last_found f m e

last-before : (f : ℕ → Bool) (i : ℕ) → 0 < i → f i ≡ false → last_true f i ≡ last_true f (i - 1)
last-before f zero h e = absurd (omega arith)
last-before f (suc m) h e = let q : suc m - 1 ≡ m = omega arith in rw q (last-skips f m e)

no-bank : (o : Option ℕ) → has o ≡ false → o ≡ None
no-bank None e = refl
no-bank (Some b) e = not-both true refl e

module _ (cx : Context) (rs : List Record) (n j : ℕ) where
  -- what the search knows at i: the start m that it looks for is not after i; and where the flag says so, the run after i is refused
  -- before record j
  abbrev pub Searched : ℕ → ℕ → Bool → Type 0
  Searched m i early = (m ≡ last_true (still_breaks cx rs n j) i) × (early ≡ true → first_broken cx (run rs (suc i) j) < j - suc i)

  pub turn-tried : (m i : ℕ) (early : Bool) (t : Tried) → 0 < i → Searched m i early → t ≡ tried_at cx rs n j i → t.found ≡ false → Searched m (i - 1) t.early
  unfolding tried_at
  turn-tried m i early t h s e f =
      let q : suc (i - 1) ≡ i = omega arith in (
        s.0 ∙ last-before (still_breaks cx rs n j) i h (ap (λ (x : Tried). x.found) (sym e) ∙ f),
        λ y. rw q (ltb-true _ _ (ap (λ (x : Tried). x.early) (sym e) ∙ y)),
      )

  pub turn-skipped : (m i : ℕ) (early : Bool) → 0 < i → j < length rs → Searched m i early → not early || has (traits (record_in rs i)).opens ≡ false → Searched m (i - 1) early
  turn-skipped m i false h k s e = not-both true refl e
  turn-skipped m i true h k s e =
      let q : suc (i - 1) ≡ i = omega arith in
      let b : first_broken cx (run rs i j) < j - i = early-front cx rs j k i (no-bank (traits (record_in rs i)).opens e) (s.1 refl) in
      (s.0 ∙ last-before (still_breaks cx rs n j) i h (early-fails cx rs j k n i b), λ y. rw q b)
