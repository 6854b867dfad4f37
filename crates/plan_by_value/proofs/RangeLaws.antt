-- One walk over the banks, each with the one below it, tests every pair of neighbours.
-- Assumes nothing.
use Prim.Native.Nat.{ℕ, ◌≤◌, ◌<◌}
use mathlib.Core.Path.{◌≡◌, refl, sym, ◌∙◌, ap}
use mathlib.Core.Bool.{Bool, true, false, not, ◌||◌, or_comm}
use mathlib.Core.Logic.{◌⊎◌, ⊎_elim, inl, inr}
use native.Mathlib.Omega.{arith}
use borrow.Author.Tests.{ne_eqb, ltb-true, ltb-false}
use lib.Dec.{eqb, ltb}
use lib.ListN.{length}
use Rattle.num.specs.Search.{all_up_to}
use Rattle.num.proofs.SearchLaws.{all-at, all-intro}
use Rattle.settings.specs.declared.Settings.{Settings}
use Rattle.spec_rules.specs.declared.BankTrack.{BankTrack}
use Rattle.spec_rules.specs.declared.Channel.{Channel}
use Rattle.spec_rules.specs.Neighbour.{bank_count, context_of}
use Rattle.spec_rules.specs.History.{is_closed}
use Rattle.spec_rules.specs.Channel.{state_of}
use Rattle.spec_rules.proofs.Bools.{iff-eq, not-both}
use Rattle.spec_rules.proofs.NeighbourLaws.{core-neighbours}
use Rattle.spec_state.specs.Valid.{apart}
use Rattle.chan_view.specs.Form.Beside.{low_of, high_of}
use Rattle.chan_view.proofs.NearLaws.{or_right, Beside, own, low, high, Below, no-low, one-low, below, Above, no-high, one-high, above, near-beside, near-low}
use Rattle.chan_view.proofs.PlaceLaws.{past}
use Rattle.plan_by_value.specs.Form.Tested.{low_apart}

module _ (s : Settings) (ch : Channel) (e : length ch.banks ≡ 32) where
  abbrev shut : ℕ → Bool
  shut x = is_closed (state_of ch x)

  -- a number that is no bank counts as closed
  shut-past : (x : ℕ) → 32 ≤ x → shut x ≡ true
  unfolding is_closed
  shut-past x h = ap (λ (k : BankTrack). is_closed k.bank) (past ch.banks e x h)

  -- no bank is its own neighbour
  other : (x y : ℕ) → (context_of s).nbr x y ≡ true → x ≡ y → ⊥
  other x y h q = not-both ((context_of s).nbr x y) h (rw q ((core-neighbours s).irreflexive y))

  -- of two neighbours one is the bank below the other
  one_below : (x y : ℕ) → x < 32 → y < 32 → (context_of s).nbr x y ≡ true → (y ≡ low_of s x) ⊎ (x ≡ low_of s y)
  one_below x y l m h = go (near-beside s x y (or_right (eqb y x) _ h)) (near-beside s y x (or_right (eqb x y) _ ((core-neighbours s).symmetric y x ∙ h)))
    where
      cross : Above s x → Above s y → y ≡ high_of s x → x ≡ high_of s y → ⊥
      cross (no-high a b) v p q = omega arith
      cross (one-high a b) (no-high f g) p q = omega arith
      cross (one-high a b) (one-high f g) p q = omega arith

      go : Beside s x y → Beside s y x → (y ≡ low_of s x) ⊎ (x ≡ low_of s y)
      go (low p) v = inl p
      go (own p) v = absurd (other x y h (sym p))
      go (high p) (low q) = inr q
      go (high p) (own q) = absurd (other x y h q)
      go (high p) (high q) = absurd (cross (above s x) (above s y) p q)

  pair : (x y : ℕ) → x < 32 → y < 32 → all_up_to (low_apart s ch) 32 ≡ true → not ((context_of s).nbr x y) || (shut x || shut y) ≡ true
  pair x y l m h = go ((context_of s).nbr x y) refl
    where
      go : (b : Bool) → (context_of s).nbr x y ≡ b → not b || (shut x || shut y) ≡ true
      go false q = refl
      go true q =
          ⊎_elim (λ p. rw p (or_comm (shut x) (shut (low_of s x)) ∙ all-at (low_apart s ch) 32 x h l)) (λ p. rw p (all-at (low_apart s ch) 32 y h m))
          (one_below x y l m q)

  lower : (x : ℕ) → x < 32 → ((y : ℕ) → y < 32 → not ((context_of s).nbr x y) || (shut x || shut y) ≡ true) → low_apart s ch x ≡ true
  lower x l h = go (ltb (low_of s x) 32) refl
    where
      differs : Below s x → low_of s x < 32 → low_of s x ≡ x → ⊥
      differs (no-low a b) m q = omega arith
      differs (one-low a b) m q = omega arith

      go : (b : Bool) → ltb (low_of s x) 32 ≡ b → low_apart s ch x ≡ true
      go false q = rw (shut-past (low_of s x) (ltb-false (low_of s x) 32 q))
      go true q =
          let m : low_of s x < 32 = ltb-true (low_of s x) 32 q in
          let n : (context_of s).nbr x (low_of s x) ≡ true = rw (ne_eqb (low_of s x) x (differs (below s x) m)) at (near-low s x m) in
          or_comm (shut (low_of s x)) (shut x) ∙ (rw n at (h (low_of s x) m))

  pub lows-apart : all_up_to (low_apart s ch) 32 ≡ apart (context_of s) (state_of ch)
  unfolding apart bank_count
  lows-apart =
      iff-eq _ _ (λ h. all-intro _ 32 (λ x l. all-intro _ 32 (λ y m. pair x y l m h)))
      (λ h. all-intro _ 32 (λ x l. lower x l (λ y m. all-at _ 32 y (all-at _ 32 x h l) m)))
