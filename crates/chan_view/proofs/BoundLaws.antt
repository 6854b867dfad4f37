-- What the banks ask of a deed at bank b is what the tracks of that bank and its neighbours ask.
-- Assumes nothing.
use Prim.Native.Nat.{ℕ, ◌≤◌, max}
use mathlib.Core.Path.{◌≡◌, refl, ap, sym, ◌∙◌}
use mathlib.Core.Bool.{Bool, true, false}
use mathlib.Core.List.{List}
use native.Mathlib.Nat.{zero-max, max-zero}
use native.Mathlib.Omega.{arith}
use borrow.Author.Tests.{eqb-true, eqb-false, ne_eqb}
use lib.Dec.{eqb}
use lib.ListN.{length, get_or}
use Rattle.settings.specs.declared.Settings.{Settings}
use Rattle.spec_rules.specs.declared.BankTrack.{BankTrack}
use Rattle.spec_rules.specs.declared.Channel.{Channel}
use Rattle.spec_rules.specs.Neighbour.{bank_count, context_of, near}
use Rattle.spec_rules.specs.Distances.{Kind, packet, ROW, COL, ACT, only_act, PRER, RD, WR, retire, implied}
use Rattle.spec_rules.specs.Channel.{idle, track_of}
use Rattle.spec_rules.specs.Checks.{since, last_at, bound_banks}
use Rattle.chan_view.specs.Form.Beside.{low_of, high_of, first_near, last_near}
use Rattle.chan_view.specs.Form.Bounds.{three}
use Rattle.chan_view.proofs.NearLaws.{Below, no-low, one-low, Above, no-high, one-high, below, above, near-max, same-max}
use Rattle.chan_view.proofs.PlaceLaws.{past}

-- an idle bank asks nothing
idle-asks : (a : Kind) → last_at idle a ≡ 0
idle-asks packet = refl
idle-asks ROW = refl
idle-asks COL = refl
idle-asks ACT = refl
idle-asks only_act = refl
idle-asks PRER = refl
idle-asks RD = refl
idle-asks WR = refl
idle-asks retire = refl
idle-asks implied = refl

module _ (s : Settings) (ch : Channel) (e : length ch.banks ≡ 32) (a : Kind) (gap b : ℕ) where
  none-past : (x : ℕ) → 32 ≤ x → last_at (track_of ch x) a ≡ 0
  none-past x h = ap (λ (k : BankTrack). last_at k a) (past ch.banks e x h) ∙ idle-asks a

  -- a bank and its neighbours
  pub near-bound : bound_banks (context_of s) ch (near (context_of s)) a gap b
      ≡ three (last_at (track_of ch b) a) (last_at (track_of ch (low_of s b)) a) (last_at (track_of ch (high_of s b)) a) gap
  unfolding bank_count
  near-bound = near-max gap (λ x. last_at (track_of ch x) a) none-past s b

  -- the bank itself
  pub own-bound : bound_banks (context_of s) ch (λ b x. eqb x b) a gap b ≡ since (last_at (track_of ch b) a) gap
  unfolding bank_count
  own-bound = same-max gap (λ x. last_at (track_of ch x) a) none-past b

-- ---- the latest of several last instants asks what they ask

pub since-max : (a b g : ℕ) → since (max a b) g ≡ max (since a g) (since b g)
since-max a b g = go (eqb a 0) refl (eqb b 0) refl
  where
    both : (a ≡ 0 → ⊥) → (b ≡ 0 → ⊥) → since (max a b) g ≡ max (since a g) (since b g)
    both m n = rw (ne_eqb a 0 m, ne_eqb b 0 n, ne_eqb (max a b) 0 (λ z. m (omega arith))) (omega arith)

    go : (t : Bool) → eqb a 0 ≡ t → (u : Bool) → eqb b 0 ≡ u → since (max a b) g ≡ max (since a g) (since b g)
    go true p u q = let e = eqb-true a 0 p in rw e (ap (λ x. since x g) (zero-max b) ∙ sym (zero-max (since b g)))
    go false p true q = let e = eqb-true b 0 q in rw e (ap (λ x. since x g) (max-zero a) ∙ sym (max-zero (since a g)))
    go false p false q = both (eqb-false a 0 p) (eqb-false b 0 q)

pub three-since : (a b c gap : ℕ) → since (max (max a b) c) gap ≡ three a b c gap
three-since a b c gap = since-max (max a b) c gap ∙ ap (λ x. max x (since c gap)) (since-max a b gap)

module _ (s : Settings) (f : BankTrack → ℕ) (zero : f idle ≡ 0) (banks : List BankTrack) (e : length banks ≡ 32) (b : ℕ) where
  abbrev at : ℕ → ℕ
  at x = f (get_or banks x idle)

  none : at 32 ≡ 0
  none = ap f (past banks e 32 (omega arith)) ∙ zero

  -- the bank itself for a neighbour that it has not
  pub latest-near : max (max (at b) (at (low_of s b))) (at (high_of s b)) ≡ max (max (at b) (at (first_near s b))) (at (last_near s b))
  latest-near = low (below s b) ∙ high (above s b) (at (first_near s b))
    where
      low : Below s b → max (max (at b) (at (low_of s b))) (at (high_of s b)) ≡ max (max (at b) (at (first_near s b))) (at (high_of s b))
      low (no-low p q) = rw (p, q, none) (omega arith)
      low (one-low p q) = rw q

      high : Above s b → (x : ℕ) → max (max (at b) x) (at (high_of s b)) ≡ max (max (at b) x) (at (last_near s b))
      high (no-high p q) x = rw (p, q, none) (omega arith)
      high (one-high p q) x = rw q

  pub three-latest : (gap : ℕ) → three (at b) (at (low_of s b)) (at (high_of s b)) gap ≡ since (max (max (at b) (at (first_near s b))) (at (last_near s b))) gap
  three-latest gap = sym (three-since (at b) (at (low_of s b)) (at (high_of s b)) gap) ∙ ap (λ x. since x gap) latest-near
