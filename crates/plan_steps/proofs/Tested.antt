-- What the code tests of the bytes is what the plan tests of the state that they say.
-- Assumes nothing.
use Prim.Native.Nat.{ℕ, ◌+◌, ◌*◌, ◌-◌, ◌<◌}
use mathlib.Core.Path.{◌≡◌, refl, sym, ap, ◌∙◌}
use mathlib.Core.Bool.{Bool, true, false, cond, ◌&&◌, ◌||◌, or-false}
use mathlib.Core.List.{List, [], ◌∷◌}
use native.Mathlib.Omega.{arith}
use borrow.Author.Tests.{eqb-true, eqb-false, eq-eqb, ne_eqb}
use lib.Dec.{eqb}
use Rattle.record.specs.declared.Place.{Place}
use Rattle.spec_rules.specs.declared.Bank.{Bank}
use Rattle.spec_rules.specs.declared.Bank.TheVariants.{Closed, Open, Refresh}
use Rattle.spec_rules.specs.declared.BankTrack.{BankTrack}
use Rattle.spec_rules.specs.declared.Write.{Write}
use Rattle.spec_rules.specs.Neighbour.{bank_count, Context}
use Rattle.spec_rules.specs.History.{is_closed, any_write, two}
use Rattle.spec_rules.specs.Channel.{waiting_of}
use Rattle.spec_rules.proofs.Bools.{not-both}
use Rattle.spec_state.specs.ChannelBytes.{bank_in, track_in, write_in, channel_in}
use Rattle.spec_state.proofs.PlaneLaws.{tracks-at}
use Rattle.spec_plan.specs.Plan.{waiting, state_in, open_on, hits, loses, delays}
use Rattle.spec_plan.specs.PlannerBytes.{planner_in}
use Rattle.plan_bytes.specs.Form.Numbers.{half, waits_in, two_in}
use Rattle.plan_bytes.specs.Form.Drawn.{drafted}
use Rattle.plan_bytes.proofs.States.{two-waits, two_is, one-is, none_is}

-- tests of the waiting writes
module _ (b : List ℕ) where
  -- by how many wait
  waits-by : (P : Bool → Bool → List Write → Type 0) → P true true (write_in b 736 ∷ write_in b 744 ∷ []) → P true false (write_in b 736 ∷ []) → P false false [] → P (waits_in b) (two_in b) (waiting (drafted b))
  unfolding waiting_of
  waits-by P f g h = go (two_in b) refl (waits_in b) refl
    where
      go : (t : Bool) → two_in b ≡ t → (w : Bool) → waits_in b ≡ w → P w t (waiting (drafted b))
      go true e true d = rw (two_is b e) f
      go true e false d = not-both (waits_in b) (two-waits b e) d
      go false e true d = rw (one-is b d e) g
      go false e false d = rw (none_is b d) h

  pub any-is : (test : Write → Bool) → ((waits_in b && test (write_in b 736)) || (two_in b && test (write_in b 744))) ≡ any_write test (waiting (drafted b))
  any-is test =
      waits-by (λ w t ws. ((w && test (write_in b 736)) || (t && test (write_in b 744))) ≡ any_write test ws)
      (ap (λ (q : Bool). test (write_in b 736) || q) (sym (or-false (test (write_in b 744))))) refl refl

  pub delays-is : (cx : Context) (at : Place) → (two_in b || (waits_in b && hits at.bank at.column (write_in b 736))) ≡ delays cx false at (waiting (drafted b))
  delays-is cx at =
      waits-by (λ w t ws. (t || (w && hits at.bank at.column (write_in b 736))) ≡ delays cx false at ws) refl
      (sym (or-false (hits at.bank at.column (write_in b 736) || false) ∙ or-false (hits at.bank at.column (write_in b 736)))) refl

  -- of an RDA
  pub closing-is : (cx : Context) (at : Place) → (delays cx false at (waiting (drafted b)) || loses cx at.bank (waiting (drafted b))) ≡ delays cx true at (waiting (drafted b))
  closing-is cx at = go (two (waiting (drafted b))) (any_write (hits at.bank at.column) (waiting (drafted b))) (loses cx at.bank (waiting (drafted b)))
    where
      go : (a h l : Bool) → ((a || (h || false)) || l) ≡ (a || (h || l))
      go true h l = refl
      go false true l = refl
      go false false l = refl

  pub waits-is : waits_in b ≡ any_write (λ w. true) (waiting (drafted b))
  waits-is = waits-by (λ w t ws. w ≡ any_write (λ w. true) ws) refl refl refl

-- the state of a bank
state-is : (b : List ℕ) (x : ℕ) → x < 32 → state_in (drafted b) x ≡ bank_in (half b (640 + 2 * x))
unfolding planner_in channel_in bank_count track_in
state-is b x l = ap (λ (k : BankTrack). k.bank) (tracks-at b 32 x l)

pub shut-is : (b : List ℕ) (x : ℕ) → x < 32 → eqb (half b (640 + 2 * x)) 0 ≡ is_closed (state_in (drafted b) x)
unfolding bank_in is_closed
shut-is b x l = sym (ap is_closed (state-is b x l) ∙ go (eqb (half b (640 + 2 * x)) 0) (eqb (half b (640 + 2 * x)) 0xFFFF))
  where
    go : (p q : Bool) → is_closed (cond p Closed (cond q Refresh (Open (half b (640 + 2 * x) - 1)))) ≡ p
    go true q = refl
    go false true = refl
    go false false = refl

-- a bank open on a row below 512 has the tag row + 1
pub row_is : (b : List ℕ) (x row : ℕ) → x < 32 → row < 512 → eqb (half b (640 + 2 * x)) (row + 1) ≡ open_on (state_in (drafted b) x) row
unfolding bank_in
row_is b x row l m = sym (ap (λ (k : Bank). open_on k row) (state-is b x l) ∙ go (eqb tag 0) (eqb tag 0xFFFF) refl refl)
  where
    tag : ℕ
    tag = half b (640 + 2 * x)

    same : (tag ≡ 0 → ⊥) → eqb (tag - 1) row ≡ eqb tag (row + 1)
    same n = either (eqb (tag - 1) row) refl
      where
        either : (q : Bool) → eqb (tag - 1) row ≡ q → q ≡ eqb tag (row + 1)
        either true e = let f = eqb-true (tag - 1) row e in sym (eq-eqb tag (row + 1) (omega arith))
        either false e = let f = eqb-false (tag - 1) row e in sym (ne_eqb tag (row + 1) (λ z. f (omega arith)))

    go : (p q : Bool) → eqb tag 0 ≡ p → eqb tag 0xFFFF ≡ q → open_on (cond p Closed (cond q Refresh (Open (tag - 1)))) row ≡ eqb tag (row + 1)
    go true q e f = let z = eqb-true tag 0 e in sym (ne_eqb tag (row + 1) (λ y. omega arith))
    go false true e f = let z = eqb-true tag 0xFFFF f in sym (ne_eqb tag (row + 1) (λ y. omega arith))
    go false false e f = same (eqb-false tag 0 e)
