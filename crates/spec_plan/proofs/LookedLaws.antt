-- How far close looks: the last bank that it looks at is open, all after it are closed, and closing those is closing all.
-- Assumes nothing.
use Prim.Native.Nat.{ℕ, zero, suc, ◌≤◌, ◌<◌}
use mathlib.Core.Path.{◌≡◌, refl, sym, ◌∙◌}
use mathlib.Core.Bool.{Bool, true, false, not, ◌&&◌, ◌||◌}
use mathlib.Core.List.{[]}
use lib.Dec.{eqb, leb}
use borrow.Author.Tests.{leb-true, leb-false, eqb-true, eqb-false, ne_eqb}
use native.Mathlib.Omega.{arith}
use Rattle.record.specs.declared.Request.TheVariants.{Close}
use Rattle.spec_rules.specs.declared.Bank.{Bank}
use Rattle.spec_rules.specs.Neighbour.{bank_count, Context, near}
use Rattle.spec_rules.specs.History.{is_closed}
use Rattle.spec_rules.proofs.Bools.{not-both, and_right}
use Rattle.spec_plan.specs.declared.PlannerState.{PlannerState}
use Rattle.spec_plan.specs.Plan.{Draft, when, state_in, closed, closed_up_to, planned_close, steps_of, planned}
use Rattle.spec_plan.specs.Looked.{looked_up_to, looked}
use Rattle.spec_plan.proofs.SentLaws.{when-either, Sized, Plain, closed-state, up-to-size, up-to-plain, up-to-shut}
use Rattle.spec_plan.proofs.Invariant.{Banked}
use Rattle.spec_plan.proofs.CallLaws.{Rest}

module _ (state : ℕ → Bank) where
  -- the last bank that is looked at is open
  pub looked-open : (n k : ℕ) → looked_up_to state n ≡ suc k → is_closed (state k) ≡ false
  unfolding looked_up_to
  looked-open zero k e = absurd (omega (arith, e))
  looked-open (suc n) k e = go (is_closed (state n)) refl (looked-open n k)
    where
      go : (c : Bool) → is_closed (state n) ≡ c → (looked_up_to state n ≡ suc k → is_closed (state k) ≡ false) → is_closed (state k) ≡ false
      go true q ih = ih (rw q at e)
      go false q ih = let same : k ≡ n = omega (arith, (rw q at e)) in rw same q

  pub looked-le : (n : ℕ) → looked_up_to state n ≤ n
  unfolding looked_up_to
  looked-le zero = omega arith
  looked-le (suc n) = go (is_closed (state n)) refl (looked-le n)
    where
      go : (c : Bool) → is_closed (state n) ≡ c → looked_up_to state n ≤ n → looked_up_to state (suc n) ≤ suc n
      go true q h = rw q (omega arith)
      go false q h = rw q (omega arith)

  -- each bank from there on is closed
  pub looked-above : (n x : ℕ) → looked_up_to state n ≤ x → x < n → is_closed (state x) ≡ true
  unfolding looked_up_to
  looked-above zero x l m = absurd (omega arith)
  looked-above (suc n) x l m = go (is_closed (state n)) (eqb x n) refl refl (looked-above n x)
    where
      go : (c b : Bool) → is_closed (state n) ≡ c → eqb x n ≡ b → (looked_up_to state n ≤ x → x < n → is_closed (state x) ≡ true) → is_closed (state x) ≡ true
      go true true q e ih = rw (eqb-true x n e) q
      go true false q e ih = ih (rw q at l) (omega (arith, eqb-false x n e))
      go false b q e ih = absurd (omega (arith, (rw q at l)))

  -- an open bank is looked at
  pub looked-past : (n x : ℕ) → x < n → is_closed (state x) ≡ false → x < looked_up_to state n
  looked-past n x m e = go (leb (looked_up_to state n) x) refl
    where
      go : (b : Bool) → leb (looked_up_to state n) x ≡ b → x < looked_up_to state n
      go true q = not-both (is_closed (state x)) (looked-above n x (leb-true _ _ q) m) e
      go false q = leb-false _ _ q

module _ (cx : Context) (pick : ℕ → Bool) (d : Draft) (z : Sized d) (pl : Plain cx d) where
  -- banks that are closed add nothing
  pub up-to-rest : (k n : ℕ) → k ≤ n → n ≤ bank_count → ((x : ℕ) → k ≤ x → x < n → is_closed (state_in d x) ≡ true)
      → closed_up_to cx pick n d ≡ closed_up_to cx pick k d
  unfolding closed_up_to
  up-to-rest k zero l m h = let same : k ≡ 0 = omega arith in rw same
  up-to-rest k (suc n) l m h = go (eqb k (suc n)) refl (up-to-rest k n)
    where
      w : Draft
      w = closed_up_to cx pick n d

      shut : (b c : Bool) → c ≡ true → when (b && not c) (closed cx n) w ≡ w
      shut true c e = rw e
      shut false c e = refl

      go : (b : Bool) → eqb k (suc n) ≡ b
          → (k ≤ n → n ≤ bank_count → ((x : ℕ) → k ≤ x → x < n → is_closed (state_in d x) ≡ true) → w ≡ closed_up_to cx pick k d)
          → when (pick n && not (is_closed (state_in w n))) (closed cx n) w ≡ closed_up_to cx pick k d
      go true e ih = rw (eqb-true k (suc n) e)
      go false e ih =
          let below : k ≤ n = omega (arith, eqb-false k (suc n) e) in
          shut (pick n) (is_closed (state_in w n)) (up-to-shut cx pick d z pl n n (omega arith) (h n below (omega arith)))
          ∙ ih below (omega arith) (λ x i j. h x i (omega arith))

  -- the turns of the banks below leave a bank as it was: a PRER closes a neighbour too, but of two neighbours one is closed
  pub up-to-ahead : Banked cx (state_in d) → (k y : ℕ) → k ≤ y → y < bank_count → is_closed (state_in (closed_up_to cx pick k d) y) ≡ is_closed (state_in d y)
  unfolding closed_up_to
  up-to-ahead b k y l m = go (is_closed (state_in d y)) refl
    where
      far : (x : ℕ) → x < y → is_closed (state_in d y) ≡ false → is_closed (state_in d x) ≡ false → near cx x y ≡ false
      far x i e f = rw (ne_eqb y x (omega arith)) (beside (cx.nbr x y) refl)
        where
          beside : (q : Bool) → cx.nbr x y ≡ q → q ≡ false
          beside false g = refl
          beside true g = not-both (is_closed (state_in d x) || is_closed (state_in d y)) (b.one-closed x y (omega arith) m g) (rw (e, f))

      open_in : (j x : ℕ) → x < bank_count → not (is_closed (state_in (closed_up_to cx pick j d) x)) ≡ true → is_closed (state_in d x) ≡ false
      open_in j x i h = which (is_closed (state_in d x)) refl
        where
          which : (q : Bool) → is_closed (state_in d x) ≡ q → q ≡ false
          which false g = refl
          which true g = not-both (not (is_closed (state_in (closed_up_to cx pick j d) x))) h (rw (up-to-shut cx pick d z pl j x i g))

      same : (j : ℕ) → j ≤ y → is_closed (state_in d y) ≡ false → state_in (closed_up_to cx pick j d) y ≡ state_in d y
      same zero i e = refl
      same (suc j) i e =
          let w : Draft = closed_up_to cx pick j d in
          when-either (λ v. state_in v y ≡ state_in d y) (pick j && not (is_closed (state_in w j))) (closed cx j) w
          (λ h. closed-state cx j w (up-to-size cx pick d z pl j) (up-to-plain cx pick d z pl j) y m
          ∙ rw (far j (omega arith) e (open_in j j (omega arith) (and_right (pick j) _ h))) (same j (omega arith) e))
          (λ _. same j (omega arith) e)

      go : (q : Bool) → is_closed (state_in d y) ≡ q → is_closed (state_in (closed_up_to cx pick k d) y) ≡ q
      go true e = up-to-shut cx pick d z pl k y m e
      go false e = rw (same k l e) e

-- closing the banks that are looked at is closing all
pub looked-closes : (cx : Context) (p : PlannerState) → Rest cx p →
    let d : Draft = record { planner = p; records = [] } in
    closed_up_to cx (λ x. true) (looked Close p) d ≡ planned cx Close p
unfolding looked planned steps_of planned_close
looked-closes cx p k =
    let d : Draft = record { planner = p; records = [] } in
    sym (up-to-rest cx (λ x. true) d k.inv.size k.plain (looked_up_to (state_in d) bank_count) bank_count (looked-le (state_in d) bank_count) (omega arith) (λ x. looked-above (state_in d) bank_count x))
