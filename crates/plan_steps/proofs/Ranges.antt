-- The banks that a loop closes: from a first on, up to an end. A bank and its neighbours are such a range.
-- Assumes nothing.
use Prim.Native.Nat.{ℕ, zero, suc, ◌+◌, ◌<◌, ◌≤◌}
use mathlib.Core.Path.{◌≡◌, refl, sym, ap, ap₂, ◌∙◌}
use mathlib.Core.Bool.{Bool, true, false, not, ◌&&◌}
use mathlib.Core.Logic.{⊎_elim}
use native.Mathlib.Nat.{eq-or-lt_of_le}
use native.Mathlib.Numerals.{add-one}
use native.Mathlib.Omega.{arith}
use borrow.Author.Tests.{ltb-true, ltb-false, leb-true, le-leb}
use lib.Dec.{leb, ltb}
use lib.ListN.{length, length-append}
use Rattle.settings.specs.declared.Settings.{Settings}
use Rattle.spec_rules.specs.Neighbour.{bank_count, Context, context_of, near}
use Rattle.spec_rules.specs.History.{is_closed}
use Rattle.spec_rules.proofs.Bools.{iff-eq}
use Rattle.chan_view.specs.Form.Beside.{low_of, high_of, first_near, last_near}
use Rattle.chan_view.proofs.NearLaws.{Beside, own, low, high, Below, no-low, one-low, below, Above, no-high, one-high, above, near-beside, near-own, near-low, near-high}
use Rattle.spec_plan.specs.Plan.{Draft, when, state_in, closed, closed_up_to}
use Rattle.plan_bytes.specs.Form.Drawn.{bare}
use Rattle.plan_bytes.proofs.Compose.{added, Blind, closed-blind, blind-is}
use Rattle.plan_packets.proofs.rows.Slots.{last-bank}

-- ---- a bank and its neighbours

module _ (s : Settings) (x y : ℕ) (l : y < 32) where
  beside_first : Beside s x y → first_near s x ≤ y
  beside_first k = go k (below s x) (above s x)
    where
      go : Beside s x y → Below s x → Above s x → first_near s x ≤ y
      go (own e) (no-low p q) a = omega arith
      go (own e) (one-low p q) a = omega arith
      go (low e) (no-low p q) a = omega arith
      go (low e) (one-low p q) a = omega arith
      go (high e) (no-low p q) (no-high r t) = omega arith
      go (high e) (no-low p q) (one-high r t) = omega arith
      go (high e) (one-low p q) (no-high r t) = omega arith
      go (high e) (one-low p q) (one-high r t) = omega arith

  beside-last : Beside s x y → y ≤ last_near s x
  beside-last k = go k (below s x) (above s x)
    where
      go : Beside s x y → Below s x → Above s x → y ≤ last_near s x
      go (own e) b (no-high p q) = omega arith
      go (own e) b (one-high p q) = omega arith
      go (low e) (no-low r t) a = omega arith
      go (low e) (one-low r t) (no-high p q) = omega arith
      go (low e) (one-low r t) (one-high p q) = omega arith
      go (high e) b (no-high p q) = omega arith
      go (high e) b (one-high p q) = omega arith

  near-at : (z : ℕ) → (z < 32 → near (context_of s) x z ≡ true) → y ≡ z → near (context_of s) x y ≡ true
  near-at z n e = rw e (n (rw e at l))

  between-near : first_near s x ≤ y → y ≤ last_near s x → near (context_of s) x y ≡ true
  between-near f g = go (ltb y x) refl (ltb x y) refl (below s x) (above s x)
    where
      go : (t : Bool) → ltb y x ≡ t → (u : Bool) → ltb x y ≡ u → Below s x → Above s x → near (context_of s) x y ≡ true
      go true p u q (no-low a b) k = absurd (omega (arith, ltb-true y x p))
      go true p u q (one-low a b) k = near-at (low_of s x) (near-low s x) (omega (arith, ltb-true y x p))
      go false p true q k (no-high a b) = absurd (omega (arith, ltb-true x y q))
      go false p true q k (one-high a b) = near-at (high_of s x) (near-high s x) (omega (arith, ltb-true x y q))
      go false p false q k h = near-at x (λ _. near-own s x) (omega (arith, ltb-false y x p, ltb-false x y q))

-- the near banks up to the last one are those from the first on
near-from : (s : Settings) (x y : ℕ) → y < 32 → y ≤ last_near s x → near (context_of s) x y ≡ leb (first_near s x) y
near-from s x y l h =
    iff-eq _ _ (λ e. le-leb _ _ (beside_first s x y l (near-beside s x y e))) (λ e. between-near s x y l (leb-true _ _ e) h)

-- and past it there is none
none-past : (s : Settings) (x y : ℕ) → y < 32 → last_near s x < y → near (context_of s) x y ≡ false
none-past s x y l h = go (near (context_of s) x y) refl
  where
    go : (q : Bool) → near (context_of s) x y ≡ q → q ≡ false
    go false e = refl
    go true e = absurd (omega (arith, beside-last s x y l (near-beside s x y e)))

-- ---- banks closed up to an end

module _ (cx : Context) (d : Draft) where
  pub up-to-ext : (p q : ℕ → Bool) (n : ℕ) → ((y : ℕ) → y < n → p y ≡ q y) → closed_up_to cx p n d ≡ closed_up_to cx q n d
  unfolding closed_up_to
  up-to-ext p q zero h = refl
  up-to-ext p q (suc n) h = ap₂ (λ (z : Draft) (b : Bool). when (b && not (is_closed (state_in z n))) (closed cx n) z) (up-to-ext p q n (λ y l. h y (omega arith))) (h n (omega arith))

  -- none is picked from m on
  up-to-stop : (p : ℕ → Bool) (m n : ℕ) → m ≤ n → ((y : ℕ) → m ≤ y → y < n → p y ≡ false) → closed_up_to cx p n d ≡ closed_up_to cx p m d
  unfolding closed_up_to
  up-to-stop p m zero l h = let e : m ≡ 0 = omega arith in rw e
  up-to-stop p m (suc n) l h = ⊎_elim (λ (e : m ≡ suc n). rw e) (λ (k : m < suc n). ap (λ (b : Bool). when (b && not (is_closed (state_in (closed_up_to cx p n d) n))) (closed cx n) (closed_up_to cx p n d)) (h n (omega arith) (omega arith)) ∙ up-to-stop p m n (omega arith) (λ y a b. h y a (omega arith))) (eq-or-lt_of_le l)

  -- before the first nothing is closed
  pub up-to-none : (first : ℕ) → closed_up_to cx (λ y. leb first y) first d ≡ d
  unfolding closed_up_to
  up-to-none first = up-to-stop (λ y. leb first y) 0 first (omega arith) (λ y a b. go y b (leb first y) refl)
    where
      go : (y : ℕ) → y < first → (q : Bool) → leb first y ≡ q → q ≡ false
      go y l false e = refl
      go y l true e = absurd (omega (arith, leb-true first y e))

  -- one bank's turn
  pub up-to-next : (first k : ℕ) → first ≤ k → let z : Draft = closed_up_to cx (λ y. leb first y) k d in
      closed_up_to cx (λ y. leb first y) (k + 1) d ≡ when (not (is_closed (state_in z k))) (closed cx k) z
  unfolding closed_up_to
  up-to-next first k l =
      let z : Draft = closed_up_to cx (λ y. leb first y) k d in
      ap (λ (n : ℕ). closed_up_to cx (λ y. leb first y) n d) (add-one k) ∙ ap (λ (b : Bool). when (b && not (is_closed (state_in z k))) (closed cx k) z) (le-leb first k l)

  -- records are only added
  grows : (p : ℕ → Bool) (n : ℕ) → length (closed_up_to cx p n d).records ≤ length (closed_up_to cx p (suc n) d).records
  unfolding closed_up_to
  grows p n = go (p n && not (is_closed (state_in (closed_up_to cx p n d) n)))
    where
      z : Draft
      z = closed_up_to cx p n d

      closed-grows : length z.records ≤ length (closed cx n z).records
      closed-grows = omega (arith, ap (λ (w : Draft). length w.records) (blind-is (closed cx n) (closed-blind cx n) z), length-append z.records (closed cx n (bare z.planner)).records)

      go : (b : Bool) → length z.records ≤ length (when b (closed cx n) z).records
      go true = closed-grows
      go false = omega arith

  pub up-to-grows : (p : ℕ → Bool) (m n : ℕ) → m ≤ n → length (closed_up_to cx p m d).records ≤ length (closed_up_to cx p n d).records
  up-to-grows p m zero l = let e : m ≡ 0 = omega arith in rw e (omega arith)
  up-to-grows p m (suc n) l = ⊎_elim (λ (e : m ≡ suc n). rw e (omega arith)) (λ (k : m < suc n). omega (arith, grows p n, up-to-grows p m n (omega arith))) (eq-or-lt_of_le l)

-- the turn of a bank only adds records
pub turn-blind : (cx : Context) (k : ℕ) → Blind (λ z. when (not (is_closed (state_in z k))) (closed cx k) z)
turn-blind cx k l z = go (not (is_closed (state_in z k)))
  where
    go : (b : Bool) → when b (closed cx k) (added l z) ≡ added l (when b (closed cx k) z)
    go true = closed-blind cx k l z
    go false = refl

-- the banks near one, by their range
pub near-range : (s : Settings) (x : ℕ) → x < 32 → (d : Draft) (first last : ℕ) → first ≡ first_near s x → last ≡ last_near s x
    → closed_up_to (context_of s) (λ y. leb first y) (last + 1) d ≡ closed_up_to (context_of s) (near (context_of s) x) bank_count d
unfolding bank_count
near-range s x l d first last f e =
    let m : last < 32 = rw e (last-bank s x l) in
    sym (up-to-stop (context_of s) d (near (context_of s) x) (last + 1) 32 (omega arith) (λ y a b. none-past s x y b (omega arith))
    ∙ up-to-ext (context_of s) d (near (context_of s) x) (λ y. leb first y) (last + 1) (λ y a. near-from s x y (omega arith) (omega arith) ∙ rw f))

-- the first is not after the last
pub first-last : (s : Settings) (x : ℕ) → first_near s x ≤ last_near s x
first-last s x = go (below s x) (above s x)
  where
    go : Below s x → Above s x → first_near s x ≤ last_near s x
    go (no-low p q) (no-high r t) = omega arith
    go (no-low p q) (one-high r t) = omega arith
    go (one-low p q) (no-high r t) = omega arith
    go (one-low p q) (one-high r t) = omega arith
