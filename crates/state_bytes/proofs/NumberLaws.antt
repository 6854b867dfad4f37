-- One number of a state's bytes: what is tested of it is what is tested of the field that it says.
-- Assumes nothing.
use Prim.Native.Nat.{ℕ, ◌+◌, ◌*◌, ◌-◌, ◌<◌, ◌≤◌}
use mathlib.Core.Path.{◌≡◌, refl, sym, ◌∙◌}
use mathlib.Core.Bool.{Bool, true, false, not, ◌&&◌, ◌||◌, cond, or-false, and-true}
use mathlib.Core.List.{List}
use native.Mathlib.Omega.{arith}
use borrow.Author.Tests.{eqb-true, eqb-false, eq-eqb, ne_eqb, leb-true, leb-false, le-leb, lt-leb, ltb-true, ltb-false, lt-ltb}
use lib.Dec.{eqb, leb, ltb}
use lib.ListN.{length, get_or}
use Rattle.num.specs.Bytes.{number, part}
use Rattle.num.proofs.ByteLaws.{number-part, number-one}
use Rattle.settings.specs.Instants.{horizon, is_instant}
use Rattle.spec_rules.specs.Neighbour.{Context}
use Rattle.spec_rules.specs.History.{is_closed, is_open}
use Rattle.spec_rules.proofs.Bools.{iff-eq, and_left, and_right}
use Rattle.spec_state.specs.Valid.{is_stamp, bank_valid}
use Rattle.spec_state.specs.ChannelBytes.{instant_of, bank_in}
use Rattle.spec_plan.specs.Planner.{not_refresh}
use Rattle.state_bytes.specs.Form.Stored.{latest}
use Rattle.state_bytes.specs.Form.Tested.{most_tag}

-- ---- instants

pub stamp-stored : (n : ℕ) → is_stamp (instant_of n) ≡ leb n latest
stamp-stored n = go (eqb n 0) refl (leb n latest) refl
  where
    go : (z : Bool) → eqb n 0 ≡ z → (l : Bool) → leb n latest ≡ l → is_stamp (cond z 0 (n + 3)) ≡ l
    go true e true f = refl
    go true e false f = absurd (omega (arith, eqb-true n 0 e, leb-false n latest f))
    go false e true f = rw (ne_eqb (n + 3) 0 (λ z. omega arith), le-leb 4 (n + 3) (omega (arith, eqb-false n 0 e)), le-leb (n + 3) horizon (omega (arith, leb-true n latest f)))
    go false e false f = rw (ne_eqb (n + 3) 0 (λ z. omega arith), le-leb 4 (n + 3) (omega (arith, eqb-false n 0 e)), lt-leb (n + 3) horizon (omega (arith, leb-false n latest f)))

pub instant-stored : (n : ℕ) → is_instant (instant_of n) ≡ not (eqb n 0) && leb n latest
instant-stored n = go (eqb n 0) refl
  where
    go : (z : Bool) → eqb n 0 ≡ z → is_instant (cond z 0 (n + 3)) ≡ not z && leb n latest
    go true e = refl
    go false e =
        rw (le-leb 4 (n + 3) (omega (arith, eqb-false n 0 e)))
        (iff-eq (leb (n + 3) horizon) (leb n latest) (λ h. le-leb n latest (omega (arith, leb-true (n + 3) horizon h))) (λ h. le-leb (n + 3) horizon (omega (arith, leb-true n latest h))))

-- ---- tags

-- an open bank's tag, below that of a refresh
open_in : (rows tag : ℕ) → (tag ≡ 0 → ⊥) → tag < 0xFFFF → leb tag (most_tag rows) ≡ ltb (tag - 1) rows
open_in rows tag n l = go (ltb rows 0xFFFF) refl
  where
    go : (q : Bool) → ltb rows 0xFFFF ≡ q → leb tag (cond q rows 0xFFFE) ≡ ltb (tag - 1) rows
    go true e = iff-eq (leb tag rows) (ltb (tag - 1) rows) (λ h. lt-ltb (tag - 1) rows (omega (arith, leb-true tag rows h))) (λ h. le-leb tag rows (omega (arith, ltb-true (tag - 1) rows h)))
    go false e = rw (le-leb tag 0xFFFE (omega arith), lt-ltb (tag - 1) rows (omega (arith, ltb-false rows 0xFFFF e)))

-- no open bank has the tag of a refresh
refresh-above : (rows tag : ℕ) → tag ≡ 0xFFFF → leb tag (most_tag rows) ≡ false
refresh-above rows tag e = go (ltb rows 0xFFFF) refl
  where
    go : (q : Bool) → ltb rows 0xFFFF ≡ q → leb tag (cond q rows 0xFFFE) ≡ false
    go true f = lt-leb tag rows (omega (arith, ltb-true rows 0xFFFF f))
    go false f = lt-leb tag 0xFFFE (omega arith)

closed-below : (rows tag : ℕ) → tag ≡ 0 → leb tag (most_tag rows) ≡ true
closed-below rows tag e = le-leb tag (most_tag rows) (omega arith)

module _ (cx : Context) (tag : ℕ) (l : tag < 0x10000) where
  -- of a model's bank
  pub tag-valid : leb tag (most_tag cx.settings.rows) || eqb tag 0xFFFF ≡ bank_valid cx (bank_in tag)
  unfolding bank_in bank_valid
  tag-valid = go (eqb tag 0) refl (eqb tag 0xFFFF) refl
    where
      go : (a : Bool) → eqb tag 0 ≡ a → (b : Bool) → eqb tag 0xFFFF ≡ b → leb tag (most_tag cx.settings.rows) || b ≡ bank_valid cx (bank_in tag)
      go true e b f = rw (e, closed-below cx.settings.rows tag (eqb-true tag 0 e))
      go false e true f = rw (e, f, refresh-above cx.settings.rows tag (eqb-true tag 0xFFFF f))
      go false e false f =
          let n = eqb-false tag 0xFFFF f in
          rw (e, f, open_in cx.settings.rows tag (eqb-false tag 0 e) (omega arith)) (or-false (ltb (tag - 1) cx.settings.rows))

  -- of a planner's bank
  pub tag-planned : leb tag (most_tag cx.settings.rows) || eqb tag 0 ≡ bank_valid cx (bank_in tag) && not_refresh (bank_in tag)
  unfolding bank_in bank_valid not_refresh
  tag-planned = go (eqb tag 0) refl (eqb tag 0xFFFF) refl
    where
      go : (a : Bool) → eqb tag 0 ≡ a → (b : Bool) → eqb tag 0xFFFF ≡ b → leb tag (most_tag cx.settings.rows) || a ≡ bank_valid cx (bank_in tag) && not_refresh (bank_in tag)
      go true e b f = rw (e, closed-below cx.settings.rows tag (eqb-true tag 0 e))
      go false e true f = rw (e, f, refresh-above cx.settings.rows tag (eqb-true tag 0xFFFF f))
      go false e false f =
          let n = eqb-false tag 0xFFFF f in
          let q = ltb (tag - 1) cx.settings.rows in
          rw (e, f, open_in cx.settings.rows tag (eqb-false tag 0 e) (omega arith)) (or-false q ∙ sym (and-true q))

pub tag-closed : (tag : ℕ) → is_closed (bank_in tag) ≡ eqb tag 0
unfolding bank_in is_closed
tag-closed tag = go (eqb tag 0) refl (eqb tag 0xFFFF) refl
  where
    go : (a : Bool) → eqb tag 0 ≡ a → (b : Bool) → eqb tag 0xFFFF ≡ b → is_closed (bank_in tag) ≡ a
    go true e b f = rw e
    go false e true f = rw (e, f)
    go false e false f = rw (e, f)

pub tag_open : (tag : ℕ) → is_open (bank_in tag) ≡ not (eqb tag 0) && not (eqb tag 0xFFFF)
unfolding bank_in is_open
tag_open tag = go (eqb tag 0) refl (eqb tag 0xFFFF) refl
  where
    go : (a : Bool) → eqb tag 0 ≡ a → (b : Bool) → eqb tag 0xFFFF ≡ b → is_open (bank_in tag) ≡ not a && not b
    go true e b f = rw e
    go false e true f = rw (e, f)
    go false e false f = rw (e, f)

-- ---- a number with zeros after it

pub below_word : (x y k : ℕ) → k ≤ 0x10000 → ltb (x + 0x10000 * y) k ≡ ltb x k && eqb y 0
below_word x y k l =
    iff-eq _ _
    (λ h. let m = ltb-true (x + 0x10000 * y) k h in rw (lt-ltb x k (omega arith), eq-eqb y 0 (omega arith)))
    (λ h. lt-ltb (x + 0x10000 * y) k (omega (arith, ltb-true x k (and_left (ltb x k) _ h), eqb-true y 0 (and_right (ltb x k) _ h))))

-- how many writes wait, whether data are due, and zeros
pub count-parts : (b : List ℕ) → 752 ≤ length b → number (part b 728 8) ≡ get_or b 728 0 + 256 * get_or b 729 0 + 0x10000 * number (part b 730 6)
count-parts b l =
    omega (arith, number-part b 728 1 7 (omega arith), number-part b 729 1 6 (omega arith), number-one b 728 (omega arith), number-one b 729 (omega arith))

pub count-is : (n d z m e : ℕ) → n < 256 → m < 256 → e < 2 → d < 256 → eqb (n + 256 * d + 0x10000 * z) (m + 256 * e) ≡ eqb n m && (eqb d e && eqb z 0)
count-is n d z m e ln lm le ld =
    iff-eq _ _
    (λ h. let q = eqb-true (n + 256 * d + 0x10000 * z) (m + 256 * e) h in rw (eq-eqb n m (omega arith), eq-eqb d e (omega arith), eq-eqb z 0 (omega arith)))
    (λ h.
    let r = and_right (eqb n m) _ h in
    eq-eqb (n + 256 * d + 0x10000 * z) (m + 256 * e) (omega (arith, eqb-true n m (and_left (eqb n m) _ h), eqb-true d e (and_left (eqb d e) _ r), eqb-true z 0 (and_right (eqb d e) _ r))))
