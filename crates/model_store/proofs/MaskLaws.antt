-- The ones of a mask as the machine counts them, the write under a mask byte by byte, and under a full mask.
-- Assumes nothing.
use Prim.Native.Nat.{ℕ, zero, suc, ◌+◌, ◌*◌, ◌/◌, ◌%◌, ◌^◌, ◌<◌, ◌≤◌}
use mathlib.Core.Path.{◌≡◌, refl, sym, ap, ◌∙◌}
use mathlib.Core.Bool.{Bool, true, false, ◌&&◌, cond}
use mathlib.Core.List.{List}
use mathlib.Core.Logic.{◌⊎◌, ⊎_elim, inl, inr}
use native.Mathlib.Omega.{arith}
use native.Mathlib.Numerals.{add-one}
use native.Mathlib.Nat.{div-eq_of_lt, div-one, div-div-eq-div-mul, pow-suc}
use lib.Count.{ones_step}
use lib.Count as count
use lib.Dec.{eqb, ltb}
use lib.ListN.{length, get_or, set, length-set}
use lib.Seq.{ext_get_or, get_or-set_same, get_or-set_other}
use borrow.Author.Tests.{eqb-true, eqb-false, ltb-true, ltb-false, eq-eqb, ne_eqb}
use Rattle.num.specs.Bytes.{splice}
use Rattle.num.specs.Search.{all_up_to}
use Rattle.num.proofs.SearchLaws.{all-at}
use Rattle.spec_model.specs.Store.{governs, masked, ones_up_to}
use Rattle.spec_model.proofs.StoreLaws.{length-masked, get_or-masked, merged, length_merged, get_or-merged, masked-splice}
use Rattle.model_store.specs.Form.Touch.{masked_up_to}

-- ---- the ones of a mask

half-power : (m n : ℕ) → m / 2 ^ n / 2 ≡ m / 2 ^ suc n
half-power m n = div-div-eq-div-mul m (2 ^ n) 2 ∙ rw pow-suc

bit_is : (x : ℕ) → x < 2 → cond (eqb x 1) 1 0 ≡ x
bit_is x h = go (eqb x 1) refl
  where
    go : (b : Bool) → eqb x 1 ≡ b → cond b 1 0 ≡ x
    go true e = sym (eqb-true x 1 e)
    go false e = let ne = eqb-false x 1 e in omega (arith, ne)

ones-from : (m n : ℕ) → count.ones m ≡ ones_up_to m n + count.ones (m / 2 ^ n)
unfolding ones_up_to governs
ones-from m zero = let d : m / 1 ≡ m = div-one m in let e : count.ones (m / 1) ≡ count.ones m = ap count.ones d in omega arith
ones-from m (suc n) =
    let e = ones-from m n in
    let s = ones_step (m / 2 ^ n) in
    let b : cond (eqb (m / 2 ^ n % 2) 1) 1 0 ≡ m / 2 ^ n % 2 = bit_is (m / 2 ^ n % 2) (omega arith) in
    let t : count.ones (m / 2 ^ n / 2) ≡ count.ones (m / 2 ^ suc n) = ap count.ones (half-power m n) in
    omega arith

ones-zero : count.ones 0 ≡ 0
unfolding count.ones
ones-zero = refl

-- the count of ones is the sum of the bits
pub ones_is : (m n : ℕ) → m < 2 ^ n → count.ones m ≡ ones_up_to m n
ones_is m n h =
    let e = ones-from m n in
    let z : count.ones (m / 2 ^ n) ≡ count.ones 0 = ap count.ones (div-eq_of_lt h) in
    let o : count.ones 0 ≡ 0 = ones-zero in
    omega arith

-- ---- a write under a mask

get_d_set : (l : List ℕ) (k j v : ℕ) → k < length l → get_or (set l k v) j 0 ≡ cond (eqb j k) v (get_or l j 0)
get_d_set l k j v h = go (eqb j k) refl
  where
    go : (b : Bool) → eqb j k ≡ b → get_or (set l k v) j 0 ≡ cond b v (get_or l j 0)
    go true e = rw (eqb-true j k e) (get_or-set_same l k v 0 h)
    go false e = get_or-set_other l k j v 0 (eqb-false j k e)

module _ (store : List ℕ) (at mask : ℕ) (new : List ℕ) where
  pub length-up-to : (n : ℕ) → length (masked_up_to store at mask new n) ≡ length store
  unfolding masked_up_to
  length-up-to zero = refl
  length-up-to (suc n) = go (governs mask n) (length-up-to n)
    where
      go : (b : Bool) → length (masked_up_to store at mask new n) ≡ length store
          → length (cond b (set (masked_up_to store at mask new n) (at + n) (get_or new n 0)) (masked_up_to store at mask new n)) ≡ length store
      go true h = length-set (masked_up_to store at mask new n) _ _ ∙ h
      go false h = h

  -- one byte more
  get_or-next : (n j : ℕ) → at + n < length store
      → get_or (masked_up_to store at mask new (suc n)) j 0 ≡ cond (governs mask n && eqb j (at + n)) (get_or new n 0) (get_or (masked_up_to store at mask new n) j 0)
  unfolding masked_up_to
  get_or-next n j h = go (governs mask n)
    where
      go : (b : Bool)
          → get_or (cond b (set (masked_up_to store at mask new n) (at + n) (get_or new n 0)) (masked_up_to store at mask new n)) j 0
          ≡ cond (b && eqb j (at + n)) (get_or new n 0) (get_or (masked_up_to store at mask new n) j 0)
      go true = get_d_set (masked_up_to store at mask new n) (at + n) j (get_or new n 0) (rw (length-up-to n) h)
      go false = refl

  and_no : (a : Bool) (x y : ℕ) → cond (a && false) x y ≡ y
  and_no true x y = refl
  and_no false x y = refl

  and_yes : (a : Bool) (x y : ℕ) → cond (a && true) x y ≡ cond a x y
  and_yes true x y = refl
  and_yes false x y = refl

  pub get_or-outside : (n j : ℕ) → at + n ≤ length store → (j < at ⊎ at + n ≤ j) → get_or (masked_up_to store at mask new n) j 0 ≡ get_or store j 0
  unfolding masked_up_to
  get_or-outside zero j h o = refl
  get_or-outside (suc n) j h o =
      let ne : j ≡ at + n → ⊥ = λ e. ⊎_elim (λ (l : j < at). omega arith) (λ (l : at + suc n ≤ j). omega arith) o in
      get_or-next n j (omega arith) ∙ rw (ne_eqb j (at + n) ne) (and_no (governs mask n) _ _)
      ∙ get_or-outside n j (omega arith) (⊎_elim (λ (l : j < at). inl l) (λ (l : at + suc n ≤ j). inr (omega arith)) o)

  pub get_or-inside : (n i : ℕ) → at + n ≤ length store → i < n
      → get_or (masked_up_to store at mask new n) (at + i) 0 ≡ cond (governs mask i) (get_or new i 0) (get_or store (at + i) 0)
  get_or-inside zero i h l = absurd (omega arith)
  get_or-inside (suc n) i h l = get_or-next n (at + i) (omega arith) ∙ go (eqb (at + i) (at + n)) refl (λ m. get_or-inside n i (omega arith) m)
    where
      go : (b : Bool) → eqb (at + i) (at + n) ≡ b
          → (i < n → get_or (masked_up_to store at mask new n) (at + i) 0 ≡ cond (governs mask i) (get_or new i 0) (get_or store (at + i) 0))
          → cond (governs mask n && b) (get_or new n 0) (get_or (masked_up_to store at mask new n) (at + i) 0)
          ≡ cond (governs mask i) (get_or new i 0) (get_or store (at + i) 0)
      go true e ih =
          let q : at + i ≡ at + n = eqb-true _ _ e in
          let s : i ≡ n = omega arith in
          and_yes (governs mask n) _ _ ∙ rw (s, get_or-outside n (at + n) (omega arith) (inr (omega arith)))
      go false e ih =
          let ne : i ≡ n → ⊥ = λ x. eqb-false _ _ e (ap (λ (y : ℕ). at + y) x) in
          let m : i < n = omega (arith, ne) in
          and_no (governs mask n) _ _ ∙ ih m

  -- one turn of the loop that goes by the bits of the mask
  pub bit-set : (n bits : ℕ) → bits ≡ mask / 2 ^ n → bits % 2 ≡ 1 → {l : List ℕ} → l ≡ masked_up_to store at mask new n
      → set l (at + n) (get_or new n 0) ≡ masked_up_to store at mask new (n + 1)
  unfolding masked_up_to governs
  bit-set n bits b o h = rw (add-one, h, eq-eqb (mask / 2 ^ n % 2) 1 (rw (← b) o))

  pub bit-clear : (n bits : ℕ) → bits ≡ mask / 2 ^ n → (bits % 2 ≡ 1 → ⊥) → {l : List ℕ} → l ≡ masked_up_to store at mask new n
      → l ≡ masked_up_to store at mask new (n + 1)
  unfolding masked_up_to governs
  bit-clear n bits b o h = rw (add-one, h, ne_eqb (mask / 2 ^ n % 2) 1 (rw (← b) o))

-- the bits that are left, after one more
pub bits-next : (mask n bits : ℕ) → bits ≡ mask / 2 ^ n → bits / 2 ≡ mask / 2 ^ (n + 1)
bits-next mask n bits b = rw (add-one, b) (half-power mask n)

-- sixteen bytes from the place of a dualoct on are that dualoct
pub up-to-masked : (store : List ℕ) (k mask : ℕ) (new : List ℕ) → 16 * k + 16 ≤ length store → masked_up_to store (16 * k) mask new 16 ≡ masked store k mask new
up-to-masked store k mask new h =
    ext_get_or 0 _ _ (length-up-to store (16 * k) mask new 16 ∙ sym (length-masked store k mask new))
    (λ i m.
    let l : i < length store = rw (length-up-to store (16 * k) mask new 16) at m in
    at_byte i (ltb i (16 * k)) (ltb i (16 * k + 16)) refl refl ∙ sym (get_or-masked store k mask new i l))
  where
    at_byte : (i : ℕ) (a b : Bool) → ltb i (16 * k) ≡ a → ltb i (16 * k + 16) ≡ b
        → get_or (masked_up_to store (16 * k) mask new 16) i 0 ≡ cond (eqb (i / 16) k && governs mask (i % 16)) (get_or new (i % 16) 0) (get_or store i 0)
    at_byte i true b ea eb =
        let l : i < 16 * k = ltb-true _ _ ea in
        get_or-outside store (16 * k) mask new 16 i h (inl l) ∙ rw (ne_eqb (i / 16) k (λ q. omega arith))
    at_byte i false false ea eb =
        let u : 16 * k + 16 ≤ i = ltb-false _ _ eb in
        get_or-outside store (16 * k) mask new 16 i h (inr u) ∙ rw (ne_eqb (i / 16) k (λ q. omega arith))
    at_byte i false true ea eb =
        let l : 16 * k ≤ i = ltb-false _ _ ea in
        let u : i < 16 * k + 16 = ltb-true _ _ eb in
        let z : i ≡ 16 * k + i % 16 = omega arith in
        ap (λ (j : ℕ). get_or (masked_up_to store (16 * k) mask new 16) j 0) z ∙ get_or-inside store (16 * k) mask new 16 (i % 16) h (omega arith)
        ∙ rw (eq-eqb (i / 16) k (omega arith), ← z)

-- ---- a full mask

full-governs : all_up_to (governs 0xFFFF) 16 ≡ true
unfolding all_up_to governs
full-governs = refl

-- it takes all 16 bytes
pub full-masked : (store : List ℕ) (k : ℕ) (new : List ℕ) → length new ≡ 16 → 16 * k + 16 ≤ length store → masked store k 0xFFFF new ≡ splice store (16 * k) new
full-masked store k new e h =
    let m : length (merged store k 0xFFFF new) ≡ 16 = length_merged store k 0xFFFF new h in
    let same : merged store k 0xFFFF new ≡ new =
    ext_get_or 0 _ _ (m ∙ sym e)
    (λ i l.
    let s : i < 16 = omega arith in
    get_or-merged store k 0xFFFF new h i s ∙ rw (all-at (governs 0xFFFF) 16 i full-governs s))
    in
    masked-splice store k 0xFFFF new h ∙ rw same
