-- Laws of the store: a write under a mask byte by byte, that it leaves every other dualoct, that two places have two dualocts, and
-- the write as 16 bytes put into the store.
-- Assumes nothing.
use Prim.Native.Nat.{ℕ, ◌+◌, ◌-◌, ◌*◌, ◌/◌, ◌%◌, ◌<◌, ◌≤◌}
use mathlib.Core.Path.{◌≡◌, refl, sym, ap, ◌∙◌}
use mathlib.Core.Bool.{Bool, true, false, ◌&&◌, cond}
use mathlib.Core.List.{List, ◌++◌}
use lib.Dec.{eqb, ltb}
use lib.ListN.{length, get_or, take, drop, length-append, length-take, length-drop, get_or-append, get_or-eq_default}
use lib.Seq.{ext_get_or, length-take-le, get_or-take, get_or-drop, get_or-append-add}
use lib.Arith.{digits_lt, digits_div, digits_mod}
use borrow.Author.Tests.{ltb-true, ltb-false, eq-eqb, ne_eqb}
use native.Mathlib.Nat.{mul_assoc}
use native.Mathlib.Omega.{arith}
use Rattle.num.specs.Bytes.{bytes, splice, Bytes}
use Rattle.num.proofs.ByteLaws.{length-bytes}
use Rattle.num.proofs.PartLaws.{length_part, get_d_part, byte_at, Bytes-append, Bytes-bytes}
use Rattle.num.proofs.SpliceLaws.{length-splice}
use Rattle.record.specs.declared.Dualoct.{Dualoct}
use Rattle.spec_rules.specs.Neighbour.{Context}
use Rattle.spec_rules.specs.Channel.{imap}
use Rattle.spec_rules.proofs.ListLaws.{length-imap, get_or-imap}
use Rattle.spec_model.specs.Store.{store_length, dualoct_at, dualoct, dualoct_bytes, governs, masked}

-- ---- the bytes of a dualoct

pub length-dualoct_bytes : (d : Dualoct) → length (dualoct_bytes d) ≡ 16
unfolding dualoct_bytes
length-dualoct_bytes d = length-append (bytes 8 d.dqa) (bytes 8 d.dqb) ∙ rw (length-bytes 8 d.dqa, length-bytes 8 d.dqb)

pub Bytes-dualoct_bytes : (d : Dualoct) → Bytes (dualoct_bytes d)
unfolding dualoct_bytes
Bytes-dualoct_bytes d = Bytes-append (bytes 8 d.dqa) (bytes 8 d.dqb) (Bytes-bytes 8 d.dqa) (Bytes-bytes 8 d.dqb)

-- ---- a write under a mask, byte by byte

module _ (store : List ℕ) (k mask : ℕ) (new : List ℕ) where
  pub length-masked : length (masked store k mask new) ≡ length store
  unfolding masked
  length-masked = length-imap _ 0 store

  pub get_or-masked : (i : ℕ) → i < length store
      → get_or (masked store k mask new) i 0 ≡ cond (eqb (i / 16) k && governs mask (i % 16)) (get_or new (i % 16) 0) (get_or store i 0)
  unfolding masked
  get_or-masked i m = get_or-imap _ store i 0 0 m

  pub Bytes-masked : Bytes store → Bytes new → Bytes (masked store k mask new)
  Bytes-masked w v i m =
      let l : i < length store = rw length-masked at m in
      rw (get_or-masked i l) (pick (eqb (i / 16) k && governs mask (i % 16)) (byte_at new v (i % 16)) (w i l))
    where
      pick : (b : Bool) {x y : ℕ} → x < 256 → y < 256 → cond b x y < 256
      pick true p q = p
      pick false p q = q

  -- a byte of another dualoct stays
  get_or-other : (j i : ℕ) → (k ≡ j → ⊥) → i < 16 → get_or (masked store k mask new) (16 * j + i) 0 ≡ get_or store (16 * j + i) 0
  get_or-other j i ne l = go (ltb (16 * j + i) (length store)) refl
    where
      go : (b : Bool) → ltb (16 * j + i) (length store) ≡ b → get_or (masked store k mask new) (16 * j + i) 0 ≡ get_or store (16 * j + i) 0
      go true e = get_or-masked (16 * j + i) (ltb-true _ _ e) ∙ rw (ne_eqb ((16 * j + i) / 16) k (λ q. ne (omega arith)))
      go false e =
          get_or-eq_default (masked store k mask new) 0 (rw length-masked (ltb-false _ _ e)) ∙ sym (get_or-eq_default store 0 (ltb-false _ _ e))

  pub dualoct-other : (j : ℕ) → (k ≡ j → ⊥) → dualoct (masked store k mask new) j ≡ dualoct store j
  unfolding dualoct
  dualoct-other j ne =
      ext_get_or 0 _ _ (simp (length-take, length-drop, length-masked))
      (λ i l.
      let small : i < 16 = omega (arith, simp (length-take, length-drop) at l) in
      simp (get_or-take, get_or-drop) (get_or-other j i ne small))

-- ---- places

digits-inj : (n a b x y : ℕ) → x < n → y < n → a * n + x ≡ b * n + y → (a ≡ b) × (x ≡ y)
digits-inj n a b x y hx hy e = (sym (digits_div a hx) ∙ rw e (digits_div b hy), sym (digits_mod a hx) ∙ rw e (digits_mod b hy))

module _ (cx : Context) where
  -- two places in range have two dualocts
  pub dualoct_at-inj : (b r c b' r' c' : ℕ) → r < cx.settings.rows → c < cx.settings.columns → r' < cx.settings.rows → c' < cx.settings.columns
      → dualoct_at cx b r c ≡ dualoct_at cx b' r' c' → (b ≡ b') × (r ≡ r') × (c ≡ c')
  unfolding dualoct_at
  dualoct_at-inj b r c b' r' c' hr hc hr' hc' e =
      let low : (b * cx.settings.rows + r ≡ b' * cx.settings.rows + r') × (c ≡ c') = digits-inj cx.settings.columns _ _ c c' hc hc' e in
      let high : (b ≡ b') × (r ≡ r') = digits-inj cx.settings.rows b b' r r' hr hr' low.0 in
      (high.0, high.1, low.1)

  -- a dualoct of a place in range is in the store
  pub dualoct-in : (b r c : ℕ) → b < 32 → r < cx.settings.rows → c < cx.settings.columns → 16 * dualoct_at cx b r c + 16 ≤ store_length cx
  unfolding dualoct_at store_length
  dualoct-in b r c hb hr hc =
      let row : b * cx.settings.rows + r < 32 * cx.settings.rows = digits_lt hb hr in
      let at : (b * cx.settings.rows + r) * cx.settings.columns + c < 32 * cx.settings.rows * cx.settings.columns = digits_lt row hc in
      let e : 32 * cx.settings.rows * cx.settings.columns ≡ 32 * (cx.settings.rows * cx.settings.columns) = mul_assoc 32 cx.settings.rows cx.settings.columns in
      omega arith

-- ---- elements of a splice

module _ (l : List ℕ) (at : ℕ) (xs : List ℕ) (n : ℕ) (e : length xs ≡ n) (room : at + n ≤ length l) where
  front : length (take at l) ≡ at
  front = length-take-le at l (omega arith)

  pub splice-before : (i : ℕ) → i < at → get_or (splice l at xs) i 0 ≡ get_or l i 0
  splice-before i m =
      let p : i < length (take at l) = rw front m in
      let q : i < length (take at l ++ xs) = rw (length-append (take at l) xs) (omega arith) in
      get_or-append (take at l ++ xs) (drop (at + length xs) l) 0 i q ∙ get_or-append (take at l) xs 0 i p ∙ get_or-take at l i 0 m

  pub splice-inside : (i : ℕ) → i < n → get_or (splice l at xs) (at + i) 0 ≡ get_or xs i 0
  splice-inside i m =
      let q : at + i < length (take at l ++ xs) = rw (length-append (take at l) xs, front) (omega arith) in
      get_or-append (take at l ++ xs) (drop (at + length xs) l) 0 (at + i) q
      ∙ ap (λ (j : ℕ). get_or (take at l ++ xs) (j + i) 0) (sym front) ∙ get_or-append-add (take at l) xs i 0

  pub splice-after : (i : ℕ) → get_or (splice l at xs) (at + n + i) 0 ≡ get_or l (at + n + i) 0
  splice-after i =
      let q : length (take at l ++ xs) ≡ at + n = length-append (take at l) xs ∙ rw (front, e) in
      ap (λ (j : ℕ). get_or (splice l at xs) (j + i) 0) (sym q) ∙ get_or-append-add (take at l ++ xs) (drop (at + length xs) l) i 0
      ∙ get_or-drop (at + length xs) l i 0 ∙ rw e

-- ---- the write as 16 bytes put into the store

-- dualoct k with the new bytes that the mask picks
unfoldable pub merged : List ℕ → ℕ → ℕ → List ℕ → List ℕ
merged store k mask new = imap (λ i old. cond (governs mask i) (get_or new i 0) old) 0 (dualoct store k)

module _ (store : List ℕ) (k mask : ℕ) (new : List ℕ) (room : 16 * k + 16 ≤ length store) where
  length-dualoct : length (dualoct store k) ≡ 16
  unfolding dualoct
  length-dualoct = length_part store (16 * k) 16 room

  pub length_merged : length (merged store k mask new) ≡ 16
  unfolding merged
  length_merged = length-imap _ 0 (dualoct store k) ∙ length-dualoct

  pub get_or-merged : (i : ℕ) → i < 16 → get_or (merged store k mask new) i 0 ≡ cond (governs mask i) (get_or new i 0) (get_or store (16 * k + i) 0)
  unfolding merged dualoct
  get_or-merged i m = get_or-imap _ (dualoct store k) i 0 0 (rw length-dualoct m) ∙ rw (get_d_part store (16 * k) 16 i m)

  -- byte i of the store with the 16 bytes in place
  get_or-spliced : (i : ℕ) → i < length store
      → get_or (splice store (16 * k) (merged store k mask new)) i 0 ≡ cond (eqb (i / 16) k && governs mask (i % 16)) (get_or new (i % 16) 0) (get_or store i 0)
  get_or-spliced i m = go (ltb i (16 * k)) (ltb i (16 * k + 16)) refl refl
    where
      xs : List ℕ
      xs = merged store k mask new

      go : (a b : Bool) → ltb i (16 * k) ≡ a → ltb i (16 * k + 16) ≡ b
          → get_or (splice store (16 * k) xs) i 0 ≡ cond (eqb (i / 16) k && governs mask (i % 16)) (get_or new (i % 16) 0) (get_or store i 0)
      go true b ea eb =
          let l : i < 16 * k = ltb-true _ _ ea in
          splice-before store (16 * k) xs 16 length_merged room i l ∙ rw (ne_eqb (i / 16) k (λ q. omega arith))
      go false true ea eb =
          let l : 16 * k ≤ i = ltb-false _ _ ea in
          let u : i < 16 * k + 16 = ltb-true _ _ eb in
          let z : i ≡ 16 * k + i % 16 = omega arith in
          let v : i % 16 < 16 = omega arith in
          ap (λ (j : ℕ). get_or (splice store (16 * k) xs) j 0) z ∙ splice-inside store (16 * k) xs 16 length_merged room (i % 16) v
          ∙ get_or-merged (i % 16) v ∙ rw (eq-eqb (i / 16) k (omega arith), ← z)
      go false false ea eb =
          let u : 16 * k + 16 ≤ i = ltb-false _ _ eb in
          let z : i ≡ 16 * k + 16 + (i - (16 * k + 16)) = omega arith in
          ap (λ (j : ℕ). get_or (splice store (16 * k) xs) j 0) z ∙ splice-after store (16 * k) xs 16 length_merged room (i - (16 * k + 16))
          ∙ rw (← z, ne_eqb (i / 16) k (λ q. omega arith))

  pub masked-splice : masked store k mask new ≡ splice store (16 * k) (merged store k mask new)
  masked-splice =
      let n : length (splice store (16 * k) (merged store k mask new)) ≡ length store = length-splice store (16 * k) (merged store k mask new) (rw length_merged room) in
      ext_get_or 0 _ _ (length-masked store k mask new ∙ sym n)
      (λ i m.
      let l : i < length store = rw length-masked at m in
      get_or-masked store k mask new i l ∙ sym (get_or-spliced i l))
