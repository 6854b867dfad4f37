-- A page without records, byte by byte.
-- Assumes nothing.
use Prim.Native.Nat.{ℕ, ◌+◌, ◌/◌, ◌%◌, ◌-◌, ◌≤◌, ◌<◌}
use Prim.Native.Char.{code}
use mathlib.Core.Path.{◌≡◌, refl, sym, ◌∙◌}
use mathlib.Core.Bool.{Bool, true, false, cond}
use mathlib.Core.List.{List, []}
use native.Mathlib.Omega.{arith}
use lib.Dec.{eqb, ltb}
use lib.ListN.{length, get_or, set}
use lib.Seq.{ext_get_or, get_or-set_same, get_or-set_other}
use borrow.Author.Tests.{eqb-true, eqb-false, ne_eqb, ltb-true, ltb-false}
use Rattle.settings.specs.declared.Settings.{Settings}
use Rattle.spec_page.specs.Page.{cell, scale, page, page_bytes}
use Rattle.spec_page.specs.Form.Bytes.{byte_by, characters}
use Rattle.spec_page.proofs.PageLaws.{length-page, page-byte}
use Rattle.calls_page.specs.Form.Paint.{blank}

-- one byte more
pub below_next : (f : ℕ → ℕ) (l : List ℕ) (i x : ℕ) → i < length l → ((k : ℕ) → k < i → get_or l k 0 ≡ f k) → x ≡ f i
    → (k : ℕ) → k < i + 1 → get_or (set l i x) k 0 ≡ f k
below_next f l i x h below e k m = go (eqb k i) refl
  where
    go : (b : Bool) → eqb k i ≡ b → get_or (set l i x) k 0 ≡ f k
    go true q = let z : k ≡ i = eqb-true k i q in rw z (get_or-set_same l i x 0 h ∙ e)
    go false q =
        let z : k ≡ i → ⊥ = eqb-false k i q in
        get_or-set_other l i k x 0 z ∙ below k (omega arith)

blank-characters : (s : Settings) (n c : ℕ) → blank n c ≡ characters s [] n c
unfolding blank characters cell
blank-characters s n c = go (ltb n 3) refl
  where
    go : (b : Bool) → ltb n 3 ≡ b → cond b (code ".") (scale c) ≡ cond (eqb n 0) (code ".") (cond (eqb n 1) (code ".") (cond (eqb n 2) (code ".") (scale c)))
    go true e = within (eqb n 0) (eqb n 1) (eqb n 2) refl refl refl
      where
        within : (x y z : Bool) → eqb n 0 ≡ x → eqb n 1 ≡ y → eqb n 2 ≡ z → code "." ≡ cond x (code ".") (cond y (code ".") (cond z (code ".") (scale c)))
        within true y z p q r = refl
        within false true z p q r = refl
        within false false true p q r = refl
        within false false false p q r =
            let a = eqb-false n 0 p in
            let b = eqb-false n 1 q in
            let d = eqb-false n 2 r in
            let m = ltb-true n 3 e in
            absurd (omega arith)
    go false e =
        let m : 3 ≤ n = ltb-false n 3 e in
        rw (ne_eqb n 0 (λ z. omega arith), ne_eqb n 1 (λ z. omega arith), ne_eqb n 2 (λ z. omega arith))

pub blank-page : (s : Settings) (start : ℕ) (l : List ℕ) → length l ≡ page_bytes → ((k : ℕ) → k < page_bytes → get_or l k 0 ≡ byte_by blank start k) → l ≡ page s [] start
unfolding byte_by
blank-page s start l e h =
    ext_get_or 0 l (page s [] start) (e ∙ sym (length-page s [] start))
    (λ i m. h i (omega arith) ∙ rw (blank-characters s (i / 73) (start + (i % 73 - 8))) (sym (page-byte s [] start i (omega arith))))
