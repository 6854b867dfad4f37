-- The busy cycles of marks that stand four apart: four for each mark, less those that the window cuts off the oldest.
-- Assumes nothing.
use Prim.Native.Nat.{ℕ, ◌+◌, ◌-◌, ◌*◌, ◌<◌}
use mathlib.Core.Path.{◌≡◌, refl, ◌∙◌}
use mathlib.Core.Bool.{Bool, true, false, cond, ◌&&◌, ◌||◌, and-eq-true_iff}
use mathlib.Core.List.{List}
use native.Mathlib.Omega.{arith}
use lib.Dec.{leb}
use lib.ListN.{get_or}
use borrow.Author.Tests.{leb-true}
use Rattle.num.specs.Marks.{bit, mark, count_up_to, later}
use Rattle.num.proofs.bits.MarkLaws.{mark-at}
use Rattle.num.proofs.bits.CountLaws.{count_next, count-later, count-or}
use Rattle.meter.specs.Meter.{meter_of, busy, busy_count}
use Rattle.meter.proofs.ValidLaws.{Valid}

-- a test that fails with each of two
neither : (w x y : Bool) → (w && x) ≡ false → (w && y) ≡ false → (w && (x || y)) ≡ false
neither false x y p q = refl
neither true x y p q = rw (p, q)

not-both : (a b : Bool) → (a ≡ true → b ≡ true → ⊥) → (a && b) ≡ false
not-both true true h = absurd (h refl refl)
not-both true false h = refl
not-both false b h = refl

module _ (g : ℕ → Bool) (apart4 : (i e : ℕ) → 0 < e → e < 4 → g i ≡ true → g (i + e) ≡ true → ⊥) where
  apart-later : (a b i : ℕ) → a < b → b < a + 4 → (later g a i && later g b i) ≡ false
  apart-later a b i l h =
      not-both (later g a i) (later g b i)
      (λ x y.
      let p = (and-eq-true_iff (leb a i) (g (i - a))).0 x in
      let q = (and-eq-true_iff (leb b i) (g (i - b))).0 y in
      let k = leb-true b i q.0 in
      let s : i - a ≡ i - b + (b - a) = omega arith in
      apart4 (i - b) (b - a) (omega arith) (omega arith) q.1 (rw s at p.1))

  four : (n : ℕ) → count_up_to (λ i. g i || (later g 1 i || (later g 2 i || later g 3 i))) n ≡ count_up_to g n + (count_up_to g (n - 1) + (count_up_to g (n - 2) + count_up_to g (n - 3)))
  four n =
      count-or g (λ i. later g 1 i || (later g 2 i || later g 3 i)) n
      (λ i l.
      neither (g i) (later g 1 i) (later g 2 i || later g 3 i) (at_once 1 i (omega arith) (omega arith))
      (neither (g i) (later g 2 i) (later g 3 i) (at_once 2 i (omega arith) (omega arith)) (at_once 3 i (omega arith) (omega arith))))
      ∙ rw (count-or (later g 1) (λ i. later g 2 i || later g 3 i) n (λ i l. neither (later g 1 i) (later g 2 i) (later g 3 i) (apart-later 1 2 i (omega arith) (omega arith)) (apart-later 1 3 i (omega arith) (omega arith))), count-or (later g 2) (later g 3) n (λ i l. apart-later 2 3 i (omega arith) (omega arith)), count-later g 1 n, count-later g 2 n, count-later g 3 n)
    where
      at_once : (b i : ℕ) → 0 < b → b < 4 → (g i && later g b i) ≡ false
      at_once b i p q =
          not-both (g i) (later g b i)
          (λ x y.
          let r = (and-eq-true_iff (leb b i) (g (i - b))).0 y in
          let k = leb-true b i r.0 in
          let s : i ≡ i - b + b = omega arith in
          apart4 (i - b) b p q r.1 (rw s at x))

-- what the window cuts off the marks in its oldest three places
abbrev pub cut : ℕ → ℕ
cut w = cond (bit w 61) 1 0 + 2 * cond (bit w 62) 1 0 + 3 * cond (bit w 63) 1 0

pub busy-form : (ws : List ℕ) (n : ℕ) → Valid ws n → 4 * count_up_to (mark ws) 1024 ≡ busy_count (meter_of ws n) + cut (get_or ws 15 0)
unfolding busy_count busy
busy-form ws n v =
    let f = four (mark ws) v.apart4 1024 in
    let a = count_next (mark ws) 1021 in
    let b = count_next (mark ws) 1022 in
    let c = count_next (mark ws) 1023 in
    let x : mark ws 1021 ≡ bit (get_or ws 15 0) 61 = mark-at ws 15 61 (omega arith) in
    let y : mark ws 1022 ≡ bit (get_or ws 15 0) 62 = mark-at ws 15 62 (omega arith) in
    let z : mark ws 1023 ≡ bit (get_or ws 15 0) 63 = mark-at ws 15 63 (omega arith) in
    omega (arith, f, rw x at a, rw y at b, rw z at c)
