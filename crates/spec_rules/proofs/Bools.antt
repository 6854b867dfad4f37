-- Laws of tests: two tests that pass together are equal, tests at every index of a range, and the largest of the bounds.
-- Assumes nothing.
use Prim.Native.Nat.{ℕ, zero, suc, ◌<◌, max}
use mathlib.Core.Path.{◌≡◌, refl, sym, ◌∙◌}
use mathlib.Core.Bool.{Bool, true, false, not, ◌&&◌, ◌||◌}
use lib.Dec.{leb, eqb, leb-zero}
use borrow.Author.Tests.{leb-true, leb-false, le-leb, lt-leb, eqb-true, eqb-false, eq-eqb}
use native.Mathlib.Omega.{arith}
use Rattle.num.specs.Search.{all_up_to}
use Rattle.num.proofs.SearchLaws.{all-at, all-intro}
use Rattle.spec_rules.specs.Checks.{max_up_to}

-- two tests are equal if each passes where the other does
pub iff-eq : (a b : Bool) → (a ≡ true → b ≡ true) → (b ≡ true → a ≡ true) → a ≡ b
iff-eq true b f g = sym (f refl)
iff-eq false true f g = g refl
iff-eq false false f g = refl

-- no test both passes and fails
pub not-both : {R : Type 0} (q : Bool) → q ≡ true → q ≡ false → R
not-both q p n = absurd (let z : ◌≡◌ {A = ℕ} 0 1 = cc in omega arith)

-- the negative of a test, where it fails and where it passes
pub not-fails : (a b : Bool) → a ≡ not b → a ≡ false → b ≡ true
not-fails a true e f = refl
not-fails a false e f = not-both a e f

pub not-passes : (a b : Bool) → a ≡ not b → a ≡ true → b ≡ false
not-passes a false e f = refl
not-passes a true e f = not-both a f e

pub and_left : (a b : Bool) → a && b ≡ true → a ≡ true
and_left true b h = refl
and_left false b h = h

pub and_right : (a b : Bool) → a && b ≡ true → b ≡ true
and_right true b h = h
and_right false b h = cc

pub and-swap : (a b c d : Bool) → (a && b) && (c && d) ≡ (a && c) && (b && d)
and-swap true true c d = refl
and-swap true false true d = refl
and-swap true false false d = refl
and-swap false b c d = refl

-- a disjunction that fails
pub neither : (a b : Bool) → a || b ≡ false → (a ≡ false) × (b ≡ false)
neither true b h = not-both true refl h
neither false b h = (refl, h)

pub eqb-sym : (x y : ℕ) → eqb x y ≡ eqb y x
eqb-sym x y = iff-eq (eqb x y) (eqb y x) (λ h. eq-eqb y x (sym (eqb-true x y h))) (λ h. eq-eqb x y (sym (eqb-true y x h)))

-- ---- tests at every index below n

pub all-ext : (p q : ℕ → Bool) (n : ℕ) → ((x : ℕ) → x < n → p x ≡ q x) → all_up_to p n ≡ all_up_to q n
unfolding all_up_to
all-ext p q zero h = refl
all-ext p q (suc n) h = rw (all-ext p q n (λ x l. h x (omega arith)), h n (omega arith))

pub all_true : (n : ℕ) → all_up_to (λ x. true) n ≡ true
all_true n = all-intro (λ x. true) n (λ x l. refl)

pub all-and : (p q : ℕ → Bool) (n : ℕ) → all_up_to (λ x. p x && q x) n ≡ all_up_to p n && all_up_to q n
unfolding all_up_to
all-and p q zero = refl
all-and p q (suc n) = rw (all-and p q n) (and-swap (all_up_to p n) (all_up_to q n) (p n) (q n))

-- where every other index holds, index b decides
pub all-point : (p : ℕ → Bool) (n b : ℕ) → b < n → ((x : ℕ) → (x ≡ b → ⊥) → p x ≡ true) → all_up_to p n ≡ p b
all-point p n b l h = iff-eq (all_up_to p n) (p b) (λ k. all-at p n b k l) (λ k. all-intro p n (λ x m. at x k (eqb x b) refl))
  where
    at : (x : ℕ) → p b ≡ true → (c : Bool) → eqb x b ≡ c → p x ≡ true
    at x k true e = rw (eqb-true x b e) k
    at x k false e = h x (eqb-false x b e)

-- ---- the largest of the bounds

pub leb-max : (a b t : ℕ) → leb (max a b) t ≡ leb a t && leb b t
leb-max a b t = go (leb a t) (leb b t) refl refl
  where
    go : (p q : Bool) → leb a t ≡ p → leb b t ≡ q → leb (max a b) t ≡ p && q
    go true true e f = omega (arith, leb-true, le-leb)
    go true false e f = omega (arith, leb-false, lt-leb)
    go false q e f = omega (arith, leb-false, lt-leb)

pub leb-max_up_to : (f : ℕ → ℕ) (n t : ℕ) → leb (max_up_to f n) t ≡ all_up_to (λ x. leb (f x) t) n
unfolding all_up_to max_up_to
leb-max_up_to f zero t = leb-zero t
leb-max_up_to f (suc n) t = leb-max (max_up_to f n) (f n) t ∙ rw (leb-max_up_to f n t)
