-- Laws of histories: tests of one of a list, and the cycles that carry data as the instants 0 to 3 cycles before them.
-- Assumes nothing.
use Prim.Native.Nat.{ℕ, ◌+◌, ◌-◌, ◌≤◌}
use mathlib.Core.Path.{◌≡◌, refl, sym, ap, ap₂, ◌∙◌}
use mathlib.Core.Bool.{Bool, true, false, ◌&&◌, ◌||◌, and-false, and-eq-true_iff}
use mathlib.Core.List.{List, [], ◌∷◌}
use native.Mathlib.Omega.{arith}
use lib.Dec.{eqb, leb, ltb}
use borrow.Author.Tests.{eqb-true, eqb-false, leb-true, le-leb, ltb-true, lt-ltb}
use native.Mathlib.Nat.{add-zero}
use Rattle.num.proofs.bits.BitLaws.{same_truth}
use Rattle.meter.specs.Window.{one_of, has_data}

pub one_of-same : (f g : ℕ → Bool) (h : List ℕ) → ((t : ℕ) → f t ≡ g t) → one_of f h ≡ one_of g h
unfolding one_of
one_of-same f g [] e = refl
one_of-same f g (t ∷ ts) e = ap₂ ◌||◌ (e t) (one_of-same f g ts e)

or_swap : (a b c d : Bool) → (a || b || (c || d)) ≡ (a || c || (b || d))
or_swap true b c d = refl
or_swap false true true d = refl
or_swap false true false d = refl
or_swap false false c d = refl

pub one_of-or : (f g : ℕ → Bool) (h : List ℕ) → (one_of f h || one_of g h) ≡ one_of (λ t. f t || g t) h
unfolding one_of
one_of-or f g [] = refl
one_of-or f g (t ∷ ts) = or_swap (f t) (one_of f ts) (g t) (one_of g ts) ∙ ap (λ (b : Bool). f t || g t || b) (one_of-or f g ts)

and_both : (b x y : Bool) → ((b && x) || (b && y)) ≡ (b && (x || y))
and_both true x y = refl
and_both false x y = refl

pub one_of-and : (b : Bool) (f : ℕ → Bool) (h : List ℕ) → one_of (λ t. b && f t) h ≡ (b && one_of f h)
unfolding one_of
one_of-and b f [] = sym (and-false b)
one_of-and b f (t ∷ ts) = ap (λ (x : Bool). (b && f t) || x) (one_of-and b f ts) ∙ and_both b (f t) (one_of f ts)

-- one of four numbers in a row
near : (x n : ℕ) → (eqb x n || (eqb x (n + 1) || (eqb x (n + 2) || eqb x (n + 3)))) ≡ (leb n x && leb x (n + 3))
near x n = go (eqb x n) (eqb x (n + 1)) (eqb x (n + 2)) (eqb x (n + 3)) refl refl refl refl
  where
    within : n ≤ x → x ≤ n + 3 → true ≡ (leb n x && leb x (n + 3))
    within a b = rw (le-leb n x a, le-leb x (n + 3) b)

    outside : (n ≤ x → x ≤ n + 3 → ⊥) → (p : Bool) → leb n x ≡ p → (q : Bool) → leb x (n + 3) ≡ q → false ≡ (p && q)
    outside h true e true d = absurd (h (leb-true n x e) (leb-true x (n + 3) d))
    outside h true e false d = refl
    outside h false e q d = refl

    go : (a b c d : Bool) → eqb x n ≡ a → eqb x (n + 1) ≡ b → eqb x (n + 2) ≡ c → eqb x (n + 3) ≡ d → (a || (b || (c || d))) ≡ (leb n x && leb x (n + 3))
    go true b c d ea eb ec ed = within (omega (arith, eqb-true)) (omega (arith, eqb-true))
    go false true c d ea eb ec ed = within (omega (arith, eqb-true)) (omega (arith, eqb-true))
    go false false true d ea eb ec ed = within (omega (arith, eqb-true)) (omega (arith, eqb-true))
    go false false false true ea eb ec ed = within (omega (arith, eqb-true)) (omega (arith, eqb-true))
    go false false false false ea eb ec ed =
        outside
        (λ p q. omega (arith, eqb-false x n ea, eqb-false x (n + 1) eb, eqb-false x (n + 2) ec, eqb-false x (n + 3) ed))
        (leb n x) refl (leb x (n + 3)) refl

cycle-near : (t i n : ℕ) → (leb n (t + i) && leb (t + i) (n + 3)) ≡ (leb i (n + 3) && (leb t (n + 3 - i) && ltb (n + 3 - i) (t + 4)))
cycle-near t i n =
    same_truth (leb n (t + i) && leb (t + i) (n + 3)) (leb i (n + 3) && (leb t (n + 3 - i) && ltb (n + 3 - i) (t + 4)))
    (λ e.
    let p = (and-eq-true_iff (leb n (t + i)) (leb (t + i) (n + 3))).0 e in
    let a = leb-true n (t + i) p.0 in
    let b = leb-true (t + i) (n + 3) p.1 in
    rw (le-leb i (n + 3) (omega arith), le-leb t (n + 3 - i) (omega arith), lt-ltb (n + 3 - i) (t + 4) (omega arith)))
    (λ e.
    let p = (and-eq-true_iff (leb i (n + 3)) (leb t (n + 3 - i) && ltb (n + 3 - i) (t + 4))).0 e in
    let q = (and-eq-true_iff (leb t (n + 3 - i)) (ltb (n + 3 - i) (t + 4))).0 p.1 in
    let a = leb-true i (n + 3) p.0 in
    let b = leb-true t (n + 3 - i) q.0 in
    let c = ltb-true (n + 3 - i) (t + 4) q.1 in
    rw (le-leb n (t + i) (omega arith), le-leb (t + i) (n + 3) (omega arith)))

-- the instants that are e after i cycles before n
abbrev pub hits : ℕ → ℕ → ℕ → ℕ → Bool
hits n i e t = eqb (t + i) (n + e)

-- the cycle i before n + 3 carries data where one of four instants is in the history
pub carries-hits : (h : List ℕ) (n i : ℕ)
    → (one_of (hits n i 0) h || (one_of (hits n i 1) h || (one_of (hits n i 2) h || one_of (hits n i 3) h))) ≡ (leb i (n + 3) && has_data h (n + 3 - i))
unfolding has_data
carries-hits h n i =
    rw (one_of-or (hits n i 2) (hits n i 3) h, one_of-or (hits n i 1) (λ t. hits n i 2 t || hits n i 3 t) h, one_of-or (hits n i 0) (λ t. hits n i 1 t || (hits n i 2 t || hits n i 3 t)) h)
    (one_of-same (λ t. hits n i 0 t || (hits n i 1 t || (hits n i 2 t || hits n i 3 t))) (λ t. leb i (n + 3) && (leb t (n + 3 - i) && ltb (n + 3 - i) (t + 4))) h (λ t. rw add-zero (near (t + i) n ∙ cycle-near t i n))
    ∙ one_of-and (leb i (n + 3)) (λ t. leb t (n + 3 - i) && ltb (n + 3 - i) (t + 4)) h)
