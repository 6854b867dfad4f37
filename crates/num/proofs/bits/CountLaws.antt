-- Laws of the number of indices at which a test holds.
-- Assumes nothing.
use Prim.Native.Nat.{ℕ, zero, suc, ◌+◌, ◌-◌, ◌*◌, ◌/◌, ◌%◌, ◌^◌, ◌<◌, ◌≤◌}
use mathlib.Core.Path.{◌≡◌, refl, sym, ap, ap₂, ◌∙◌}
use mathlib.Core.Bool.{Bool, true, false, cond, ◌&&◌, ◌||◌, true≢false}
use mathlib.Core.List.{List}
use native.Mathlib.Nat.{add-zero, add-suc, add_assoc, div-one, pow-suc, div-div-eq-div-mul, div-eq_of_lt}
use native.Mathlib.Omega.{arith}
use native.Mathlib.Numerals.{add-one}
use lib.Count.{ones, ones_step}
use lib.Dec.{eqb, leb}
use lib.ListN.{get_or}
use borrow.Author.Tests.{leb-true, leb-false}
use Rattle.num.specs.Marks.{bit, mark, count_up_to, later}
use Rattle.num.proofs.bits.MarkLaws.{mark-at}

-- one index more, as a loop takes it
pub count_next : (f : ℕ → Bool) (n : ℕ) → count_up_to f (n + 1) ≡ count_up_to f n + cond (f n) 1 0
unfolding count_up_to
count_next f n = rw add-one

pub count-join : (f : ℕ → Bool) (n m : ℕ) → count_up_to f (n + m) ≡ count_up_to f n + count_up_to (λ j. f (n + j)) m
unfolding count_up_to
count-join f n zero = rw add-zero (sym (add-zero (count_up_to f n)))
count-join f n (suc m) = rw (add-suc, count-join f n m) (add_assoc (count_up_to f n) (count_up_to (λ j. f (n + j)) m) (cond (f (n + m)) 1 0))

pub count_same : (f g : ℕ → Bool) (n : ℕ) → ((i : ℕ) → i < n → f i ≡ g i) → count_up_to f n ≡ count_up_to g n
unfolding count_up_to
count_same f g zero h = refl
count_same f g (suc n) h = ap₂ (λ (x : ℕ) (b : Bool). x + cond b 1 0) (count_same f g n (λ i l. h i (omega arith))) (h n (omega arith))

pub at-most-1 : (b : Bool) → cond b 1 0 ≤ 1
at-most-1 true = omega arith
at-most-1 false = omega arith

pub count-le : (f : ℕ → Bool) (n : ℕ) → count_up_to f n ≤ n
unfolding count_up_to
count-le f zero = omega arith
count-le f (suc n) = let i = count-le f n in let b = at-most-1 (f n) in omega arith

pub count_none : (f : ℕ → Bool) (n : ℕ) → ((i : ℕ) → i < n → f i ≡ false) → count_up_to f n ≡ 0
unfolding count_up_to
count_none f zero h = refl
count_none f (suc n) h = rw (count_none f n (λ i l. h i (omega arith)), h n (omega arith))

-- a test that is moved up by d
pub count-later : (f : ℕ → Bool) (d n : ℕ) → count_up_to (later f d) n ≡ count_up_to f (n - d)
unfolding count_up_to
count-later f d zero = let e : 0 - d ≡ 0 = omega arith in rw e
count-later f d (suc n) = go (leb d n) refl (count-later f d n)
  where
    go : (b : Bool) → leb d n ≡ b → count_up_to (later f d) n ≡ count_up_to f (n - d)
        → count_up_to (later f d) n + cond (b && f (n - d)) 1 0 ≡ count_up_to f (suc n - d)
    go true e ih = let s : suc n - d ≡ suc (n - d) = omega (arith, leb-true) in rw (s, ih)
    go false e ih =
        let s : suc n - d ≡ n - d = omega (arith, leb-false) in
        rw (s, ih) (add-zero (count_up_to f (n - d)))

-- tests that never hold together
pub count-or : (f g : ℕ → Bool) (n : ℕ) → ((i : ℕ) → i < n → (f i && g i) ≡ false) → count_up_to (λ i. f i || g i) n ≡ count_up_to f n + count_up_to g n
unfolding count_up_to
count-or f g zero h = refl
count-or f g (suc n) h = rw (count-or f g n (λ i l. h i (omega arith))) (go (f n) (g n) (h n (omega arith)))
  where
    go : (a b : Bool) → (a && b) ≡ false
        → count_up_to f n + count_up_to g n + cond (a || b) 1 0 ≡ count_up_to f n + cond a 1 0 + (count_up_to g n + cond b 1 0)
    go true true e = absurd (true≢false e)
    go true false e = omega arith
    go false b e = omega arith

-- ---- the ones of a word

-- a bit as a number
pub bit_is : (x : ℕ) → x < 2 → cond (eqb x 1) 1 0 ≡ x
bit_is zero h = refl
bit_is (suc zero) h = refl
bit_is (suc (suc x)) h = absurd (omega arith)

ones-from : (w n : ℕ) → ones w ≡ count_up_to (bit w) n + ones (w / 2 ^ n)
unfolding count_up_to bit
ones-from w zero = let d : w / 1 ≡ w = div-one w in let e : ones (w / 1) ≡ ones w = ap ones d in omega arith
ones-from w (suc n) =
    let e = ones-from w n in
    let s = ones_step (w / 2 ^ n) in
    let b : cond (eqb (w / 2 ^ n % 2) 1) 1 0 ≡ w / 2 ^ n % 2 = bit_is (w / 2 ^ n % 2) (omega arith) in
    let q : w / 2 ^ n / 2 ≡ w / 2 ^ suc n = div-div-eq-div-mul w (2 ^ n) 2 ∙ rw pow-suc in
    let t : ones (w / 2 ^ n / 2) ≡ ones (w / 2 ^ suc n) = ap ones q in
    omega arith

ones-zero : ones 0 ≡ 0
unfolding ones
ones-zero = refl

-- as the machine counts them
pub ones_is : (w n : ℕ) → w < 2 ^ n → ones w ≡ count_up_to (bit w) n
ones_is w n h =
    let e = ones-from w n in
    let z : ones (w / 2 ^ n) ≡ ones 0 = ap ones (div-eq_of_lt h) in
    let o = ones-zero in
    omega arith

-- the marks of one word more
pub count_word_lem : (ws : List ℕ) (k : ℕ) → get_or ws k 0 < 2 ^ 64
    → count_up_to (mark ws) (64 * (k + 1)) ≡ count_up_to (mark ws) (64 * k) + ones (get_or ws k 0)
count_word_lem ws k h =
    let s : 64 * (k + 1) ≡ 64 * k + 64 = omega arith in
    rw (s, count-join (mark ws) (64 * k) 64, count_same (λ j. mark ws (64 * k + j)) (bit (get_or ws k 0)) 64 (λ j b. mark-at ws k j b), ones_is (get_or ws k 0) 64 h)
