-- Laws of the bits of a word: those of `or` and `and`, of shifts, of a word that is made of bits; a word is its bits.
-- Assumes nothing.
use Prim.Native.Nat.{ℕ, zero, suc, ◌+◌, ◌-◌, ◌*◌, ◌/◌, ◌%◌, ◌^◌, ◌<◌, ◌≤◌, min, max}
use mathlib.Core.Path.{◌≡◌, refl, sym, ap, ap₂, ◌∙◌}
use mathlib.Core.Bool.{Bool, true, false, cond, ◌&&◌, ◌||◌}
use mathlib.Core.Logic.{⊎_elim}
use native.Mathlib.Nat.{div-one, pow-suc, pow-succ', div-div-eq-div-mul, div-eq_of_lt, mod-eq_of_lt, mod-lt, mul_assoc, max-le, min-le_left, lt_of_lt_of_le, mul-mod_left, mod-one, eq-or-lt_of_le, le_of_suc-le-suc}
use native.Mathlib.Numerals.{one-add}
use native.Mathlib.Omega.{arith}
use lib.Arith.{digits_div, digits_mod}
use lib.Bits.{bit_and, bit_or, and_step, or_step}
use lib.Dec.{eqb, lit<}
use lib.Pow.{pow_mono, pow-add, shr-shr, shl-shr, field, mod-mod-pow, mod-pow-add}
use Rattle.num.specs.Marks.{bit, word}

-- tests that hold at the same time
pub same_truth : (a b : Bool) → (a ≡ true → b ≡ true) → (b ≡ true → a ≡ true) → a ≡ b
same_truth true true f g = refl
same_truth true false f g = sym (f refl)
same_truth false true f g = g refl
same_truth false false f g = refl

-- digit j of a number, 0 or 1
abbrev digit : ℕ → ℕ → ℕ
digit w j = w / 2 ^ j % 2

digit-2 : (w j : ℕ) → digit w j < 2
digit-2 w j = mod-lt (w / 2 ^ j) (lit< tt)

digit-zero : (w : ℕ) → digit w 0 ≡ w % 2
digit-zero w = ap (λ (x : ℕ). x % 2) (div-one w)

digit-suc : (w j : ℕ) → digit w (suc j) ≡ digit (w / 2) j
digit-suc w j = ap (λ (x : ℕ). x % 2) (ap (λ (p : ℕ). w / p) (pow-succ' 2 j) ∙ sym (div-div-eq-div-mul w 2 (2 ^ j)))

-- ---- `or` and `and`: an operation that goes digit by digit

module _ (op f : ℕ → ℕ → ℕ) (step : (a b : ℕ) → op a b ≡ op (a / 2) (b / 2) * 2 + f (a % 2) (b % 2)) (small : (x y : ℕ) → x < 2 → y < 2 → f x y < 2) where
  digit-op : (a b j : ℕ) → digit (op a b) j ≡ f (digit a j) (digit b j)
  digit-op a b zero =
      let m = small (a % 2) (b % 2) (mod-lt a (lit< tt)) (mod-lt b (lit< tt)) in
      let e = step a b in
      let o : op a b % 2 ≡ f (a % 2) (b % 2) = omega arith in
      digit-zero (op a b) ∙ o ∙ sym (ap₂ f (digit-zero a) (digit-zero b))
  digit-op a b (suc j) =
      let m = small (a % 2) (b % 2) (mod-lt a (lit< tt)) (mod-lt b (lit< tt)) in
      let e = step a b in
      let h : op a b / 2 ≡ op (a / 2) (b / 2) = omega arith in
      digit-suc (op a b) j ∙ ap (λ (x : ℕ). digit x j) h ∙ digit-op (a / 2) (b / 2) j ∙ sym (ap₂ f (digit-suc a j) (digit-suc b j))

max-2 : (x y : ℕ) → x < 2 → y < 2 → max x y < 2
max-2 x y h k = let m : max x y ≤ 1 = max-le (omega arith) (omega arith) in omega arith

min-2 : (x y : ℕ) → x < 2 → y < 2 → min x y < 2
min-2 x y h k = let m = min-le_left x y in omega arith

one-max : (x y : ℕ) → x < 2 → y < 2 → eqb (max x y) 1 ≡ (eqb x 1 || eqb y 1)
one-max zero zero h k = refl
one-max zero (suc zero) h k = refl
one-max (suc zero) zero h k = refl
one-max (suc zero) (suc zero) h k = refl
one-max (suc (suc x)) y h k = absurd (omega arith)
one-max zero (suc (suc y)) h k = absurd (omega arith)
one-max (suc zero) (suc (suc y)) h k = absurd (omega arith)

one-min : (x y : ℕ) → x < 2 → y < 2 → eqb (min x y) 1 ≡ (eqb x 1 && eqb y 1)
one-min zero zero h k = refl
one-min zero (suc zero) h k = refl
one-min (suc zero) zero h k = refl
one-min (suc zero) (suc zero) h k = refl
one-min (suc (suc x)) y h k = absurd (omega arith)
one-min zero (suc (suc y)) h k = absurd (omega arith)
one-min (suc zero) (suc (suc y)) h k = absurd (omega arith)

pub bit-or : (a b j : ℕ) → bit (bit_or a b) j ≡ (bit a j || bit b j)
unfolding bit
bit-or a b j = ap (λ (x : ℕ). eqb x 1) (digit-op bit_or max or_step max-2 a b j) ∙ one-max (digit a j) (digit b j) (digit-2 a j) (digit-2 b j)

pub bit-and : (a b j : ℕ) → bit (bit_and a b) j ≡ (bit a j && bit b j)
unfolding bit
bit-and a b j = ap (λ (x : ℕ). eqb x 1) (digit-op bit_and min and_step min-2 a b j) ∙ one-min (digit a j) (digit b j) (digit-2 a j) (digit-2 b j)

-- ---- shifts, and what stands past the end of a word

pub bit-shr : (w r j : ℕ) → bit (w / 2 ^ r) j ≡ bit w (r + j)
unfolding bit
bit-shr w r j = rw (shr-shr w r j)

pub bit-none : (w n j : ℕ) → w < 2 ^ n → n ≤ j → bit w j ≡ false
unfolding bit
bit-none w n j h k = rw (div-eq_of_lt (lt_of_lt_of_le h (pow_mono k)))

-- the n low bits
pub bit-low : (w n j : ℕ) → j < n → bit (w % 2 ^ n) j ≡ bit w j
unfolding bit
bit-low w n j h =
    let k : ℕ = n - suc j in
    let e : n ≡ k + 1 + j = omega arith in
    rw (e, field w (k + 1) j, mod-mod-pow (w / 2 ^ j) k 1)

pub bit-shl : (w r j : ℕ) → bit (w * 2 ^ r) (r + j) ≡ bit w j
unfolding bit
bit-shl w r j = rw (← shr-shr (w * 2 ^ r) r j, shl-shr w r)

pub bit-shl-none : (w r j : ℕ) → j < r → bit (w * 2 ^ r) j ≡ false
unfolding bit
bit-shl-none w r j h =
    let k : ℕ = r - suc j in
    let e : r ≡ k + 1 + j = omega arith in
    let p : w * 2 ^ (k + 1 + j) ≡ w * 2 ^ k * 2 * 2 ^ j = rw (pow-add 2 (k + 1) j, pow-add 2 k 1) (simp mul_assoc) in
    rw (e, p, shl-shr (w * 2 ^ k * 2) j, mul-mod_left (w * 2 ^ k) 2)

-- ---- a word that is made of bits

-- a digit above n others
top : (b : Bool) (x n : ℕ) → x < 2 ^ n → x + cond b (2 ^ n) 0 < 2 ^ suc n
top true x n h = let p = pow-suc 2 n in rw p (omega arith)
top false x n h = let p = pow-suc 2 n in rw p (omega arith)

-- as a digit and the number below it
top-is : (b : Bool) (x p : ℕ) → x + cond b p 0 ≡ cond b 1 0 * p + x
top-is true x p = omega arith
top-is false x p = omega arith

bit-top : (b : Bool) (x n : ℕ) → x < 2 ^ n → bit (x + cond b (2 ^ n) 0) n ≡ b
unfolding bit
bit-top b x n h = rw (top-is b x (2 ^ n), digits_div (cond b 1 0) h) (go b)
  where
    go : (b : Bool) → eqb (cond b 1 0 % 2) 1 ≡ b
    go true = refl
    go false = refl

bit-under : (b : Bool) (x n j : ℕ) → x < 2 ^ n → j < n → bit (x + cond b (2 ^ n) 0) j ≡ bit x j
bit-under b x n j h l =
    let e : (x + cond b (2 ^ n) 0) % 2 ^ n ≡ x = rw (top-is b x (2 ^ n)) (digits_mod (cond b 1 0) h) in
    sym (bit-low (x + cond b (2 ^ n) 0) n j l) ∙ ap (λ (y : ℕ). bit y j) e

pub word_below : (f : ℕ → Bool) (n : ℕ) → word f n < 2 ^ n
unfolding word
word_below f zero = lit< tt
word_below f (suc n) = top (f n) (word f n) n (word_below f n)

-- tests that agree make the same word
pub word_same : (f g : ℕ → Bool) (n : ℕ) → ((j : ℕ) → j < n → f j ≡ g j) → word f n ≡ word g n
unfolding word
word_same f g zero h = refl
word_same f g (suc n) h = ap₂ (λ (x : ℕ) (b : Bool). x + cond b (2 ^ n) 0) (word_same f g n (λ j l. h j (omega arith))) (h n (omega arith))

digit-is : (d p : ℕ) → d < 2 → cond (eqb d 1) p 0 ≡ d * p
digit-is zero p h = omega arith
digit-is (suc zero) p h = omega arith
digit-is (suc (suc d)) p h = absurd (omega arith)

-- a word is the one that its bits make
pub word-bits : (w n : ℕ) → word (bit w) n ≡ w % 2 ^ n
unfolding word bit
word-bits w zero = sym (mod-one w)
word-bits w (suc n) =
    let m = mod-pow-add w 1 n in
    rw (word-bits w n, digit-is (digit w n) (2 ^ n) (digit-2 w n), ← one-add n, m) (omega arith)

pub bit_word : (f : ℕ → Bool) (n j : ℕ) → j < n → bit (word f n) j ≡ f j
unfolding word
bit_word f zero j h = absurd (omega arith)
bit_word f (suc n) j h =
    ⊎_elim
    (λ e. rw e (bit-top (f n) (word f n) n (word_below f n)))
    (λ l. bit-under (f n) (word f n) n j (word_below f n) l ∙ bit_word f n j l)
    (eq-or-lt_of_le (le_of_suc-le-suc h))

-- a number of n bits is the word that they make
pub word-is : (w : ℕ) (f : ℕ → Bool) (n : ℕ) → w < 2 ^ n → ((j : ℕ) → j < n → bit w j ≡ f j) → w ≡ word f n
word-is w f n h e = sym (mod-eq_of_lt h) ∙ sym (word-bits w n) ∙ word_same (bit w) f n e
