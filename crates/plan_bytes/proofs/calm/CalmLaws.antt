-- The highest stored instant of a state: it bounds each, and the or of all bounds it.
-- Assumes nothing.
use Prim.Native.Nat.{ℕ, zero, suc, ◌+◌, ◌*◌, ◌<◌, ◌≤◌, max}
use mathlib.Core.Path.{◌≡◌, sym}
use mathlib.Core.Bool.{true}
use mathlib.Core.List.{List}
use mathlib.Core.Logic.{⊎_elim}
use native.Mathlib.Nat.{eq-or-lt_of_le, le_of_suc-le-suc}
use native.Mathlib.Numerals.{add-one}
use native.Mathlib.Omega.{arith}
use borrow.Author.Tests.{leb-true, le-leb}
use lib.Bits.{bit_or, or_add_and, and_le_l, and_le_r}
use Rattle.spec_rules.specs.Checks.{max_up_to}
use Rattle.plan_bytes.specs.Form.Numbers.{word, Below}
use Rattle.plan_bytes.specs.Form.Calm.{highest_in, is_calm}

max-at : (f : ℕ → ℕ) (n k : ℕ) → k < n → f k ≤ max_up_to f n
unfolding max_up_to
max-at f zero k l = absurd (omega arith)
max-at f (suc n) k l = ⊎_elim (λ (e : k ≡ n). rw e (omega arith)) (λ (m : k < n). omega (arith, max-at f n k m)) (eq-or-lt_of_le (le_of_suc-le-suc l))

-- one of two and the rest
le-here : (a b top : ℕ) → max a b ≤ top → (a ≤ top) × (b ≤ top)
le-here a b top h = (omega arith, omega arith)

through : (a b c : ℕ) → a ≤ b → b ≤ c → a ≤ c
through a b c h g = omega arith

pub highest-below : (b : List ℕ) (top : ℕ) → highest_in b ≤ top → Below top b
unfolding highest_in Below
highest-below b top h =
    let p0 = le-here (max_up_to (λ k. word b (4 * k)) 160) _ top h in
    let p1 = le-here (word b 704) _ top p0.1 in
    let p2 = le-here (word b 708) _ top p1.1 in
    let p3 = le-here (word b 712) _ top p2.1 in
    let p4 = le-here (word b 716) _ top p3.1 in
    let p5 = le-here (word b 720) _ top p4.1 in
    let p6 = le-here (word b 724) _ top p5.1 in
    let p7 = le-here (word b 740) _ top p6.1 in
    let p8 = le-here (word b 748) (word b 752) top p7.1 in
    record {
      banks = λ k l. through _ _ top (max-at (λ k. word b (4 * k)) 160 k l) p0.0;
      packet = p1.0;
      row = p2.0;
      col = p3.0;
      pre = p4.0;
      rd = p5.0;
      implied = p6.0;
      wrote = λ _. p7.0;
      second = λ _. p8.0;
      now = p8.1;
    }

pub calm-below : (b : List ℕ) → is_calm b ≡ true → Below 999990000 b
unfolding is_calm
calm-below b e = highest-below b 999990000 (leb-true (highest_in b) 999990000 e)

pub low-calm : (b : List ℕ) (top : ℕ) → highest_in b ≤ top → top < 536870912 → true ≡ is_calm b
unfolding is_calm
low-calm b top h l = sym (le-leb (highest_in b) 999990000 (omega arith))

-- ---- an or is no less than either number

or_left : (a b : ℕ) → a ≤ bit_or a b
or_left a b = omega (arith, or_add_and a b, and_le_r a b)

or_right : (a b : ℕ) → b ≤ bit_or a b
or_right a b = omega (arith, or_add_and a b, and_le_l a b)

-- one number more
pub or_step : (f : ℕ → ℕ) (n : ℕ) {top x y : ℕ} → max_up_to f n ≤ top → x ≡ f n → y ≡ bit_or top x → max_up_to f (n + 1) ≤ y
unfolding max_up_to
or_step f n {top} {x} h e g = rw (add-one n, g, ← e) (omega (arith, or_left top x, or_right top x))

-- each of four
or-four : (a b c d : ℕ) → let top : ℕ = bit_or (bit_or (bit_or a b) c) d in (a ≤ top) × ((b ≤ top) × ((c ≤ top) × (d ≤ top)))
or-four a b c d =
    let two : ℕ = bit_or a b in
    let three : ℕ = bit_or two c in
    let last : three ≤ bit_or three d = or_left three d in
    let third : two ≤ bit_or three d = through two three _ (or_left two c) last in (
      through a two _ (or_left a b) third,
      (through b two _ (or_right a b) third, (through c three _ (or_right two c) last, or_right three d)),
    )

-- the or that the code makes of the ten numbers
pub or-highest : (b : List ℕ) (banks a c d i e f g k n : ℕ) → max_up_to (λ k. word b (4 * k)) 160 ≤ banks
    → a ≡ word b 704 → c ≡ word b 708 → d ≡ word b 716 → i ≡ word b 724 → e ≡ word b 712 → f ≡ word b 720 → g ≡ word b 740 → k ≡ word b 748 → n ≡ word b 752
    → highest_in b ≤ bit_or (bit_or (bit_or banks (bit_or (bit_or (bit_or a c) d) i)) (bit_or (bit_or (bit_or e f) g) k)) n
unfolding highest_in
or-highest b banks a c d i e f g k n h0 ha hc hd hi he hf hg hk hn =
    let rows : ℕ = bit_or (bit_or (bit_or a c) d) i in
    let cols : ℕ = bit_or (bit_or (bit_or e f) g) k in
    let all : ℕ = bit_or (bit_or (bit_or banks rows) cols) n in
    let r = or-four a c d i in
    let q = or-four e f g k in
    let m = or-four banks rows cols n in
    most _ _ all (through _ banks all h0 m.0)
    (most _ _ all (within rows all ha r.0 m.1.0)
    (most _ _ all (within rows all hc r.1.0 m.1.0)
    (most _ _ all (within cols all he q.0 m.1.1.0)
    (most _ _ all (within rows all hd r.1.1.0 m.1.0)
    (most _ _ all (within cols all hf q.1.0 m.1.1.0)
    (most _ _ all (within rows all hi r.1.1.1 m.1.0)
    (most _ _ all (within cols all hg q.1.1.0 m.1.1.0) (most _ _ all (within cols all hk q.1.1.1 m.1.1.0) (within n all hn (omega arith) m.1.1.1)))))))))
  where
    most : (a b top : ℕ) → a ≤ top → b ≤ top → max a b ≤ top
    most a b top h g = omega arith

    within : {x w : ℕ} (part all : ℕ) → x ≡ w → x ≤ part → part ≤ all → w ≤ all
    within part all e h g = omega (arith, e)
