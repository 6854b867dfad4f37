-- Laws of text that is put piece by piece: pieces side by side, digits, and the parts of a line.
-- Assumes nothing.
use Prim.Native.Nat.{ℕ, zero, suc, ◌+◌, ◌-◌, ◌/◌, ◌%◌, ◌^◌, ◌<◌, ◌≤◌}
use mathlib.Core.Path.{◌≡◌, refl, ◌∙◌, ap}
use mathlib.Core.Bool.{Bool, true, false, cond}
use mathlib.Core.List.{List, [], ◌∷◌, ◌++◌, append_assoc}
use native.Mathlib.Nat.{pow-succ', one-le-pow}
use native.Mathlib.Omega.{arith}
use borrow.Author.Tests.{lt-ltb, le-ltb}
use lib.Dec.{ltb}
use lib.ListN.{length, set, take, length-append, length-take, length-drop}
use Rattle.io.specs.Digits.{last_digits, IsDigitCount}
use Rattle.num.specs.Bytes.{splice}
use Rattle.num.proofs.SpliceLaws.{splice-one, splice-more, length-splice}
use Rattle.listing_text.specs.Text.{Put, digit, decimal_in, decimal, hex_four, space, line_end, line}

-- ---- pieces side by side

pub put_then : (l : List ℕ) (at : ℕ) (xs ys : List ℕ) {m n : List ℕ} {r e : ℕ} → at + length xs ≤ length l → Put l at xs m r → Put m r ys n e → Put l at (xs ++ ys) n e
put_then l at xs ys {m} {n} {r} {e} h p q =
    let k : e ≡ at + length (xs ++ ys) = simp length-append (omega (arith, p.0, q.0)) in
    (k, q.1 ∙ rw (p.1, p.0) (splice-more l at xs ys (length xs) refl h))

pub put_byte : (l : List ℕ) (at x : ℕ) → at < length l → Put l at (x ∷ []) (set l at x) (at + 1)
put_byte l at x h = (refl, splice-one l at x h)

-- and one byte more
pub put-more : (l : List ℕ) (at : ℕ) (xs : List ℕ) (x : ℕ) {m : List ℕ} {r : ℕ} → at + length xs < length l → Put l at xs m r → Put l at (xs ++ (x ∷ [])) (set m r x) (r + 1)
put-more l at xs x {m} {r} h p =
    let n : length m ≡ length l = ap length p.1 ∙ length-splice l at xs (omega arith) in
    put_then l at xs (x ∷ []) (omega arith) p (put_byte m r x (omega (arith, p.0)))

-- text that was put ends in the buffer, which keeps its length
pub put-fits : (l xs : List ℕ) {m : List ℕ} {e : ℕ} → Put l 0 xs m e → length m ≡ length l → e ≤ length l
put-fits l xs {m} p k =
    let n : length (splice l 0 xs) ≡ length xs + (length l - length xs) = simp (length-append, length-take, length-drop) (omega arith) in
    let q : length m ≡ length (splice l 0 xs) = ap length p.1 in
    omega (arith, p.0, n, q, k)

pub four_bytes : (l : List ℕ) (at w x y z : ℕ) → at + 4 ≤ length l → Put l at (w ∷ x ∷ y ∷ z ∷ []) (set (set (set (set l at w) (at + 1) x) (at + 2) y) (at + 3) z) (at + 4)
four_bytes l at w x y z h =
    let a : at + 1 + 1 ≡ at + 2 = omega arith in
    let b : at + 2 + 1 ≡ at + 3 = omega arith in
    let c : at + 3 + 1 ≡ at + 4 = omega arith in
    let two : Put l at (w ∷ x ∷ []) (set (set l at w) (at + 1) x) (at + 2) = rw a at (put-more l at (w ∷ []) x (omega arith) (put_byte l at w (omega arith))) in
    let three : Put l at (w ∷ x ∷ y ∷ []) (set (set (set l at w) (at + 1) x) (at + 2) y) (at + 3) = rw b at (put-more l at (w ∷ x ∷ []) y (omega arith) two) in
    rw c at (put-more l at (w ∷ x ∷ y ∷ []) z (omega arith) three)

-- ---- digits

ten-more : (k n : ℕ) → (1 < suc (suc k) → 10 ^ (suc (suc k) - 1) ≤ n) → 10 ≤ n
ten-more k n v =
    let q = pow-succ' 10 k in
    let one : suc (suc k) - 1 ≡ suc k = omega arith in
    let low : 10 ^ suc k ≤ n = rw one at (v (omega arith)) in
    let pos : 1 ≤ 10 ^ k = one-le-pow k 10 (omega arith) in
    omega arith

-- the fewest digits of a number are its digits without leading zeros
pub digits_decimal : (m k n : ℕ) → n < 10 ^ suc m → 1 ≤ k → n < 10 ^ k → (1 < k → 10 ^ (k - 1) ≤ n) → last_digits 10 k n ≡ decimal_in (suc m) n
unfolding decimal_in digit
digits_decimal m zero n h l u v = absurd (omega arith)
digits_decimal m (suc zero) n h l u v =
    let b : n < 10 = omega arith in
    let e : n % 10 ≡ n = omega arith in
    rw (e, lt-ltb n 10 b)
digits_decimal zero (suc (suc k)) n h l u v = absurd (omega (arith, ten-more k n v))
digits_decimal (suc m) (suc (suc k)) n h l u v =
    let p = pow-succ' 10 (suc k) in
    let q = pow-succ' 10 k in
    let r = pow-succ' 10 (suc m) in
    let one : suc (suc k) - 1 ≡ suc k = omega arith in
    let two : suc k - 1 ≡ k = omega arith in
    let low : 10 ^ suc k ≤ n = rw one at (v (omega arith)) in
    rw (le-ltb n 10 (ten-more k n v), digits_decimal m (suc k) (n / 10) (omega arith) (omega arith) (omega arith) (λ _. rw two (omega arith)))

-- what `io::decimal` spells
pub spelt : (text : List ℕ) (n k : ℕ) → n < 2 ^ 64 → IsDigitCount 10 1 n k → take k text ≡ last_digits 10 k n → take k text ≡ decimal n
spelt text n k l f d = d ∙ digits_decimal 19 k n (omega arith) f.0 f.1 f.2

pub decimal-short : (m k x : ℕ) → 1 ≤ k → x < 10 ^ k → length (decimal_in m x) ≤ k
unfolding decimal_in
decimal-short zero k x l u = omega arith
decimal-short (suc m) zero x l u = absurd (omega arith)
decimal-short (suc m) (suc zero) x l u = rw (lt-ltb x 10 (omega arith)) (omega arith)
decimal-short (suc m) (suc (suc k)) x l u =
    let p = pow-succ' 10 (suc k) in
    go (ltb x 10) (decimal-short m (suc k) (x / 10) (omega arith) (omega arith))
  where
    go : (b : Bool) → length (decimal_in m (x / 10)) ≤ suc k → length (cond b (digit x ∷ []) (decimal_in m (x / 10) ++ (digit (x % 10) ∷ []))) ≤ suc (suc k)
    go true h = omega arith
    go false h = simp length-append (omega arith)

-- a number of 32 bits
pub decimal-of-32 : (x : ℕ) → x < 2 ^ 32 → length (decimal x) ≤ 10
decimal-of-32 x h = decimal-short 20 10 x (omega arith) (omega arith)

-- a number of 64 bits
pub decimal-length : (x : ℕ) → x < 2 ^ 64 → length (decimal x) ≤ 20
decimal-length x h = decimal-short 20 20 x (omega arith) (omega arith)

pub length-hex : (mask : ℕ) → length (hex_four mask) ≡ 4
unfolding hex_four
length-hex mask = refl

-- ---- the parts of a line

pub line-parts : (at : ℕ) (name : List ℕ) (bank place : ℕ) (mask : List ℕ)
    → decimal at ++ (space ∷ []) ++ (name ++ (space ∷ [])) ++ (decimal bank ++ (space ∷ [])) ++ (decimal place ++ (space ∷ [])) ++ (mask ++ (line_end ∷ [])) ≡ line at name bank place mask
unfolding line
line-parts at name bank place mask = simp append_assoc

pub length-word : (name : List ℕ) → length (name ++ (space ∷ [])) ≡ length name + 1
length-word name = length-append name (space ∷ [])

pub line-put : (l : List ℕ) (at instant : ℕ) (name : List ℕ) (bank place : ℕ) (mask : List ℕ) {l1 l2 l3 l4 l5 : List ℕ} {r1 r2 r3 r4 r5 : ℕ}
    → at + 64 ≤ length l → length name ≤ 5
    → Put l at (decimal instant ++ (space ∷ [])) l1 r1 × (r1 ≤ at + 11)
    → Put l1 r1 (name ++ (space ∷ [])) l2 r2
    → Put l2 r2 (decimal bank ++ (space ∷ [])) l3 r3 × (r3 ≤ r2 + 11)
    → Put l3 r3 (decimal place ++ (space ∷ [])) l4 r4 × (r4 ≤ r3 + 11)
    → Put l4 r4 (mask ++ (line_end ∷ [])) l5 r5 × (r5 ≤ r4 + 5)
    → Put l at (line instant name bank place mask) l5 r5 × (r5 ≤ at + 64)
line-put l at instant name bank place mask h k p1 p2 p3 p4 p5 =
    let n = length-word name in
    let a = decimal instant ++ (space ∷ []) in
    let b = name ++ (space ∷ []) in
    let c = decimal bank ++ (space ∷ []) in
    let d = decimal place ++ (space ∷ []) in
    let e = mask ++ (line_end ∷ []) in
    let q2 = put_then l at a b (omega (arith, p1.0.0, p1.1)) p1.0 p2 in
    let q3 = put_then l at (a ++ b) c (omega (arith, n, q2.0, p1.1, p2.0)) q2 p3.0 in
    let q4 = put_then l at (a ++ b ++ c) d (omega (arith, n, q3.0, p1.1, p2.0, p3.1)) q3 p4.0 in
    let q5 = put_then l at (a ++ b ++ c ++ d) e (omega (arith, n, q4.0, p1.1, p2.0, p3.1, p4.1)) q4 p5.0 in
    (rw (line-parts instant name bank place mask) at q5, omega (arith, n, p1.1, p2.0, p3.1, p4.1, p5.1))
