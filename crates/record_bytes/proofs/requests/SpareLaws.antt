-- Laws of the spare bytes of a request: bytes that are used alike are tested as one number, and the groups of the 24 bytes.
-- Assumes nothing.
use Rattle.std.proofs.Common.{◌≡◌, ℕ, zero, suc, ◌+◌, ◌*◌, ◌^◌, ◌≤◌, Bool, true, false, ◌&&◌, ◌||◌, eqb, leb, List, length, get_or, sym, refl, ap, ◌∙◌, ap₂, add-zero, mul-zero, mul-suc, add-one, arith, ne_eqb}
use mathlib.Core.Bool.{and-true, and-false, or-true, or-and_distrib_left}
use native.Mathlib.Nat.{one-le-pow}
use lib.Dec.{eqb-suc-zero}
use Rattle.num.specs.Bytes.{number, part}
use Rattle.num.specs.Search.{all_up_to}
use Rattle.num.proofs.ByteLaws.{number-part, number-one}
use Rattle.num.proofs.SearchLaws.{all_join}
use Rattle.record.specs.Request.{kind_of, uses_byte, spare_right}

-- a number is zero where its low bytes and its next byte are
sum-zero : (x p y : ℕ) → 1 ≤ p → eqb (x + p * y) 0 ≡ (eqb x 0 && eqb y 0)
sum-zero x p zero h = rw (mul-zero, add-zero) (sym (and-true (eqb x 0)))
sum-zero x p (suc y) h =
    let m = mul-suc p y in
    ne_eqb (x + p * suc y) 0 (λ e. omega arith) ∙ sym (rw (eqb-suc-zero y) (and-false (eqb x 0)))

-- whether the number of n bytes is zero
abbrev pub zero_at : List ℕ → ℕ → ℕ → Bool
zero_at b at n = eqb (number (part b at n)) 0

-- n bytes that are all used or all tested are tested as one number
used-or-zero : (b : List ℕ) (used : Bool) (at n : ℕ) → at + n ≤ length b
    → all_up_to (λ i. used || eqb (get_or b (at + i) 0) 0) n ≡ (used || zero_at b at n)
unfolding all_up_to number
used-or-zero b used at zero h = sym (or-true used)
used-or-zero b used at (suc n) h =
    let x : ℕ = number (part b at n) in
    let y : ℕ = get_or b (at + n) 0 in
    let e : number (part b at (suc n)) ≡ x + 256 ^ n * y =
    rw (← add-one n, number-part b at n 1 (omega arith), number-one b (at + n) (omega arith)) in
    rw (used-or-zero b used at n (omega arith), e, sum-zero x (256 ^ n) y (one-le-pow n 256 (omega arith)))
    (sym (or-and_distrib_left used (eqb x 0) (eqb y 0)))

-- the definition's test of byte i
abbrev test : List ℕ → ℕ → Bool
test b i = uses_byte (kind_of b) i || eqb (get_or b i 0) 0

-- one group more: n bytes that are used alike
group : (b : List ℕ) (used : Bool) (at n : ℕ) {before : Bool} → at + n ≤ length b
    → all_up_to (λ i. test b (at + i)) n ≡ all_up_to (λ i. used || eqb (get_or b (at + i) 0) 0) n
    → all_up_to (test b) at ≡ before → all_up_to (test b) (at + n) ≡ (before && (used || zero_at b at n))
group b used at n h same e = all_join (test b) at n ∙ ap₂ ◌&&◌ e (same ∙ used-or-zero b used at n h)

-- the groups with one test of a write
gather : (place none write mask wait cycles low high : Bool)
    → (place && none && (write || mask) && (write || wait || cycles) && (write || low) && (write || high))
    ≡ ((place && none) && (write || ((mask && (wait || cycles)) && (low && high))))
gather false none write mask wait cycles low high = refl
gather true false write mask wait cycles low high = refl
gather true true true mask wait cycles low high = refl
gather true true false false wait cycles low high = refl
gather true true false true false false low high = refl
gather true true false true false true low high = refl
gather true true false true true cycles low high = refl

-- the spare bytes by numbers: bytes 1 to 4, 5, 6 and 7, 8 to 11, 12 to 15, and 16 to 23
pub spare-groups : (b : List ℕ) → length b ≡ 24
    → spare_right b
    ≡ ((((leb (kind_of b) 1 || leb 6 (kind_of b)) || zero_at b 1 4) && eqb (get_or b 5 0) 0)
    && ((eqb (kind_of b) 1 || eqb (kind_of b) 7) || ((zero_at b 6 2 && (eqb (kind_of b) 3 || zero_at b 8 4)) && (zero_at b 12 4 && zero_at b 16 8))))
unfolding spare_right uses_byte all_up_to
spare-groups b h =
    let access : Bool = leb (kind_of b) 1 || leb 6 (kind_of b) in
    let write : Bool = eqb (kind_of b) 1 || eqb (kind_of b) 7 in
    let wait : Bool = eqb (kind_of b) 3 in
    let place = group b access 1 4 (omega arith) refl refl in
    let none = ap (λ (t : Bool). t && eqb (get_or b 5 0) 0) place in
    let mask = group b write 6 2 (omega arith) refl none in
    let cycles = group b (write || wait) 8 4 (omega arith) refl mask in
    let low = group b write 12 4 (omega arith) refl cycles in
    let high = group b write 16 8 (omega arith) refl low in
    high
    ∙ gather (access || zero_at b 1 4) (eqb (get_or b 5 0) 0) write (zero_at b 6 2) wait (zero_at b 8 4) (zero_at b 12 4) (zero_at b 16 8)
