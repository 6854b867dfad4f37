-- Words of one bit, and of the bits of two.
-- Assumes nothing.
use Prim.Native.Nat.{ℕ, zero, suc, ◌+◌, ◌-◌, ◌*◌, ◌%◌, ◌^◌, ◌<◌, ◌≤◌}
use mathlib.Core.Path.{◌≡◌, refl, sym, ap, ◌∙◌}
use mathlib.Core.Bool.{Bool, true, false, ◌&&◌, ◌||◌}
use mathlib.Core.List.{List}
use native.Mathlib.Nat.{mod-lt}
use native.Mathlib.Numerals.{add-one}
use native.Mathlib.Omega.{arith}
use borrow.Author.Tests.{eq-eqb, ne_eqb, ltb-true, ltb-false}
use lib.Bits.{bit_or, or_lt}
use lib.Dec.{eqb, ltb, lit<}
use lib.Pow.{pow_pos}
use Rattle.num.specs.Marks.{bit, word}
use Rattle.num.proofs.bits.BitLaws.{bit-or, bit-none, bit-low, bit-shl, bit-shl-none, word_below, bit_word, word-is}
use Rattle.num.proofs.bits.MarkLaws.{bit-zero}
use Rattle.spec_index.specs.Touched.{some_up_to}
use Rattle.log_index.specs.Form.Fields.{fields_at, fields_up_to}

-- bit j of the number whose one bit is that of a bank
bit-one : (j : ℕ) → bit 1 j ≡ eqb 0 j
unfolding bit
bit-one zero = refl
bit-one (suc j) = bit-none 1 1 (suc j) (lit< tt) (omega arith) ∙ sym (ne_eqb 0 (suc j) (λ e. omega arith))

bit-power : (bank j : ℕ) → bit (1 * 2 ^ bank) j ≡ eqb bank j
bit-power bank j = go (ltb j bank) refl
  where
    same : (d : ℕ) → eqb 0 d ≡ eqb bank (bank + d)
    same zero = sym (eq-eqb bank (bank + 0) (omega arith))
    same (suc d) = ne_eqb 0 (suc d) (λ e. omega arith) ∙ sym (ne_eqb bank (bank + suc d) (λ e. omega arith))

    go : (t : Bool) → ltb j bank ≡ t → bit (1 * 2 ^ bank) j ≡ eqb bank j
    go true e = let l = ltb-true j bank e in bit-shl-none 1 bank j l ∙ sym (ne_eqb bank j (λ q. omega arith))
    go false e =
        let l = ltb-false j bank e in
        let i : bank + (j - bank) ≡ j = omega arith in
        rw i at (bit-shl 1 bank (j - bank) ∙ bit-one (j - bank) ∙ same (j - bank))

pub power-is : (bank : ℕ) → bank < 32 → 1 * 2 ^ bank % 2 ^ 32 ≡ word (λ b. true && eqb bank b) 32
power-is bank h =
    word-is (1 * 2 ^ bank % 2 ^ 32) (λ b. eqb bank b) 32 (mod-lt (1 * 2 ^ bank) (pow_pos 32))
    (λ j l. bit-low (1 * 2 ^ bank) 32 j l ∙ bit-power bank j)

pub none_is : (f : ℕ → Bool) → 0 ≡ word (λ b. false && f b) 32
none_is f = word-is 0 (λ b. false && f b) 32 (lit< tt) (λ j l. bit-zero j)

or_is : (f g : ℕ → Bool) → bit_or (word f 32) (word g 32) ≡ word (λ b. f b || g b) 32
or_is f g =
    word-is (bit_or (word f 32) (word g 32)) (λ b. f b || g b) 32 (or_lt 32 (word f 32) (word g 32) (word_below f 32) (word_below g 32))
    (λ j h. bit-or (word f 32) (word g 32) j ∙ rw (bit_word f 32 j h, bit_word g 32 j h))

-- the word of one record more
pub fields-none : (block : List ℕ) → 0 ≡ fields_up_to block 0
unfolding fields_up_to some_up_to
fields-none block = none_is (λ b. false)

pub fields-next : (block : List ℕ) (n : ℕ) → bit_or (fields_up_to block n) (word (fields_at block (32 * n)) 32) ≡ fields_up_to block (n + 1)
unfolding fields_up_to some_up_to
fields-next block n = rw add-one (or_is (λ b. some_up_to (λ i. fields_at block (32 * i) b) n) (fields_at block (32 * n)))
