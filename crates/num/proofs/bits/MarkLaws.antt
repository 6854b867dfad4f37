-- Laws of marks in words: which bit a mark is, words that are made of marks, and how many marks there are.
-- Assumes nothing.
use Prim.Native.Nat.{ℕ, zero, suc, ◌+◌, ◌-◌, ◌*◌, ◌/◌, ◌%◌, ◌^◌, ◌<◌, ◌≤◌}
use mathlib.Core.Path.{◌≡◌, refl, sym, ap, ap₂, ◌∙◌}
use mathlib.Core.Bool.{Bool, true, false, cond}
use mathlib.Core.List.{List, [], ◌∷◌, ◌++◌}
use mathlib.Core.Logic.{⊎_elim}
use native.Mathlib.Nat.{eq-or-lt_of_le, le_of_suc-le-suc, mod-eq_of_lt}
use native.Mathlib.Omega.{arith}
use native.Mathlib.Numerals.{add-one}
use lib.Dec.{ltb}
use lib.ListN.{length, get_or, length-append, get_or-append, get_or-eq_default}
use lib.Seq.{get_or_at, ext_get_or}
use borrow.Author.Tests.{ltb-true, ltb-false}
use Rattle.num.specs.Marks.{bit, mark, word, words}
use Rattle.num.specs.Form.Across.{ahead}
use Rattle.num.proofs.bits.BitLaws.{bit_word, bit-none, word_same, word-bits}

-- ---- marks and bits

pub bit-zero : (j : ℕ) → bit 0 j ≡ false
bit-zero j = bit-none 0 0 j (omega arith) (omega arith)

pub mark-at : (ws : List ℕ) (k j : ℕ) → j < 64 → mark ws (64 * k + j) ≡ bit (get_or ws k 0) j
unfolding mark
mark-at ws k j h =
    let q : (64 * k + j) / 64 ≡ k = omega arith in
    let r : (64 * k + j) % 64 ≡ j = omega arith in
    rw (q, r)

pub mark-past : (ws : List ℕ) (i : ℕ) → 64 * length ws ≤ i → mark ws i ≡ false
unfolding mark
mark-past ws i h = rw (get_or-eq_default ws 0 {n = i / 64} (omega arith)) (bit-zero (i % 64))

pub mark-ahead : (ws : List ℕ) (k i : ℕ) → i < 128 → mark ws (64 * k + i) ≡ ahead (get_or ws k 0) (get_or ws (k + 1) 0) i
unfolding ahead
mark-ahead ws k i h = go (ltb i 64) refl
  where
    go : (b : Bool) → ltb i 64 ≡ b → mark ws (64 * k + i) ≡ cond b (bit (get_or ws k 0) i) (bit (get_or ws (k + 1) 0) (i - 64))
    go true e = mark-at ws k i (omega (arith, ltb-true))
    go false e = let s : 64 * k + i ≡ 64 * (k + 1) + (i - 64) = omega (arith, ltb-false) in rw s (mark-at ws (k + 1) (i - 64) (omega arith))

-- ---- words that are made of marks

pub length-words : (f : ℕ → Bool) (n : ℕ) → length (words f n) ≡ n
unfolding words
length-words f zero = refl
length-words f (suc n) = simp (length-append, length-words f n) (omega arith)

pub words-next : (f : ℕ → Bool) (n : ℕ) → words f (n + 1) ≡ words f n ++ (word (λ j. f (64 * n + j)) 64 ∷ [])
unfolding words
words-next f n = rw add-one

pub get_d_words : (f : ℕ → Bool) (n k : ℕ) → k < n → get_or (words f n) k 0 ≡ word (λ j. f (64 * k + j)) 64
unfolding words
get_d_words f zero k h = absurd (omega arith)
get_d_words f (suc n) k h =
    ⊎_elim
    (λ e. rw e (get_or_at (words f n) (word (λ j. f (64 * n + j)) 64) [] 0 n (length-words f n)))
    (λ l. get_or-append (words f n) (word (λ j. f (64 * n + j)) 64 ∷ []) 0 k (rw length-words l) ∙ get_d_words f n k l)
    (eq-or-lt_of_le (le_of_suc-le-suc h))

pub mark-words : (f : ℕ → Bool) (n i : ℕ) → i < 64 * n → mark (words f n) i ≡ f i
unfolding mark
mark-words f n i h =
    let e : 64 * (i / 64) + i % 64 ≡ i = omega arith in
    rw (get_d_words f n (i / 64) (omega arith), bit_word (λ j. f (64 * (i / 64) + j)) 64 (i % 64) (omega arith)) (ap f e)

-- tests that agree make the same words
pub words_same : (f g : ℕ → Bool) (n : ℕ) → ((i : ℕ) → i < 64 * n → f i ≡ g i) → words f n ≡ words g n
unfolding words
words_same f g zero h = refl
words_same f g (suc n) h =
    ap₂ (λ (l : List ℕ) (w : ℕ). l ++ (w ∷ [])) (words_same f g n (λ i l. h i (omega arith)))
    (word_same (λ j. f (64 * n + j)) (λ j. g (64 * n + j)) 64 (λ j l. h (64 * n + j) (omega arith)))

-- words are those that their marks make
pub words-marks : (ws : List ℕ) (n : ℕ) → length ws ≡ n → ((k : ℕ) → get_or ws k 0 < 2 ^ 64) → words (mark ws) n ≡ ws
words-marks ws n e h =
    ext_get_or 0 (words (mark ws) n) ws (length-words (mark ws) n ∙ sym e)
    (λ k l.
    let m : k < n = rw length-words at l in
    get_d_words (mark ws) n k m ∙ word_same (λ j. mark ws (64 * k + j)) (bit (get_or ws k 0)) 64 (λ j b. mark-at ws k j b) ∙ word-bits (get_or ws k 0) 64 ∙ mod-eq_of_lt (h k))
