-- Marks across two words: the shifts that draw them, the tests of a word, and words that stand later.
-- Assumes nothing.
use Prim.Native.Nat.{ℕ, zero, suc, ◌+◌, ◌-◌, ◌*◌, ◌/◌, ◌%◌, ◌^◌, ◌<◌, ◌≤◌}
use mathlib.Core.Path.{◌≡◌, refl, sym, ap, ap₂, ◌∙◌}
use mathlib.Core.Bool.{Bool, true, false, cond, not, ◌&&◌, ◌||◌, or-false, or-true, or_assoc, or_comm}
use mathlib.Core.List.{List}
use native.Mathlib.Nat.{mod-lt, lt_of_le_of_lt}
use native.Mathlib.Omega.{arith}
use lib.Bits.{bit_and, bit_or, or_lt, and_le_l}
use lib.Dec.{eqb, leb, ltb, lit<, eqb-suc-zero}
use lib.Seq.{ext_get_or, get_or-set_same, get_or-set_other}
use lib.ListN.{get_or, set, length-set}
use lib.Pow.{pow_pos, shr_le}
use borrow.Author.Tests.{eqb-true, eq-eqb, ne_eqb, leb-true, leb-false, le-leb, lt-leb, ltb-true, ltb-false, lt-ltb, le-ltb, not-true}
use Rattle.num.specs.Search.{all_up_to}
use Rattle.num.proofs.SearchLaws.{all-at, all-intro, all_join}
use Rattle.num.specs.Marks.{bit, mark, word, words, later, alone, aged}
use Rattle.num.specs.Form.Across.{ahead, across, lone_at, lone, under_at, under, back}
use Rattle.num.proofs.bits.BitLaws.{same_truth, bit-or, bit-and, bit-shr, bit-shl, bit-shl-none, bit-low, bit-none, bit_word, word-is, word_same, word_below}
use Rattle.num.proofs.bits.MarkLaws.{mark-at, mark-ahead, bit-zero, length-words, get_d_words}

-- ---- the shifts

shift-bit : (low high r j : ℕ) → low < 2 ^ 64 → r < 64 → j < 64
    → bit (bit_or (high * 2 ^ r % 2 ^ 64) (low / 2 ^ 1 / 2 ^ (63 - r))) j ≡ ahead low high (64 - r + j)
unfolding ahead
shift-bit low high r j hl hr hj =
    rw (bit-or (high * 2 ^ r % 2 ^ 64) (low / 2 ^ 1 / 2 ^ (63 - r)) j, bit-low (high * 2 ^ r) 64 j hj, bit-shr (low / 2 ^ 1) (63 - r) j, bit-shr low 1 (63 - r + j))
    (go (ltb (64 - r + j) 64) refl)
  where
    go : (b : Bool) → ltb (64 - r + j) 64 ≡ b → (bit (high * 2 ^ r) j || bit low (1 + (63 - r + j))) ≡ cond b (bit low (64 - r + j)) (bit high (64 - r + j - 64))
    go true e =
        let h : j < r = omega (arith, ltb-true) in
        let i : 1 + (63 - r + j) ≡ 64 - r + j = omega arith in
        rw (bit-shl-none high r j h, i)
    go false e =
        let h : r ≤ j = omega (arith, ltb-false) in
        let n : bit low (1 + (63 - r + j)) ≡ false = bit-none low 64 (1 + (63 - r + j)) hl (omega arith) in
        let i : 64 - r + j - 64 ≡ j - r = omega arith in
        let s : r + (j - r) ≡ j = omega arith in
        rw (n, i, or-false (bit (high * 2 ^ r) j)) (sym (ap (bit (high * 2 ^ r)) s) ∙ bit-shl high r (j - r))

pub shifts-are-across : (low high r : ℕ) → low < 2 ^ 64 → r < 64 → bit_or (high * 2 ^ r % 2 ^ 64) (low / 2 ^ 1 / 2 ^ (63 - r)) ≡ across low high r
unfolding across
shifts-are-across low high r hl hr =
    let a : high * 2 ^ r % 2 ^ 64 < 2 ^ 64 = mod-lt (high * 2 ^ r) (pow_pos 64) in
    let b : low / 2 ^ 1 / 2 ^ (63 - r) < 2 ^ 64 = lt_of_le_of_lt (shr_le (low / 2 ^ 1) (63 - r)) (lt_of_le_of_lt (shr_le low 1) hl) in
    word-is (bit_or (high * 2 ^ r % 2 ^ 64) (low / 2 ^ 1 / 2 ^ (63 - r))) (λ j. ahead low high (64 - r + j)) 64 (or_lt 64 (high * 2 ^ r % 2 ^ 64) (low / 2 ^ 1 / 2 ^ (63 - r)) a b)
    (λ j h. shift-bit low high r j hl hr h)

-- ---- tests of a word

all_same : (f g : ℕ → Bool) (n : ℕ) → ((j : ℕ) → j < n → f j ≡ g j) → all_up_to f n ≡ all_up_to g n
unfolding all_up_to
all_same f g zero h = refl
all_same f g (suc n) h = ap₂ ◌&&◌ (all_same f g n (λ j l. h j (omega arith))) (h n (omega arith))

word_none : (n : ℕ) → word (λ j. false) n ≡ 0
unfolding word
word_none zero = refl
word_none (suc n) = rw (word_none n)

-- a number is 0 where it has no bit
zero_bits : (w n : ℕ) → w < 2 ^ n → eqb w 0 ≡ all_up_to (λ j. not (bit w j)) n
zero_bits w n h =
    same_truth (eqb w 0) (all_up_to (λ j. not (bit w j)) n)
    (λ e. all-intro (λ j. not (bit w j)) n (λ j l. rw (eqb-true w 0 e, bit-zero j)))
    (λ e. eq-eqb w 0 (word-is w (λ j. false) n h (λ j l. not-true (bit w j) (all-at (λ j. not (bit w j)) n j e l)) ∙ word_none n))

across-bit : (low high r j : ℕ) → j < 64 → bit (across low high r) j ≡ ahead low high (64 - r + j)
unfolding across
across-bit low high r j h = bit_word (λ j. ahead low high (64 - r + j)) 64 j h

pub and-is-lone : (low high : ℕ) → low < 2 ^ 64
    → eqb (bit_and low (bit_or (bit_or (across low high 63) (across low high 62)) (across low high 61))) 0 ≡ lone low high
unfolding lone lone_at
and-is-lone low high hl =
    let s : bit_and low near < 2 ^ 64 = lt_of_le_of_lt (and_le_l low near) hl in
    zero_bits (bit_and low near) 64 s
    ∙ all_same (λ j. not (bit (bit_and low near) j)) (lone_at low high) 64 at
  where
    near : ℕ
    near = bit_or (bit_or (across low high 63) (across low high 62)) (across low high 61)

    at : (j : ℕ) → j < 64 → not (bit (bit_and low near) j) ≡ lone_at low high j
    at j h =
        let a : ahead low high (1 + j) ≡ ahead low high (j + 1) = ap (ahead low high) (omega arith) in
        let b : ahead low high (2 + j) ≡ ahead low high (j + 2) = ap (ahead low high) (omega arith) in
        let c : ahead low high (3 + j) ≡ ahead low high (j + 3) = ap (ahead low high) (omega arith) in
        rw (bit-and low near j, bit-or (bit_or (across low high 63) (across low high 62)) (across low high 61) j, bit-or (across low high 63) (across low high 62) j, across-bit low high 63 j h, across-bit low high 62 j h, across-bit low high 61 j h, a, b, c, or_assoc (ahead low high (j + 1)) (ahead low high (j + 2)) (ahead low high (j + 3)))

-- no bit from n on, either way
under_low : (w n : ℕ) → eqb (w / 2 ^ n) 0 ≡ true → (j : ℕ) → under_at w n j ≡ true
unfolding under_at
under_low w n e j = go (ltb j n) refl
  where
    go : (b : Bool) → ltb j n ≡ b → (not (bit w j) || b) ≡ true
    go true l = or-true (not (bit w j))
    go false l =
        let m : n ≤ j = ltb-false j n l in
        let i : n + (j - n) ≡ j = omega arith in
        let z : bit w j ≡ false = sym (ap (bit w) i) ∙ sym (bit-shr w n (j - n)) ∙ ap (λ (x : ℕ). bit x (j - n)) (eqb-true (w / 2 ^ n) 0 e) ∙ bit-zero (j - n) in
        rw z

under-high : (w n j : ℕ) → w < 2 ^ 64 → all_up_to (under_at w n) 64 ≡ true → bit (w / 2 ^ n) j ≡ false
unfolding under_at
under-high w n j h e = bit-shr w n j ∙ go (ltb (n + j) 64) refl
  where
    go : (b : Bool) → ltb (n + j) 64 ≡ b → bit w (n + j) ≡ false
    go true l =
        let t = all-at (under_at w n) 64 (n + j) e (ltb-true (n + j) 64 l) in
        let f : ltb (n + j) n ≡ false = le-ltb (n + j) n (omega arith) in
        not-true (bit w (n + j)) (rw (f, or-false) at t)
    go false l = bit-none w 64 (n + j) h (ltb-false (n + j) 64 l)

pub shift-is-under : (w n : ℕ) → w < 2 ^ 64 → eqb (w / 2 ^ n) 0 ≡ under w n
unfolding under
shift-is-under w n h =
    same_truth (eqb (w / 2 ^ n) 0) (all_up_to (under_at w n) 64)
    (λ e. all-intro (under_at w n) 64 (λ j l. under_low w n e j))
    (λ e. eq-eqb (w / 2 ^ n) 0 (word-is (w / 2 ^ n) (λ j. false) 64 (lt_of_le_of_lt (shr_le w n) h) (λ j l. under-high w n j h e) ∙ word_none 64))

pub all_under : (w n : ℕ) → 64 ≤ n → under w n ≡ true
unfolding under under_at
all_under w n h = all-intro (under_at w n) 64 (λ j l. rw (lt-ltb j n (omega arith)) (or-true (not (bit w j))))

-- ---- words that stand later

later-shift : (f : ℕ → Bool) (d e i : ℕ) → later f (d + e) (i + e) ≡ later f d i
later-shift f d e i = go (leb d i) refl
  where
    go : (b : Bool) → leb d i ≡ b → later f (d + e) (i + e) ≡ (b && f (i - d))
    go true l =
        let m : d ≤ i = leb-true d i l in
        let s : i + e - (d + e) ≡ i - d = omega arith in
        rw (le-leb (d + e) (i + e) (omega arith), s)
    go false l = let m : i < d = leb-false d i l in rw (lt-leb (d + e) (i + e) (omega arith))

back-bit : (ws : List ℕ) (q k j : ℕ) → j < 64 → bit (back ws q k) j ≡ later (mark ws) (64 * q) (64 * k + j)
unfolding back
back-bit ws q k j h = go (ltb k q) refl
  where
    go : (b : Bool) → ltb k q ≡ b → bit (cond b 0 (get_or ws (k - q) 0)) j ≡ later (mark ws) (64 * q) (64 * k + j)
    go true l = let m : k < q = ltb-true k q l in rw (lt-leb (64 * q) (64 * k + j) (omega arith)) (bit-zero j)
    go false l =
        let m : q ≤ k = ltb-false k q l in
        let s : 64 * k + j - 64 * q ≡ 64 * (k - q) + j = omega arith in
        rw (le-leb (64 * q) (64 * k + j) (omega arith), s) (sym (mark-at ws (k - q) j h))

-- the word that is drawn across two words of those that stand later: its marks are r more later
pub across-back : (ws : List ℕ) (q r k : ℕ) → r < 64 → across (back ws (q + 1) k) (back ws q k) r ≡ word (λ j. later (mark ws) (64 * q + r) (64 * k + j)) 64
unfolding across ahead
across-back ws q r k hr = word_same (λ j. ahead (back ws (q + 1) k) (back ws q k) (64 - r + j)) (λ j. later (mark ws) (64 * q + r) (64 * k + j)) 64 at
  where
    go : (j : ℕ) → j < 64 → (b : Bool) → ltb (64 - r + j) 64 ≡ b
        → cond b (bit (back ws (q + 1) k) (64 - r + j)) (bit (back ws q k) (64 - r + j - 64)) ≡ later (mark ws) (64 * q + r) (64 * k + j)
    go j h true l =
        let m = ltb-true (64 - r + j) 64 l in
        let d : 64 * (q + 1) ≡ 64 * q + r + (64 - r) = omega arith in
        let i : 64 * k + (64 - r + j) ≡ 64 * k + j + (64 - r) = omega arith in
        back-bit ws (q + 1) k (64 - r + j) m ∙ rw (d, i) (later-shift (mark ws) (64 * q + r) (64 - r) (64 * k + j))
    go j h false l =
        let m = ltb-false (64 - r + j) 64 l in
        let e : 64 - r + j - 64 ≡ j - r = omega arith in
        let i : 64 * k + j ≡ 64 * k + (j - r) + r = omega arith in
        rw e (back-bit ws q k (j - r) (omega arith) ∙ rw i (sym (later-shift (mark ws) (64 * q) r (64 * k + (j - r)))))

    at : (j : ℕ) → j < 64 → ahead (back ws (q + 1) k) (back ws q k) (64 - r + j) ≡ later (mark ws) (64 * q + r) (64 * k + j)
    at j h = go j h (ltb (64 - r + j) 64) refl

pub back-next : (ws : List ℕ) (q k : ℕ) → back ws (q + 1) (k + 1) ≡ back ws q k
unfolding back
back-next ws q k =
    let t : ltb (k + 1) (q + 1) ≡ ltb k q = same_truth (ltb (k + 1) (q + 1)) (ltb k q) (λ e. lt-ltb k q (omega (arith, ltb-true))) (λ e. lt-ltb (k + 1) (q + 1) (omega (arith, ltb-true))) in
    let s : k + 1 - (q + 1) ≡ k - q = omega arith in
    rw (t, s)

-- ---- a word more

pub lone-next : (ws : List ℕ) (k : ℕ) → all_up_to (alone ws) (64 * (k + 1)) ≡ (all_up_to (alone ws) (64 * k) && lone (get_or ws k 0) (get_or ws (k + 1) 0))
unfolding alone lone lone_at
lone-next ws k =
    let s : 64 * (k + 1) ≡ 64 * k + 64 = omega arith in
    rw (s, all_join (alone ws) (64 * k) 64) (ap (λ (b : Bool). all_up_to (alone ws) (64 * k) && b) (all_same (λ j. alone ws (64 * k + j)) (lone_at (get_or ws k 0) (get_or ws (k + 1) 0)) 64 at))
  where
    near : (j e : ℕ) → j < 64 → e < 4 → mark ws (64 * k + j + e) ≡ ahead (get_or ws k 0) (get_or ws (k + 1) 0) (j + e)
    near j e h l = let s : 64 * k + j + e ≡ 64 * k + (j + e) = omega arith in rw s (mark-ahead ws k (j + e) (omega arith))

    at : (j : ℕ) → j < 64 → alone ws (64 * k + j) ≡ lone_at (get_or ws k 0) (get_or ws (k + 1) 0) j
    at j h = rw (mark-at ws k j h, near j 1 h (omega arith), near j 2 h (omega arith), near j 3 h (omega arith))

pub under_next : (ws : List ℕ) (n k : ℕ) → all_up_to (aged ws n) (64 * (k + 1)) ≡ (all_up_to (aged ws n) (64 * k) && under (get_or ws k 0) (n - 64 * k))
unfolding aged under under_at
under_next ws n k =
    let s : 64 * (k + 1) ≡ 64 * k + 64 = omega arith in
    rw (s, all_join (aged ws n) (64 * k) 64) (ap (λ (b : Bool). all_up_to (aged ws n) (64 * k) && b) (all_same (λ j. aged ws n (64 * k + j)) (under_at (get_or ws k 0) (n - 64 * k)) 64 at))
  where
    less : (j : ℕ) → ltb (64 * k + j) n ≡ ltb j (n - 64 * k)
    less j = same_truth (ltb (64 * k + j) n) (ltb j (n - 64 * k)) (λ e. lt-ltb j (n - 64 * k) (omega (arith, ltb-true))) (λ e. lt-ltb (64 * k + j) n (omega (arith, ltb-true)))

    at : (j : ℕ) → j < 64 → aged ws n (64 * k + j) ≡ under_at (get_or ws k 0) (n - 64 * k) j
    at j h = rw (mark-at ws k j h, less j)

-- a new mark at 0
bit-one : (j : ℕ) → bit 1 j ≡ eqb j 0
unfolding bit
bit-one zero = refl
bit-one (suc j) = bit-none 1 1 (suc j) (lit< tt) (omega arith) ∙ sym (eqb-suc-zero j)

pub mark-first : (f : ℕ → Bool) → set (words f 16) 0 (bit_or (get_or (words f 16) 0 0) 1) ≡ words (λ i. eqb i 0 || f i) 16
mark-first f =
    ext_get_or 0 (set (words f 16) 0 (bit_or (get_or (words f 16) 0 0) 1)) (words g 16)
    (length-set (words f 16) 0 (bit_or (get_or (words f 16) 0 0) 1) ∙ length-words f 16 ∙ sym (length-words g 16))
    (λ k l. at k (rw (length-set, length-words) at l))
  where
    g : ℕ → Bool
    g i = eqb i 0 || f i

    first : bit_or (word (λ j. f (64 * 0 + j)) 64) 1 ≡ word (λ j. g (64 * 0 + j)) 64
    first =
        let w : ℕ = word (λ j. f (64 * 0 + j)) 64 in
        word-is (bit_or w 1) (λ j. g (64 * 0 + j)) 64 (or_lt 64 w 1 (word_below (λ j. f (64 * 0 + j)) 64) (lit< tt))
        (λ j h.
        let e : 64 * 0 + j ≡ j = omega arith in
        bit-or w 1 j ∙ rw (bit_word (λ j. f (64 * 0 + j)) 64 j h, bit-one j, e) (or_comm (f j) (eqb j 0)))

    at : (k : ℕ) → k < 16 → get_or (set (words f 16) 0 (bit_or (get_or (words f 16) 0 0) 1)) k 0 ≡ get_or (words g 16) k 0
    at zero h =
        get_or-set_same (words f 16) 0 (bit_or (get_or (words f 16) 0 0) 1) 0 (rw length-words (omega arith))
        ∙ rw (get_d_words f 16 0 h, get_d_words g 16 0 h) first
    at (suc k) h =
        get_or-set_other (words f 16) 0 (suc k) (bit_or (get_or (words f 16) 0 0) 1) 0 (λ e. omega arith)
        ∙ rw (get_d_words f 16 (suc k) h, get_d_words g 16 (suc k) h)
        (word_same (λ j. f (64 * suc k + j)) (λ j. g (64 * suc k + j)) 64 (λ j l. let n : eqb (64 * suc k + j) 0 ≡ false = ne_eqb (64 * suc k + j) 0 (λ e. omega arith) in rw n))
