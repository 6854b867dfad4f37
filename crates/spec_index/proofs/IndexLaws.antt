-- An index that passes is the index of its log, and no other does; adding blocks adds their words and leaves the rest.
-- Assumes nothing.
use Prim.Native.Nat.{ℕ, zero, suc, ◌+◌, ◌*◌, ◌/◌, ◌%◌, ◌^◌, ◌<◌, ◌≤◌, max}
use mathlib.Core.Path.{◌≡◌, refl, sym, ap, ap₂, ◌∙◌}
use mathlib.Core.Bool.{Bool, true, false, ◌&&◌, and-false, and-eq-true_iff}
use mathlib.Core.List.{List, [], ◌++◌}
use mathlib.Core.Logic.{⊎_elim}
use native.Mathlib.Nat.{zero-add, eq-or-lt_of_le, le_of_suc-le-suc, le-max_left, le-max_right, max-le}
use native.Mathlib.Numerals.{add-one}
use native.Mathlib.Omega.{arith}
use borrow.Author.Tests.{eqb-true, eq-eqb, ltb-true, ltb-false, lt-ltb}
use lib.Dec.{eqb, ltb}
use lib.ListN.{length, length-append}
use lib.Seq.{take_all}
use Rattle.num.specs.Bytes.{bytes, number, part, Bytes}
use Rattle.num.specs.Search.{first_false}
use Rattle.num.proofs.ByteLaws.{length-bytes, number-bytes}
use Rattle.num.proofs.PartLaws.{part-all, part_join, part_left, part-seam, bytes-part}
use Rattle.num.proofs.SearchLaws.{first-before, first-none}
use Rattle.settings.specs.declared.Settings.{Settings}
use Rattle.log_block.specs.Block.{word_at, blocks_in, block_at}
use Rattle.num.proofs.bits.BitLaws.{word_below}
use Rattle.spec_index.specs.Touched.{touches, touched_word}
use Rattle.spec_index.specs.Index.{words_up_to, index_of, index_words, word_right, first_wrong, words_of}

-- ---- the words of an index

pub word_fits : (s : Settings) (block : List ℕ) → touched_word s block < 2 ^ 32
unfolding touched_word
word_fits s block = word_below (touches s block) 32

pub words-next : (word : List ℕ → ℕ) (log : List ℕ) (n : ℕ) → words_up_to word log (n + 1) ≡ words_up_to word log n ++ bytes 4 (word (block_at log n))
unfolding words_up_to
words-next word log n = rw add-one

pub length-words : (word : List ℕ → ℕ) (log : List ℕ) (n : ℕ) → length (words_up_to word log n) ≡ 4 * n
unfolding words_up_to
length-words word log zero = refl
length-words word log (suc n) = simp (length-append, length-words word log n, length-bytes) (omega arith)

-- words that agree at each block are the same index
pub words-by : (word other : List ℕ → ℕ) (log : List ℕ) (n : ℕ) → ((k : ℕ) → k < n → word (block_at log k) ≡ other (block_at log k)) → words_up_to word log n ≡ words_up_to other log n
unfolding words_up_to
words-by word other log zero h = refl
words-by word other log (suc n) h =
    ap₂ (λ (l : List ℕ) (x : ℕ). l ++ bytes 4 x) (words-by word other log n (λ k l. h k (omega arith))) (h n (omega arith))

pub right_by : (word other : List ℕ → ℕ) (log index : List ℕ) (k : ℕ) → (k < blocks_in log → word (block_at log k) ≡ other (block_at log k))
    → word_right word log index k ≡ word_right other log index k
unfolding word_right
right_by word other log index k h = go (ltb k (blocks_in log)) refl
  where
    go : (b : Bool) → ltb k (blocks_in log) ≡ b
        → ((ltb k (index_words index) && b) && eqb (word_at index k) (word (block_at log k))) ≡ ((ltb k (index_words index) && b) && eqb (word_at index k) (other (block_at log k)))
    go true e = rw (h (ltb-true k (blocks_in log) e))
    go false e = rw (and-false (ltb k (index_words index)))

-- a word that is put after n others
pub word-last : (l : List ℕ) (n x : ℕ) → length l ≡ 4 * n → x < 2 ^ 32 → word_at (l ++ bytes 4 x) n ≡ x
word-last l n x e h =
    ap number (part-seam l (bytes 4 x) (4 * n) 4 e ∙ take_all 4 (bytes 4 x) (rw length-bytes (omega arith)))
    ∙ number-bytes 4 x (omega arith)

pub word-before : (l r : List ℕ) (n k : ℕ) → length l ≡ 4 * n → k < n → word_at (l ++ r) k ≡ word_at l k
word-before l r n k e h = ap number (part_left l r (4 * k) 4 (omega arith))

pub index_word : (s : Settings) (log : List ℕ) (n k : ℕ) → k < n → word_at (words_up_to (touched_word s) log n) k ≡ touched_word s (block_at log k)
unfolding words_up_to
index_word s log zero k h = absurd (omega arith)
index_word s log (suc n) k h =
    let l : List ℕ = words_up_to (touched_word s) log n in
    let w : ℕ = touched_word s (block_at log n) in
    ⊎_elim
    (λ e. rw e (word-last l n w (length-words (touched_word s) log n) (word_fits s (block_at log n))))
    (λ m. word-before l (bytes 4 w) n k (length-words (touched_word s) log n) m ∙ index_word s log n k m)
    (eq-or-lt_of_le (le_of_suc-le-suc h))

-- ---- an index beside its log

-- what a right word says
record Right (s : Settings) (log index : List ℕ) (k : ℕ) : Type 0 where
  there : k < index_words index
  block : k < blocks_in log
  same : word_at index k ≡ touched_word s (block_at log k)

right-says : (s : Settings) (log index : List ℕ) (k : ℕ) → word_right (touched_word s) log index k ≡ true → Right s log index k
unfolding word_right
right-says s log index k e =
    let a = (and-eq-true_iff (ltb k (index_words index) && ltb k (blocks_in log)) (eqb (word_at index k) (touched_word s (block_at log k)))).0 e in
    let b = (and-eq-true_iff (ltb k (index_words index)) (ltb k (blocks_in log))).0 a.0 in
    record { there = ltb-true _ _ b.0; block = ltb-true _ _ b.1; same = eqb-true _ _ a.1 }

says-right : (s : Settings) (log index : List ℕ) (k : ℕ) → Right s log index k → word_right (touched_word s) log index k ≡ true
unfolding word_right
says-right s log index k r = rw (lt-ltb k (index_words index) r.there, lt-ltb k (blocks_in log) r.block, eq-eqb _ _ r.same)

-- words that are right are the words of the first blocks
words_are : (s : Settings) (log index : List ℕ) → Bytes index → (n : ℕ) → ((k : ℕ) → k < n → Right s log index k) → part index 0 (4 * n) ≡ words_up_to (touched_word s) log n
unfolding words_up_to
words_are s log index w zero right = refl
words_are s log index w (suc n) right =
    let r = right n (omega arith) in
    let e : 4 * suc n ≡ 4 * n + 4 = omega arith in
    let t = r.there in
    ap (part index 0) e ∙ part_join index 0 (4 * n) 4 ∙ ap (λ (i : ℕ). part index 0 (4 * n) ++ part index i 4) (zero-add (4 * n))
    ∙ ap₂ ◌++◌ (words_are s log index w n (λ k h. right k (omega arith))) (sym (bytes-part index (4 * n) 4 w (omega arith)) ∙ ap (bytes 4) r.same)

-- the words that a call keeps
pub kept-are : (s : Settings) (log index : List ℕ) (n : ℕ) → Bytes index → first_wrong s log index n ≡ n → part index 0 (4 * n) ≡ words_up_to (touched_word s) log n
unfolding first_wrong
kept-are s log index n w e = words_are s log index w n (λ k h. right-says s log index k (first-before (word_right (touched_word s) log index) n k (omega arith)))

-- and they are no more than the blocks
pub kept-most : (s : Settings) (log index : List ℕ) (n : ℕ) → first_wrong s log index n ≡ n → n ≤ blocks_in log
unfolding first_wrong
kept-most s log index zero e = omega arith
kept-most s log index (suc n) e =
    let r = right-says s log index n (first-before (word_right (touched_word s) log index) (suc n) n (omega arith)) in
    let b = r.block in
    omega arith

all_right : (s : Settings) (log index : List ℕ) → first_wrong s log index (words_of log index) ≡ words_of log index
    → (k : ℕ) → k < words_of log index → Right s log index k
unfolding first_wrong
all_right s log index e k h = right-says s log index k (first-before (word_right (touched_word s) log index) (words_of log index) k (omega arith))

-- an index that passes has a word for each block
pub as_many : (s : Settings) (log index : List ℕ) → first_wrong s log index (words_of log index) ≡ words_of log index → index_words index ≡ blocks_in log
as_many s log index e = go (ltb (index_words index) (blocks_in log)) refl (ltb (blocks_in log) (index_words index)) refl
  where
    right : (k : ℕ) → k < words_of log index → Right s log index k
    right k h = all_right s log index e k h

    go : (a : Bool) → ltb (index_words index) (blocks_in log) ≡ a → (b : Bool) → ltb (blocks_in log) (index_words index) ≡ b → index_words index ≡ blocks_in log
    go true p b q =
        let h = ltb-true (index_words index) (blocks_in log) p in
        let m = le-max_right (index_words index) (blocks_in log) in
        let t = (right (index_words index) (omega arith)).there in
        absurd (omega arith)
    go false p true q =
        let h = ltb-true (blocks_in log) (index_words index) q in
        let m = le-max_left (index_words index) (blocks_in log) in
        let t = (right (blocks_in log) (omega arith)).block in
        absurd (omega arith)
    go false p false q = omega (arith, ltb-false)

-- "An index that differs from its log is refused": one that passes is the index of its log
pub passes-is : (s : Settings) (log index : List ℕ) → Bytes index → length index % 4 ≡ 0
    → first_wrong s log index (words_of log index) ≡ words_of log index → index ≡ index_of s log
unfolding index_of
passes-is s log index w h e =
    let m = as_many s log index e in
    let a = le-max_right (index_words index) (blocks_in log) in
    let l : length index ≤ 4 * blocks_in log = omega arith in
    sym (part-all index (4 * blocks_in log) l)
    ∙ words_are s log index w (blocks_in log) (λ k b. all_right s log index e k (omega arith))

-- and the index of a log passes
pub index-passes : (s : Settings) (log : List ℕ) → first_wrong s log (index_of s log) (words_of log (index_of s log)) ≡ words_of log (index_of s log)
unfolding first_wrong index_of
index-passes s log =
    let l = length-words (touched_word s) log (blocks_in log) in
    let n : index_words (index_of s log) ≡ blocks_in log = omega arith in
    let m : words_of log (index_of s log) ≤ blocks_in log = max-le (omega arith) (omega arith) in
    first-none (word_right (touched_word s) log (index_of s log)) (words_of log (index_of s log))
    (λ k h. says-right s log (index_of s log) k (record { there = omega arith; block = omega arith; same = index_word s log (blocks_in log) k (omega arith) }))
