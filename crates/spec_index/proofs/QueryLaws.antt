-- A query of the index of a log is a scan of the log, and the ones of a block's word are the banks that it names.
-- Assumes nothing.
use Prim.Native.Nat.{ℕ, zero, suc, ◌+◌, ◌*◌, ◌/◌, ◌%◌, ◌^◌, ◌<◌, ◌≤◌}
use mathlib.Core.Path.{◌≡◌, refl, ap, ap₂, ◌∙◌}
use mathlib.Core.Bool.{Bool}
use mathlib.Core.List.{List, ◌++◌}
use native.Mathlib.Omega.{arith}
use lib.ListN.{length, length-append}
use lib.Seq.{take_all}
use Rattle.num.specs.Bytes.{bytes, Bytes}
use Rattle.num.proofs.PartLaws.{part_left, part-seam}
use Rattle.settings.specs.declared.Settings.{Settings}
use Rattle.log_block.specs.Block.{word_at, blocks_in, block_at, first_bad_block}
use Rattle.log_block.proofs.CountLaws.{Records}
use Rattle.log_block.proofs.ListThenLog.{blocks-most}
use Rattle.num.specs.Marks.{bit, count_up_to}
use Rattle.num.proofs.bits.BitLaws.{bit_word}
use Rattle.num.proofs.bits.CountLaws.{count_same}
use Rattle.spec_index.specs.Touched.{touches, touched_word}
use Rattle.spec_index.specs.Index.{words_up_to, index_of, index_words}
use Rattle.spec_index.specs.Query.{numbers_where, has_bit, queried, scanned, Lists}
use Rattle.spec_index.proofs.IndexLaws.{length-words, index_word, words-next}
use Rattle.spec_index.proofs.ListLaws.{listed_same, lists}

-- bit b of a block's word is 1 where the block names bank b
pub word-bit : (s : Settings) (block : List ℕ) (b : ℕ) → b < 32 → bit (touched_word s block) b ≡ touches s block b
unfolding touched_word
word-bit s block b h = bit_word (touches s block) 32 b h

pub index-bit : (s : Settings) (log : List ℕ) (b k : ℕ) → b < 32 → k < blocks_in log → has_bit (index_of s log) b k ≡ touches s (block_at log k) b
unfolding has_bit index_of
index-bit s log b k h l = ap (λ (w : ℕ). bit w b) (index_word s log (blocks_in log) k l) ∙ word-bit s (block_at log k) b h

-- "must equal a scan of the log"
pub query-is-scan : (s : Settings) (log : List ℕ) (b : ℕ) → b < 32 → queried (index_of s log) b ≡ scanned s log b
unfolding queried scanned index_of
query-is-scan s log b h =
    let l = length-words (touched_word s) log (blocks_in log) in
    let n : index_words (index_of s log) ≡ blocks_in log = omega arith in
    ap (numbers_where (has_bit (index_of s log) b)) n
    ∙ listed_same (has_bit (index_of s log) b) (λ k. touches s (block_at log k) b) (blocks_in log) (λ k m. index-bit s log b k h m)

-- what the scan lists, of a log whose blocks are right: the blocks with a packet that names the bank, and no others
pub scan-lists : (s : Settings) (per : ℕ) → Records per → (log : List ℕ) (b : ℕ) → Bytes log → first_bad_block per log ≡ blocks_in log
    → Lists (λ k. touches s (block_at log k) b) (blocks_in log) (scanned s log b)
unfolding scanned
scan-lists s per form log b w e = lists (λ k. touches s (block_at log k) b) (blocks_in log) (blocks-most per form log e w)

-- "The number of banks in a block is the ones of its word."
pub banks-are : (s : Settings) (block : List ℕ) → count_up_to (bit (touched_word s block)) 32 ≡ count_up_to (touches s block) 32
banks-are s block = count_same (bit (touched_word s block)) (touches s block) 32 (λ b h. word-bit s block b h)

-- ---- blocks that are added

-- logs with the same first blocks have the same first words: filling up a short last block changes its word alone
pub words_same : (s : Settings) (a b : List ℕ) (n : ℕ) → ((k : ℕ) → k < n → block_at a k ≡ block_at b k) → words_up_to (touched_word s) a n ≡ words_up_to (touched_word s) b n
unfolding words_up_to
words_same s a b zero h = refl
words_same s a b (suc n) h =
    ap₂ (λ (l block : List ℕ). l ++ bytes 4 (touched_word s block)) (words_same s a b n (λ k l. h k (omega arith))) (h n (omega arith))

-- "Adding a block adds one word and leaves the rest unchanged."
pub block-added : (s : Settings) (log block : List ℕ) → length log % 512 ≡ 0 → length block ≡ 512
    → index_of s (log ++ block) ≡ index_of s log ++ bytes 4 (touched_word s block)
unfolding index_of
block-added s log block h l =
    let n : blocks_in (log ++ block) ≡ blocks_in log + 1 = simp length-append (omega arith) in
    let e : length log ≡ 512 * blocks_in log = omega arith in
    let b : block_at (log ++ block) (blocks_in log) ≡ block = part-seam log block (512 * blocks_in log) 512 e ∙ take_all 512 block (omega arith) in
    rw (n, words-next (touched_word s) (log ++ block) (blocks_in log), b)
    (ap (λ (x : List ℕ). x ++ bytes 4 (touched_word s block))
    (words_same s (log ++ block) log (blocks_in log) (λ k m. part_left log block (512 * k) 512 (omega arith))))
