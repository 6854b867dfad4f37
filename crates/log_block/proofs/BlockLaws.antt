-- Lengths of blocks and logs, sums of words, and one block more.
-- Assumes nothing.
use Rattle.std.proofs.Common.{◌≡◌, ℕ, zero, suc, ◌+◌, ◌-◌, ◌*◌, ◌<◌, ◌≤◌, Bool, eqb, List, ◌++◌, length, refl, ap₂, add-one, arith, length-append}
use Rattle.num.specs.Bytes.{part}
use Rattle.num.proofs.ByteLaws.{length-bytes}
use Rattle.num.proofs.SpliceLaws.{length-zeros}
use Rattle.num.proofs.PartLaws.{length-part-le}
use Rattle.log_block.specs.Block.{word_at, word_sum, block_body, block, log_up_to, list_up_to, block_at, used, block_right, blocks_in}

pub length-body : (stamp : List ℕ) (k : ℕ) (recs : List ℕ) → length recs + length stamp ≤ 480 → length (block_body stamp k recs) ≡ 508
unfolding block_body
length-body stamp k recs h = simp (length-append, length-zeros, length-bytes) (omega arith)

pub length-block : (stamp : List ℕ) (k : ℕ) (recs : List ℕ) → length recs + length stamp ≤ 480 → length (block stamp k recs) ≡ 512
unfolding block
length-block stamp k recs h = simp (length-append, length-body stamp k recs h, length-bytes)

-- the records of block k of a list
abbrev pub part_of : ℕ → List ℕ → ℕ → List ℕ
part_of per l k = part l (32 * (per * k)) (32 * per)

pub part-fits : (per : ℕ) (stamp l : List ℕ) (k : ℕ) → 32 * per + length stamp ≡ 480 → length (part_of per l k) + length stamp ≤ 480
part-fits per stamp l k h = let e = length-part-le l (32 * (per * k)) (32 * per) in omega arith

pub length-log : (per : ℕ) (stamp l : List ℕ) (n : ℕ) → 32 * per + length stamp ≡ 480 → length (log_up_to per stamp l n) ≡ 512 * n
unfolding log_up_to
length-log per stamp l zero h = refl
length-log per stamp l (suc n) h =
    simp (length-append, length-log per stamp l n h, length-block stamp n (part_of per l n) (part-fits per stamp l n h)) (omega arith)

pub sum-next : (b : List ℕ) (n : ℕ) → word_sum b (n + 1) ≡ word_sum b n + word_at b n
unfolding word_sum
sum-next b n = rw add-one

-- blocks whose first n words agree have the same sum of them
pub sum_same : (b d : List ℕ) (n : ℕ) → ((k : ℕ) → k < n → word_at b k ≡ word_at d k) → word_sum b n ≡ word_sum d n
unfolding word_sum
sum_same b d zero h = refl
sum_same b d (suc n) h = ap₂ ◌+◌ (sum_same b d n (λ k l. h k (omega arith))) (h n (omega arith))

pub log-next : (per : ℕ) (stamp l : List ℕ) (n : ℕ) → log_up_to per stamp l (n + 1) ≡ log_up_to per stamp l n ++ block stamp n (part_of per l n)
unfolding log_up_to
log-next per stamp l n = rw add-one

pub list-next : (log : List ℕ) (n : ℕ) → list_up_to log (n + 1) ≡ list_up_to log n ++ part (block_at log n) 0 (32 * used (block_at log n))
unfolding list_up_to
list-next log n = rw add-one

-- whether block k of a log is right there
abbrev pub right_at : ℕ → List ℕ → ℕ → Bool
right_at per log k = block_right per k (eqb (k + 1) (blocks_in log)) (block_at log k)
