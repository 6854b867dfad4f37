-- The list that a log keeps, as it is read block by block into lent bytes.
-- Assumes nothing.
use Rattle.std.proofs.Common.{◌≡◌, ℕ, zero, suc, ◌+◌, ◌-◌, ◌*◌, ◌<◌, ◌≤◌, List, length, drop, sym, add-zero, add-suc, arith, length-append, take-take}
use Rattle.num.specs.Bytes.{part, splice}
use Rattle.num.proofs.SpliceLaws.{splice-next}
use Rattle.log_block.specs.Block.{used, blocks_in, block_at, list_up_to, list_of}
use Rattle.log_block.proofs.BlockLaws.{list-next}
use Rattle.log_block.proofs.ListThenLog.{records_at}

-- the used records of a block are the bytes of the log from the block's start on
pub used-part : (log : List ℕ) (k : ℕ) → used (block_at log k) ≤ 15
    → part log (512 * k) (32 * used (block_at log k)) ≡ records_at log k
used-part log k u = sym (take-take (32 * used (block_at log k)) 512 (drop (512 * k) log) (omega arith))

grows : (log : List ℕ) (k d : ℕ) → length (list_up_to log k) ≤ length (list_up_to log (k + d))
unfolding list_up_to
grows log k zero = rw add-zero (omega arith)
grows log k (suc d) = let h = grows log k d in rw add-suc (simp length-append (omega arith))

-- the records of the first blocks are not more than all of them
pub list-within : (log : List ℕ) (k : ℕ) → k ≤ blocks_in log → length (list_up_to log k) ≤ length (list_of log)
unfolding list_of
list-within log k h =
    let e : k + (blocks_in log - k) ≡ blocks_in log = omega arith in
    rw e at (grows log k (blocks_in log - k))

-- the used records of one block more
pub list-turn : (log l : List ℕ) (n : ℕ) → length (list_of log) ≤ length l → (k : ℕ) → k < blocks_in log → length (list_up_to log k) ≡ n
    → splice (splice l 0 (list_up_to log k)) n (records_at log k) ≡ splice l 0 (list_up_to log (k + 1))
list-turn log l n m k h e =
    let w = list-within log k (omega arith) in
    rw (list-next log k) (splice-next l (list_up_to log k) (records_at log k) n e (omega arith))
