-- The first bad record of the records of one block more.
-- Assumes nothing.
use Prim.Native.Nat.{ℕ, ◌+◌, ◌*◌, ◌/◌, ◌<◌, ◌≤◌}
use mathlib.Core.Path.{◌≡◌, ◌∙◌, ap}
use mathlib.Core.Bool.{true, cond}
use mathlib.Core.List.{List, ◌++◌}
use native.Mathlib.Omega.{arith}
use lib.Dec.{eqb}
use lib.ListN.{length, length-append}
use Rattle.num.specs.Bytes.{part}
use Rattle.num.proofs.PartLaws.{part_left, part_right, length-part-le}
use Rattle.num.proofs.SearchLaws.{first-same, first-le, first-join}
use Rattle.settings.specs.declared.Settings.{Settings}
use Rattle.record.specs.Record.{well_formed, record_at, records_in, first_bad}
use Rattle.log_block.specs.Block.{used, blocks_in, block_at, first_bad_block, list_up_to, list_of}
use Rattle.log_block.proofs.BlockLaws.{list-next, right_at}
use Rattle.log_block.proofs.ListThenLog.{length_before}

-- a list whose first n records are l
bad-append : (s : Settings) (l r : List ℕ) (n : ℕ) → length l ≡ 32 * n
    → first_bad s (l ++ r) ≡ cond (eqb (first_bad s l) n) (n + first_bad s r) (first_bad s l)
unfolding first_bad
bad-append s l r n e =
    let p : records_in (l ++ r) ≡ n + records_in r = simp length-append (omega arith) in
    let q : records_in l ≡ n = omega arith in
    let f = first-same (λ i. well_formed s (record_at (l ++ r) i)) (λ i. well_formed s (record_at l i)) n
    (λ i h. ap (well_formed s) (part_left l r (32 * i) 32 (omega arith)))
    in
    let g = first-same (λ j. well_formed s (record_at (l ++ r) (n + j))) (λ j. well_formed s (record_at r j)) (records_in r)
    (λ j h. let d : 32 * (n + j) ≡ 32 * n + 32 * j = omega arith in ap (λ (i : ℕ). well_formed s (part (l ++ r) i 32)) d ∙ ap (well_formed s) (part_right l r (32 * n) (32 * j) 32 e))
    in
    rw (p, q, first-join (λ i. well_formed s (record_at (l ++ r) i)) n (records_in r), f, g)

-- no more records than bytes allow
pub bad-most : (s : Settings) (b : List ℕ) (n : ℕ) → first_bad s (part b 0 (32 * n)) ≤ n
unfolding first_bad
bad-most s b n =
    let l = length-part-le b 0 (32 * n) in
    let f = first-le (λ i. well_formed s (record_at (part b 0 (32 * n)) i)) (records_in (part b 0 (32 * n))) in
    omega arith

-- the records of block k follow per × k others, where the blocks before it are right
pub bad-next : (s : Settings) (per : ℕ) → per ≤ 15 → (log : List ℕ) (k : ℕ) → ((i : ℕ) → i < k → right_at per log i ≡ true) → k < blocks_in log
    → first_bad s (list_up_to log (k + 1)) ≡ cond (eqb (first_bad s (list_up_to log k)) (per * k)) (per * k + first_bad s (part (block_at log k) 0 (32 * used (block_at log k)))) (first_bad s (list_up_to log k))
bad-next s per few log k right h =
    let l = length_before per few log k right h in
    rw (list-next log k) (bad-append s (list_up_to log k) (part (block_at log k) 0 (32 * used (block_at log k))) (per * k) (omega arith))

-- where no block is bad, the blocks before the first bad one are all
pub bad-of-all : (s : Settings) (per : ℕ) (log : List ℕ) → first_bad_block per log ≡ blocks_in log → first_bad s (list_up_to log (first_bad_block per log)) ≡ first_bad s (list_of log)
unfolding list_of
bad-of-all s per log e = ap (λ (n : ℕ). first_bad s (list_up_to log n)) e
