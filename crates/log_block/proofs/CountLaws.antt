-- How many blocks a list takes: the records before a block, and those of the last one.
-- Assumes nothing.
use Rattle.std.proofs.Common.{◌≡◌, ℕ, zero, suc, ◌+◌, ◌-◌, ◌*◌, ◌/◌, ◌<◌, ◌≤◌, sym, ⊎_elim, eq-or-lt_of_le, mul-le-mul_left, le-div_iff_mul-le, arith}
use native.Mathlib.Nat.{lt_of_mul-lt-mul_left, lt-mul-div-succ}
use Rattle.log_block.specs.Block.{block_count}

-- so many records a block as there is room for before byte 480
abbrev pub Records : ℕ → Type 0
Records per = (1 ≤ per) × (per ≤ 15)

-- a block before block n has all its records before those of block n
pub full-before : (per k n : ℕ) → k < n → per * k + per ≤ per * n
full-before per k n h = let m : per * suc k ≤ per * n = mul-le-mul_left per h in omega arith

-- a block that is counted has a record
pub count-start : (per n k : ℕ) → 1 ≤ per → k < block_count per n → per * k < n
count-start per n k s h = let e : suc k * per ≤ n + (per - 1) = (le-div_iff_mul-le s).0 h in omega arith

-- and all records are in blocks that are counted
pub count-over : (per n : ℕ) → 1 ≤ per → n ≤ per * block_count per n
count-over per n s = let e = lt-mul-div-succ (n + (per - 1)) s in omega arith

-- m full blocks, and one that has a record
pub count-is : (per m u : ℕ) → 1 ≤ u → u ≤ per → block_count per (per * m + u) ≡ m + 1
count-is per m u s h =
    let n : ℕ = per * m + u in
    let o = count-over per n (omega arith) in
    let low : m < block_count per n = lt_of_mul-lt-mul_left per (omega arith) in
    ⊎_elim
    (λ (e : suc m ≡ block_count per n). omega arith)
    (λ (l : suc m < block_count per n). absurd (let x = count-start per n (suc m) (omega arith) l in omega arith))
    (eq-or-lt_of_le low)
