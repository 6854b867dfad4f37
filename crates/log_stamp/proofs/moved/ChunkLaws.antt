-- Where records of the list that a log of right blocks keeps stand in the log.
-- Assumes nothing.
use Prim.Native.Nat.{ℕ, zero, suc, ◌+◌, ◌-◌, ◌*◌, ◌/◌, ◌%◌, ◌<◌, ◌≤◌, min}
use mathlib.Core.Path.{◌≡◌, refl, sym, ◌∙◌, ap, ap₂}
use mathlib.Core.List.{List, [], ◌++◌}
use mathlib.Core.Logic.{⊎_elim}
use native.Mathlib.Nat.{zero-add, eq-or-lt_of_le, div-lt_iff_lt-mul, lt_of_mul-lt-mul_left, div-add-mod, mod-lt, mul-le-mul_right}
use native.Mathlib.Omega.{arith}
use lib.ListN.{length}
use Rattle.num.specs.Bytes.{part, splice}
use Rattle.num.proofs.PartLaws.{length_part, part-part, part_join}
use Rattle.num.proofs.SpliceLaws.{splice-next}
use Rattle.record.specs.Record.{records_in}
use Rattle.log_block.specs.Block.{used, blocks_in, block_at, first_bad_block, list_of}
use Rattle.log_block.proofs.CountLaws.{Records, count-over, full-before}
use Rattle.log_block.proofs.BlockLaws.{part_of}
use Rattle.log_block.proofs.WriteLaws.{part-within}
use Rattle.log_block.proofs.ListThenLog.{records_at, used-most, used-full, length-list, list-whole, list-blocks, part-list}

module _ (per : ℕ) (form : Records per) (log : List ℕ) (good : first_bad_block per log ≡ blocks_in log) where
  -- as many records as full blocks would have, at most
  records-most : records_in (list_of log) ≤ per * blocks_in log
  records-most = rw (list-blocks per form log good) at (count-over per (records_in (list_of log)) form.0)

  -- fewer than the log has bytes, by far
  pub records-few : 34 * records_in (list_of log) ≤ length log
  records-few =
      let o = records-most in
      let m : per * blocks_in log ≤ 15 * blocks_in log = mul-le-mul_right (blocks_in log) form.1 in
      omega arith

  -- a block that starts before the end of the list is there
  pub block-there : (k : ℕ) → per * k < records_in (list_of log) → k < blocks_in log
  block-there k h = let m = records-most in lt_of_mul-lt-mul_left per (omega arith)

  -- records that lie within the list and within a full block are used
  pub within-used : (k x : ℕ) → k < blocks_in log → x ≤ per → per * k + x ≤ records_in (list_of log) → x ≤ used (block_at log k)
  within-used k x h m l =
      ⊎_elim
      (λ (e : suc k ≡ blocks_in log). let n = length-list per form log good k (omega arith) in omega arith)
      (λ (e : suc k < blocks_in log). let u = used-full per form log good k (omega arith) in omega arith)
      (eq-or-lt_of_le h)

  -- m records of block k, from its record j on
  pub chunk : (k j m : ℕ) → k < blocks_in log → j + m ≤ used (block_at log k)
      → part log (512 * k + 32 * j) (32 * m) ≡ part (list_of log) (32 * (per * k + j)) (32 * m)
  chunk k j m h u =
      let b = block_at log k in
      let most = used-most per form log good k h in
      let e : 32 * (per * k) + 32 * j ≡ 32 * (per * k + j) = omega arith in
      let in-log : part b (32 * j) (32 * m) ≡ part log (512 * k + 32 * j) (32 * m) = part-part log (512 * k) 512 (32 * j) (32 * m) (omega arith) in
      let in_block : part (records_at log k) (32 * j) (32 * m) ≡ part b (0 + 32 * j) (32 * m) = part-part b 0 (32 * used b) (32 * j) (32 * m) (omega arith) in
      let in_list : part (part_of per (list_of log) k) (32 * j) (32 * m) ≡ part (list_of log) (32 * (per * k) + 32 * j) (32 * m) =
      part-part (list_of log) (32 * (per * k)) (32 * per) (32 * j) (32 * m) (omega arith)
      in
      sym in-log ∙ ap (λ (x : ℕ). part b x (32 * m)) (sym (zero-add (32 * j))) ∙ sym in_block
      ∙ ap (λ (l : List ℕ). part l (32 * j) (32 * m)) (sym (part-list per form log good k h)) ∙ in_list ∙ ap (λ (x : ℕ). part (list_of log) x (32 * m)) e

  -- record `first` is record j of block k
  module _ (first n : ℕ) (some : 1 ≤ n) (few : n ≤ per + 1) (wide : 14 ≤ per) (within : first + n ≤ records_in (list_of log)) where
    abbrev pub K : ℕ
    K = first / per

    abbrev pub J : ℕ
    J = first % per

    -- how many of n records block k has
    abbrev pub M : ℕ
    M = min n (per - J)

    pub at_first : per * K + J ≡ first
    at_first = div-add-mod first per

    pub j-less : J < per
    j-less = mod-lt first form.0

    pub first-there : K < blocks_in log
    first-there = let a = at_first in block-there K (omega arith)

    pub first-used : J + M ≤ used (block_at log K)
    first-used = let a = at_first in let l = j-less in within-used K (J + M) first-there (omega arith) (omega arith)

    -- the others stand at the start of the next block, if there are any
    pub rest-used : 1 ≤ n - M → (K + 1 < blocks_in log) × (0 + (n - M) ≤ used (block_at log (K + 1)))
    rest-used h =
        let a = at_first in
        let l = j-less in
        let t = block-there (K + 1) (omega arith) in
        (t, within-used (K + 1) (0 + (n - M)) t (omega arith) (omega arith))

    -- both parts lie within the log
    pub first-within : 512 * K + 32 * J + 32 * M ≤ length log
    first-within = let t = first-there in let u = first-used in let m = used-most per form log good K t in omega arith

    pub rest-within : 512 * (K + 1) + 32 * 0 + 32 * (n - M) ≤ length log
    rest-within = go (n - M) refl
      where
        go : (x : ℕ) → n - M ≡ x → 512 * (K + 1) + 32 * 0 + 32 * x ≤ length log
        go zero e = let t = first-there in omega arith
        go (suc x) e =
            let r = rest-used (omega arith) in
            let m = used-most per form log good (K + 1) r.0 in
            omega arith

    first_part : part log (512 * K + 32 * J) (32 * M) ≡ part (list_of log) (32 * first) (32 * M)
    first_part = chunk K J M first-there first-used ∙ ap (λ (x : ℕ). part (list_of log) (32 * x) (32 * M)) at_first

    rest_part : part log (512 * (K + 1) + 32 * 0) (32 * (n - M)) ≡ part (list_of log) (32 * first + 32 * M) (32 * (n - M))
    rest_part = go (n - M) refl
      where
        go : (x : ℕ) → n - M ≡ x → part log (512 * (K + 1) + 32 * 0) (32 * x) ≡ part (list_of log) (32 * first + 32 * M) (32 * x)
        go zero e = refl
        go (suc x) e =
            let r = rest-used (omega arith) in
            let a = at_first in
            let l = j-less in
            let f : 32 * (per * (K + 1) + 0) ≡ 32 * first + 32 * M = omega arith in
            chunk (K + 1) 0 (suc x) r.0 (let u = r.1 in omega arith) ∙ ap (λ (y : ℕ). part (list_of log) y (32 * suc x)) f

    -- the two copies are n records of the list
    pub gathered : (b : List ℕ) → 32 * n ≤ length b
        → splice (splice b 0 (part log (512 * K + 32 * J) (32 * M))) (32 * M) (part log (512 * (K + 1) + 32 * 0) (32 * (n - M)))
        ≡ splice b 0 (part (list_of log) (32 * first) (32 * n))
    gathered b h =
        let c = part log (512 * K + 32 * J) (32 * M) in
        let d = part log (512 * (K + 1) + 32 * 0) (32 * (n - M)) in
        let l : length c ≡ 32 * M = length_part log (512 * K + 32 * J) (32 * M) first-within in
        let e : 32 * M + 32 * (n - M) ≡ 32 * n = omega arith in
        splice-next b c d (32 * M) l (omega arith)
        ∙ ap (splice b 0) (ap₂ ◌++◌ first_part rest_part ∙ sym (part_join (list_of log) (32 * first) (32 * M) (32 * (n - M))) ∙ ap (λ (x : ℕ). part (list_of log) (32 * first) x) e)

-- a part that ends at the list's end where the list has too few records
pub part-least : (l : List ℕ) (first next n : ℕ) → length l ≡ 32 * n → first ≤ n → part l (32 * first) (32 * min next (n - first)) ≡ part l (32 * first) (32 * next)
part-least l first next n e h =
    let m : 32 * min next (n - first) ≡ min (32 * first + 32 * next) (length l) - 32 * first = omega arith in
    ap (part l (32 * first)) m ∙ part-within l (32 * first) (32 * next)
