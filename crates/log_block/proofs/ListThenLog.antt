-- A log whose blocks are all right, in either form: how many records each block has, the length of the list that the log keeps, and
-- that this list encodes back to the same log where all blocks have one stamp.
-- Assumes nothing.
use Rattle.std.proofs.Common.{◌≡◌, ℕ, zero, suc, ◌+◌, ◌*◌, ◌/◌, ◌%◌, ◌^◌, ◌<◌, ◌≤◌, true, eqb, ◌⊎◌, List, [], ◌++◌, length, take, sym, refl, ap, ◌∙◌, ap₂, ⊎_elim, le_of_suc-le-suc, eq-or-lt_of_le, arith, length-append, take_all, take-add, ne_eqb}
use native.Mathlib.Nat.{div-eq_of_lt}
use Rattle.num.specs.Bytes.{part, Bytes}
use Rattle.num.proofs.SearchLaws.{first-before}
use Rattle.num.proofs.PartLaws.{length_part, part-all, part_left, part-seam, Bytes-part, Bytes-append, Bytes-zeros, number_fits}
use Rattle.log_block.specs.Block.{block, block_count, log_up_to, log_of, block_at, stamp_of, used, blocks_in, first_bad_block, list_up_to, list_of}
use Rattle.log_block.proofs.CountLaws.{Records, full-before, count-is}
use Rattle.log_block.proofs.BlockLaws.{part_of, list-next, right_at}
use Rattle.log_block.proofs.OneBlock.{Right, right_of, block_back}

-- the used records of block k of a log
abbrev pub records_at : List ℕ → ℕ → List ℕ
records_at log k = part (block_at log k) 0 (32 * used (block_at log k))

Bytes-up_to : (log : List ℕ) → Bytes log → (n : ℕ) → Bytes (list_up_to log n)
unfolding list_up_to
Bytes-up_to log h zero = Bytes-zeros 0
Bytes-up_to log h (suc n) =
    Bytes-append (list_up_to log n) (records_at log n) (Bytes-up_to log h n)
    (Bytes-part (block_at log n) 0 (32 * used (block_at log n)) (Bytes-part log (512 * n) 512 h))

pub Bytes-list : (log : List ℕ) → Bytes log → Bytes (list_of log)
unfolding list_of
Bytes-list log h = Bytes-up_to log h (blocks_in log)

-- an empty log keeps an empty list
pub list-none : (log : List ℕ) → blocks_in log ≡ 0 → list_of log ≡ []
unfolding list_of list_up_to
list-none log e = rw e

-- blocks before the last are full: of right blocks before block n
pub length_before : (per : ℕ) → per ≤ 15 → (log : List ℕ) (n : ℕ) → ((k : ℕ) → k < n → right_at per log k ≡ true) → n < blocks_in log
    → length (list_up_to log n) ≡ 32 * (per * n)
unfolding list_up_to
length_before per few log zero right h = omega arith
length_before per few log (suc n) right h =
    let b : List ℕ = block_at log n in
    let i = length_before per few log n (λ k l. right k (omega arith)) (omega arith) in
    let u : used b ≡ per = (right_of per n (eqb (n + 1) (blocks_in log)) b (right n (omega arith))).used-full (ne_eqb (n + 1) (blocks_in log) (λ e. omega arith)) in
    let size : length b ≡ 512 = length_part log (512 * n) 512 (omega arith) in
    let r = length_part b 0 (32 * used b) (omega arith) in
    simp (length-append, i, r) (omega arith)

-- a form of which a log has a right block has a record
pub some-records : (per : ℕ) → per ≤ 15 → (log : List ℕ) → first_bad_block per log ≡ blocks_in log → (k : ℕ) → k < blocks_in log → Records per
unfolding first_bad_block
some-records per few log good k h =
    let r = right_of per k (eqb (k + 1) (blocks_in log)) (block_at log k) (first-before (right_at per log) (blocks_in log) k (omega arith)) in
    let u = r.used-some in
    let m = r.used-most in
    (omega arith, few)

module _ (per : ℕ) (form : Records per) (log : List ℕ) (good : first_bad_block per log ≡ blocks_in log) where
  -- ---- each block

  pub right-at : (k : ℕ) → k < blocks_in log → Right per k (eqb (k + 1) (blocks_in log)) (block_at log k)
  unfolding first_bad_block
  right-at k h =
      right_of per k (eqb (k + 1) (blocks_in log)) (block_at log k) (first-before (right_at per log) (blocks_in log) k (omega arith))

  length-block_at : (k : ℕ) → k < blocks_in log → length (block_at log k) ≡ 512
  length-block_at k h = length_part log (512 * k) 512 (omega arith)

  -- "records used 4 (1 to 15)", "(used 1 to 14)"
  pub used-some : (k : ℕ) → k < blocks_in log → 1 ≤ used (block_at log k)
  used-some k h = (right-at k h).used-some

  pub used-most : (k : ℕ) → k < blocks_in log → used (block_at log k) ≤ per
  used-most k h = (right-at k h).used-most

  -- no block uses more than 15, whatever the form
  pub used-few : (k : ℕ) → k < blocks_in log → used (block_at log k) ≤ 15
  used-few k h = let m = used-most k h in omega arith

  -- "Only the last block may be short."
  pub used-full : (k : ℕ) → k + 1 < blocks_in log → used (block_at log k) ≡ per
  used-full k h =
      let n : k + 1 ≡ blocks_in log → ⊥ = λ e. omega arith in
      (right-at k (omega arith)).used-full (ne_eqb (k + 1) (blocks_in log) n)

  -- "block number 4 (from 0)": so there are at most 2^32 blocks
  pub blocks-most : Bytes log → blocks_in log ≤ 2 ^ 32
  blocks-most hb = go (blocks_in log) refl
    where
      go : (m : ℕ) → blocks_in log ≡ m → m ≤ 2 ^ 32
      go zero e = omega arith
      go (suc m) e =
          let b : List ℕ = block_at log m in
          let r = (right-at m (omega arith)).number_is in
          let s = length-block_at m (omega arith) in
          let w = number_fits b 480 4 (Bytes-part log (512 * m) 512 hb) (omega arith) in
          omega arith

  pub length-records : (k : ℕ) → k < blocks_in log → length (records_at log k) ≡ 32 * used (block_at log k)
  length-records k h =
      let s = length-block_at k h in
      let u = used-most k h in
      length_part (block_at log k) 0 (32 * used (block_at log k)) (omega arith)

  -- ---- the list

  pub length-up_to : (n : ℕ) → n < blocks_in log → length (list_up_to log n) ≡ 32 * (per * n)
  unfolding first_bad_block
  length-up_to n h = length_before per form.1 log n (λ k l. first-before (right_at per log) (blocks_in log) k (omega arith)) h

  pub length-next : (n : ℕ) → n < blocks_in log → length (list_up_to log (n + 1)) ≡ 32 * (per * n + used (block_at log n))
  length-next n h =
      let i = length-up_to n h in
      let r = length-records n h in
      rw (list-next log n, length-append, i, r) (omega arith)

  -- the length of the list, with m blocks before the last
  pub length-list : (m : ℕ) → blocks_in log ≡ m + 1 → length (list_of log) ≡ 32 * (per * m + used (block_at log m))
  unfolding list_of
  length-list m e = rw e (length-next m (omega arith))

  pub list-whole : length (list_of log) % 32 ≡ 0
  list-whole = go (blocks_in log) refl
    where
      go : (m : ℕ) → blocks_in log ≡ m → length (list_of log) % 32 ≡ 0
      go zero e = rw (list-none log e)
      go (suc m) e = let l = length-list m (omega arith) in omega arith

  -- the list takes as many blocks as the log has
  pub list-blocks : block_count per (length (list_of log) / 32) ≡ blocks_in log
  list-blocks = go (blocks_in log) refl
    where
      go : (m : ℕ) → blocks_in log ≡ m → block_count per (length (list_of log) / 32) ≡ blocks_in log
      go zero e =
          let z : length (list_of log) / 32 ≡ 0 = rw (list-none log e) in
          rw (z, e) (div-eq_of_lt (omega arith))
      go (suc m) e =
          let l = length-list m (omega arith) in
          let n : length (list_of log) / 32 ≡ per * m + used (block_at log m) = omega arith in
          let x = count-is per m (used (block_at log m)) (used-some m (omega arith)) (used-most m (omega arith)) in
          rw (n, x) (omega arith)

  -- the records of block k stand from per × k on
  part-up_to : (n k : ℕ) → n ≤ blocks_in log → k < n → part_of per (list_up_to log n) k ≡ records_at log k
  unfolding list_up_to
  part-up_to zero k h l = absurd (omega arith)
  part-up_to (suc n) k h l = go (λ m. part-up_to n k (omega arith) m) (eq-or-lt_of_le (le_of_suc-le-suc l))
    where
      go : (k < n → part_of per (list_up_to log n) k ≡ records_at log k) → (k ≡ n) ⊎ (k < n)
          → part_of per (list_up_to log n ++ records_at log n) k ≡ records_at log k
      go ih =
          let e = length-up_to n (omega arith) in
          let r = length-records n (omega arith) in
          let u = used-most n (omega arith) in
          ⊎_elim
          (λ q. rw q (part-seam (list_up_to log n) (records_at log n) (32 * (per * n)) (32 * per) e ∙ part-all (records_at log n) (32 * per) (omega arith)))
          (λ m.
          let f = full-before per k n m in
          part_left (list_up_to log n) (records_at log n) (32 * (per * k)) (32 * per) (omega arith) ∙ ih m)

  pub part-list : (k : ℕ) → k < blocks_in log → part_of per (list_of log) k ≡ records_at log k
  unfolding list_of
  part-list k h = part-up_to (blocks_in log) k (omega arith) h

  -- ---- back to the log

  module _ (hb : Bytes log) (stamp : List ℕ) (same : (k : ℕ) → k < blocks_in log → stamp_of per (block_at log k) ≡ stamp) where
    log_up_to-list : (n : ℕ) → n ≤ blocks_in log → log_up_to per stamp (list_of log) n ≡ take (512 * n) log
    unfolding log_up_to
    log_up_to-list zero h = refl
    log_up_to-list (suc n) h =
        let m : n < blocks_in log = omega arith in
        let e : 512 * n + 512 ≡ 512 * suc n = omega arith in
        let b : List ℕ = block_at log n in
        let p : block stamp n (part_of per (list_of log) n) ≡ b =
        ap (block stamp n) (part-list n m)
        ∙ ap (λ (t : List ℕ). block t n (records_at log n)) (sym (same n m))
        ∙ block_back per n form.1 (eqb (n + 1) (blocks_in log)) b (length-block_at n m) (Bytes-part log (512 * n) 512 hb) (right-at n m)
        in
        ap₂ ◌++◌ (log_up_to-list n (omega arith)) p ∙ sym (take-add (512 * n) 512 log) ∙ ap (λ (i : ℕ). take i log) e

    -- a log of whole blocks that are all right and have one stamp encodes back to the same bytes
    pub list-then-log : length log % 512 ≡ 0 → log_of per stamp (list_of log) ≡ log
    unfolding log_of
    list-then-log hw =
        ap (log_up_to per stamp (list_of log)) list-blocks
        ∙ log_up_to-list (blocks_in log) (omega arith)
        ∙ take_all (512 * blocks_in log) log (omega arith)

-- a log of right blocks keeps whole records; one without a block keeps none
pub whole-records : (per : ℕ) → per ≤ 15 → (log : List ℕ) → first_bad_block per log ≡ blocks_in log → length (list_of log) % 32 ≡ 0
whole-records per few log good = go (blocks_in log) refl
  where
    go : (m : ℕ) → blocks_in log ≡ m → length (list_of log) % 32 ≡ 0
    go zero e = rw (list-none log e)
    go (suc m) e = list-whole per (some-records per few log good m (omega arith)) log good

-- a block of 15 records has no stamp
pub no-stamp : (b : List ℕ) → stamp_of 15 b ≡ []
no-stamp b = refl
