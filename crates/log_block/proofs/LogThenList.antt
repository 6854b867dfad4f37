-- The log of a list of whole records: its length, its blocks, that every block of it is right, and that it keeps the list.
-- Assumes nothing.
use Rattle.std.proofs.Common.{◌≡◌, ℕ, zero, suc, ◌+◌, ◌-◌, ◌*◌, ◌/◌, ◌%◌, ◌^◌, ◌<◌, ◌≤◌, true, false, eqb, ◌⊎◌, List, ◌++◌, length, take, sym, refl, ap, ◌∙◌, ap₂, ⊎_elim, le_of_suc-le-suc, eq-or-lt_of_le, arith, length-drop, length-take, take_all, take-add}
use borrow.Author.Tests.{eqb-false}
use Rattle.num.specs.Bytes.{bytes, part, zeros, Bytes}
use Rattle.num.proofs.SearchLaws.{first-none}
use Rattle.num.proofs.PartLaws.{part-all, part_left, part-seam, Bytes-part, Bytes-append, Bytes-zeros, Bytes-bytes}
use Rattle.log_block.specs.Block.{block_body, check_word, block, block_count, log_up_to, log_of, block_at, stamp_of, used, block_right, blocks_in, first_bad_block, list_up_to, list_of}
use Rattle.log_block.proofs.CountLaws.{count-start, count-over}
use Rattle.log_block.proofs.BlockLaws.{part_of, part-fits, length-block, length-log, right_at}
use Rattle.log_block.proofs.OneBlock.{part-stamp, block-right, records-block}

module _ (per : ℕ) (stamp : List ℕ) (some : 1 ≤ per) (fits : 32 * per + length stamp ≡ 480) where
  -- ---- lengths

  pub log-length : (l : List ℕ) → length (log_of per stamp l) ≡ 512 * block_count per (length l / 32)
  unfolding log_of
  log-length l = length-log per stamp l (block_count per (length l / 32)) fits

  pub log-whole : (l : List ℕ) → length (log_of per stamp l) % 512 ≡ 0
  log-whole l = let e = log-length l in omega arith

  pub log-blocks : (l : List ℕ) → blocks_in (log_of per stamp l) ≡ block_count per (length l / 32)
  log-blocks l = let e = log-length l in omega arith

  -- ---- block k is made of the records from per × k on

  block_at-up_to : (l : List ℕ) (n k : ℕ) → k < n → block_at (log_up_to per stamp l n) k ≡ block stamp k (part_of per l k)
  unfolding log_up_to
  block_at-up_to l zero k h = absurd (omega arith)
  block_at-up_to l (suc n) k h = go (λ m. block_at-up_to l n k m) (eq-or-lt_of_le (le_of_suc-le-suc h))
    where
      go : (k < n → block_at (log_up_to per stamp l n) k ≡ block stamp k (part_of per l k)) → (k ≡ n) ⊎ (k < n)
          → part (log_up_to per stamp l n ++ block stamp n (part_of per l n)) (512 * k) 512 ≡ block stamp k (part_of per l k)
      go ih =
          let e = length-log per stamp l n fits in
          let b : List ℕ = block stamp n (part_of per l n) in
          let s = length-block stamp n (part_of per l n) (part-fits per stamp l n fits) in
          ⊎_elim
          (λ q. rw q (part-seam (log_up_to per stamp l n) b (512 * n) 512 e ∙ part-all b 512 (omega arith)))
          (λ m. part_left (log_up_to per stamp l n) b (512 * k) 512 (omega arith) ∙ ih m)

  pub block_at-log : (l : List ℕ) (k : ℕ) → k < block_count per (length l / 32) → block_at (log_of per stamp l) k ≡ block stamp k (part_of per l k)
  unfolding log_of
  block_at-log l k h = block_at-up_to l (block_count per (length l / 32)) k h

  -- the stamp of each block is the one that the log was made with
  pub stamp-log : (l : List ℕ) (k : ℕ) → k < block_count per (length l / 32) → stamp_of per (block_at (log_of per stamp l) k) ≡ stamp
  stamp-log l k h =
      let a : 32 * per ≡ 480 - length stamp = omega arith in
      let n : 480 - (480 - length stamp) ≡ length stamp = omega arith in
      ap (stamp_of per) (block_at-log l k h)
      ∙ ap (λ (m : ℕ). part (block stamp k (part_of per l k)) m (480 - m)) a
      ∙ ap (λ (m : ℕ). part (block stamp k (part_of per l k)) (480 - length stamp) m) n
      ∙ part-stamp stamp k (part_of per l k) (part-fits per stamp l k fits)

  -- ---- the records of block k: whole ones, at least one, and all of a block but in the last

  module _ (l : List ℕ) (hl : length l % 32 ≡ 0) (k : ℕ) (hk : k < block_count per (length l / 32)) where
    records-whole : length (part_of per l k) % 32 ≡ 0
    records-whole = simp (length-take, length-drop) (omega arith)

    records-some : 1 ≤ length (part_of per l k)
    records-some = let s = count-start per (length l / 32) k some hk in simp (length-take, length-drop) (omega arith)

    records-full : eqb (k + 1) (block_count per (length l / 32)) ≡ false → length (part_of per l k) ≡ 32 * per
    records-full e =
        let n : k + 1 ≡ block_count per (length l / 32) → ⊥ = eqb-false (k + 1) (block_count per (length l / 32)) e in
        let s = count-start per (length l / 32) (k + 1) some (omega arith) in
        simp (length-take, length-drop) (omega arith)

  -- every block of a log is right: "block number 4" is what bounds the length of the list
  pub log-right : (l : List ℕ) → length l % 32 ≡ 0 → block_count per (length l / 32) ≤ 2 ^ 32
      → first_bad_block per (log_of per stamp l) ≡ blocks_in (log_of per stamp l)
  unfolding first_bad_block
  log-right l hl hn =
      let e = log-blocks l in
      let n : ℕ = block_count per (length l / 32) in
      let all : (k : ℕ) → k < blocks_in (log_of per stamp l) → right_at per (log_of per stamp l) k ≡ true =
      λ k h.
      let m : k < block_count per (length l / 32) = omega arith in
      ap₂ (λ (c : ℕ) (b : List ℕ). block_right per k (eqb (k + 1) c) b) e (block_at-log l k m)
      ∙ block-right stamp k (part_of per l k) (part-fits per stamp l k fits) per fits (eqb (k + 1) n)
      (omega arith) (records-whole l hl k m) (records-some l hl k m) (records-full l hl k m)
      in
      first-none (right_at per (log_of per stamp l)) (blocks_in (log_of per stamp l)) all

  -- ---- what was encoded is decoded

  list_up_to-log : (l : List ℕ) → length l % 32 ≡ 0 → (n : ℕ) → n ≤ block_count per (length l / 32)
      → list_up_to (log_of per stamp l) n ≡ take (32 * (per * n)) l
  unfolding list_up_to
  list_up_to-log l hl zero h = let z : 32 * (per * 0) ≡ 0 = omega arith in rw z
  list_up_to-log l hl (suc n) h =
      let m : n < block_count per (length l / 32) = omega arith in
      let e : 32 * (per * n) + 32 * per ≡ 32 * (per * suc n) = omega arith in
      let recs : List ℕ = part_of per l n in
      let p : part (block_at (log_of per stamp l) n) 0 (32 * used (block_at (log_of per stamp l) n)) ≡ recs =
      ap (λ (b : List ℕ). part b 0 (32 * used b)) (block_at-log l n m)
      ∙ records-block stamp n recs (part-fits per stamp l n fits) (records-whole l hl n m)
      in
      ap₂ ◌++◌ (list_up_to-log l hl n (omega arith)) p ∙ sym (take-add (32 * (per * n)) (32 * per) l) ∙ ap (λ (i : ℕ). take i l) e

  -- the log of a list keeps the list, however long the list is
  pub log-then-list : (l : List ℕ) → length l % 32 ≡ 0 → list_of (log_of per stamp l) ≡ l
  unfolding list_of
  log-then-list l hl =
      let n : ℕ = block_count per (length l / 32) in
      let o = count-over per (length l / 32) some in
      ap (λ (c : ℕ). list_up_to (log_of per stamp l) c) (log-blocks l) ∙ list_up_to-log l hl n (omega arith) ∙ take_all (32 * (per * n)) l (omega arith)

-- ---- a log is bytes

module _ (per : ℕ) (stamp : List ℕ) (hs : Bytes stamp) where
  pub Bytes-block : (k : ℕ) (recs : List ℕ) → Bytes recs → Bytes (block stamp k recs)
  unfolding block block_body
  Bytes-block k recs h =
      let u : ℕ = length recs / 32 in
      let z : ℕ = 480 - length stamp - length recs in
      let tail = Bytes-append (bytes 4 k) (bytes 4 u ++ zeros 20) (Bytes-bytes 4 k) (Bytes-append (bytes 4 u) (zeros 20) (Bytes-bytes 4 u) (Bytes-zeros 20)) in
      let rest = Bytes-append stamp (bytes 4 k ++ (bytes 4 u ++ zeros 20)) hs tail in
      Bytes-append (block_body stamp k recs) (bytes 4 (check_word (block_body stamp k recs)))
      (Bytes-append recs (zeros z ++ (stamp ++ (bytes 4 k ++ (bytes 4 u ++ zeros 20)))) h
      (Bytes-append (zeros z) (stamp ++ (bytes 4 k ++ (bytes 4 u ++ zeros 20))) (Bytes-zeros z) rest))
      (Bytes-bytes 4 (check_word (block_body stamp k recs)))

  Bytes-up_to : (l : List ℕ) → Bytes l → (n : ℕ) → Bytes (log_up_to per stamp l n)
  unfolding log_up_to
  Bytes-up_to l h zero = Bytes-zeros 0
  Bytes-up_to l h (suc n) =
      Bytes-append (log_up_to per stamp l n) (block stamp n (part_of per l n)) (Bytes-up_to l h n)
      (Bytes-block n (part_of per l n) (Bytes-part l (32 * (per * n)) (32 * per) h))

  pub Bytes-log : (l : List ℕ) → Bytes l → Bytes (log_of per stamp l)
  unfolding log_of
  Bytes-log l h = Bytes-up_to l h (block_count per (length l / 32))
