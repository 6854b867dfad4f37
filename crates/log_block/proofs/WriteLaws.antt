-- What the stores of a block and of a log make of the lent bytes.
-- Assumes nothing.
use Rattle.std.proofs.Common.{◌≡◌, ℕ, ◌+◌, ◌-◌, ◌*◌, ◌/◌, ◌%◌, ◌^◌, ◌<◌, ◌≤◌, min, Bool, true, false, leb, List, ◌++◌, length, take, drop, sym, refl, ap, ◌∙◌, append_assoc, zero-add, arith, length-append, length-drop, take-append-drop, length-take-le, take_all, drop-drop, leb-false, leb-true}
use Rattle.num.specs.Bytes.{bytes, number, part, splice, zeros}
use Rattle.num.proofs.ByteLaws.{length-bytes}
use Rattle.num.proofs.SpliceLaws.{splice-next, splice-whole, length-zeros}
use Rattle.num.proofs.PartLaws.{part_left}
use Rattle.log_block.specs.Block.{word_sum, block_body, check_word, block, block_count, log_up_to}
use Rattle.log_block.proofs.CountLaws.{count-start}
use Rattle.log_block.proofs.BlockLaws.{part_of, length-body, length-log, log-next, sum_same}

-- a list is its own start, put to its start
start-splice : (l : List ℕ) (n : ℕ) → n ≤ length l → splice l 0 (take n l) ≡ l
start-splice l n h = rw (length-take-le n l h, zero-add) (take-append-drop n l)

-- the stores of a block of the records at its start, but for its check word
pub body-stores : (l stamp : List ℕ) (k n : ℕ) → length l ≡ 512 → n + length stamp ≤ 480
    → splice (splice (splice (splice (splice l n (zeros (480 - length stamp - n))) (480 - length stamp) stamp) 480 (bytes 4 k)) 484 (bytes 4 (n / 32))) 488 (zeros 20)
    ≡ splice l 0 (block_body stamp k (take n l))
unfolding block_body
body-stores l stamp k n e h =
    let recs = take n l in
    let m : length recs ≡ n = length-take-le n l (omega arith) in
    let z = zeros (480 - length stamp - n) in
    let a = bytes 4 k in
    let b = bytes 4 (n / 32) in
    let hz : length (recs ++ z) ≡ 480 - length stamp = simp (length-append, length-zeros, m) (omega arith) in
    let hs : length (recs ++ z ++ stamp) ≡ 480 = simp (length-append, length-zeros, m) (omega arith) in
    let ha : length (recs ++ z ++ stamp ++ a) ≡ 484 = simp (length-append, length-zeros, length-bytes, m) (omega arith) in
    let hb : length (recs ++ z ++ stamp ++ a ++ b) ≡ 488 = simp (length-append, length-zeros, length-bytes, m) (omega arith) in
    ap (λ (x : List ℕ). splice (splice (splice (splice (splice x n z) (480 - length stamp) stamp) 480 a) 484 b) 488 (zeros 20)) (sym (start-splice l n (omega arith)))
    ∙ rw (
      splice-next l recs z n m (omega arith),
      splice-next l (recs ++ z) stamp (480 - length stamp) hz (omega arith),
      splice-next l (recs ++ z ++ stamp) a 480 hs (omega arith),
      splice-next l (recs ++ z ++ stamp ++ a) b 484 ha (omega arith),
      splice-next l (recs ++ z ++ stamp ++ a ++ b) (zeros 20) 488 hb (omega arith),
      m,
    )
    (simp append_assoc)

-- words within the first of two lists
pub sum-front : (xs ys : List ℕ) (n : ℕ) → 4 * n ≤ length xs → word_sum (xs ++ ys) n ≡ word_sum xs n
sum-front xs ys n h = sum_same (xs ++ ys) xs n (λ k l. ap number (part_left xs ys (4 * k) 4 (omega arith)))

-- a word that takes the sum of the others to 0 is the check word
pub check-store : (l stamp : List ℕ) (k : ℕ) (recs : List ℕ) (w : ℕ) → length l ≡ 512 → length recs + length stamp ≤ 480 → w < 2 ^ 32
    → (w + word_sum (splice l 0 (block_body stamp k recs)) 127 % 2 ^ 32) % 2 ^ 32 ≡ 0
    → splice (splice l 0 (block_body stamp k recs)) 508 (bytes 4 w) ≡ block stamp k recs
unfolding block check_word
check-store l stamp k recs w e h m z =
    let body = block_body stamp k recs in
    let hl = length-body stamp k recs h in
    let s : word_sum (splice l 0 body) 127 ≡ word_sum body 127 = sum-front body (drop (0 + length body) l) 127 (omega arith) in
    let c : w ≡ (2 ^ 32 - word_sum body 127 % 2 ^ 32) % 2 ^ 32 = omega arith in
    let n : length (body ++ bytes 4 w) ≡ length l = simp (length-append, length-bytes) (omega arith) in
    rw (splice-next l body (bytes 4 w) 508 hl (omega arith), splice-whole l (body ++ bytes 4 w) n, c)

-- a lent part that comes back changed is a splice
pub part-back : (l : List ℕ) (at k : ℕ) (ys : List ℕ) → length ys ≡ k → take at l ++ (ys ++ drop k (drop at l)) ≡ splice l at ys
part-back l at k ys e = rw (drop-drop k at l, ← e) (sym (append_assoc (take at l) ys (drop (at + length ys) l)))

-- a part that ends at the list's end where the list is too short
pub part-within : (l : List ℕ) (at n : ℕ) → part l at (min (at + n) (length l) - at) ≡ part l at n
part-within l at n = go (leb (at + n) (length l)) refl
  where
    go : (t : Bool) → leb (at + n) (length l) ≡ t → part l at (min (at + n) (length l) - at) ≡ part l at n
    go true q =
        let h = leb-true (at + n) (length l) q in
        let e : min (at + n) (length l) - at ≡ n = omega arith in
        rw e
    go false q =
        let h = leb-false (at + n) (length l) q in
        let d = length-drop at l in
        take_all (min (at + n) (length l) - at) (drop at l) (omega arith) ∙ sym (take_all n (drop at l) (omega arith))

module _ (per : ℕ) (stamp : List ℕ) (fits : 32 * per + length stamp ≡ 480) where
  -- one block more of the log of a list
  pub log-turn : (l list : List ℕ) (k : ℕ) → 512 * k ≤ length l
      → splice (splice l 0 (log_up_to per stamp list k)) (512 * k) (block stamp k (part_of per list k)) ≡ splice l 0 (log_up_to per stamp list (k + 1))
  log-turn l list k h =
      rw (log-next per stamp list k)
      (splice-next l (log_up_to per stamp list k) (block stamp k (part_of per list k)) (512 * k) (length-log per stamp list k fits) h)

-- a block that is counted starts within the list
pub starts-within : (per m k : ℕ) → 1 ≤ per → k < block_count per (m / 32) → 32 * (per * k) ≤ m
starts-within per m k s h = let e = count-start per (m / 32) k s h in omega arith
