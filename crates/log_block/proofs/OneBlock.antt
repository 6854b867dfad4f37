-- One block: what the test of a block says, that a block that was made passes it and gives its fields back, and that a block
-- that passes it is the one that its used records make.
-- Assumes nothing.
use Rattle.std.proofs.Common.{◌≡◌, ℕ, ◌+◌, ◌-◌, ◌*◌, ◌/◌, ◌%◌, ◌^◌, ◌<◌, ◌≤◌, Bool, true, false, ◌&&◌, ◌||◌, eqb, leb, List, ◌++◌, length, get_or, sym, refl, ap, ◌∙◌, ap₂, append_assoc, zero-add, arith, length-append, take_at, eq-eqb, eqb-true, le-leb, leb-true}
use mathlib.Core.Bool.{and-eq-true_iff}
use lib.ListN.{get_or-replicate}
use Rattle.num.specs.Bytes.{bytes, number, part, zeros, Bytes}
use Rattle.num.proofs.ByteLaws.{length-bytes, number-bytes}
use Rattle.num.proofs.SpliceLaws.{length-zeros}
use Rattle.num.proofs.SearchLaws.{all-at, all-intro}
use Rattle.num.proofs.PartLaws.{length_part, get_d_part, part-all, part-part, part_join, part_left, part_right, part-seam, part-zeros, number_fits, bytes-part}
use Rattle.log_block.specs.Block.{word_at, word_sum, block_body, check_word, block, stamp_of, used, all_zero, number_right, count_right, zeros_right, sum_right, block_right}
use Rattle.log_block.proofs.BlockLaws.{length-body, sum-next, sum_same}

-- the test of zeros, and the part that it is of

pub zero-part : (b : List ℕ) (at n : ℕ) → at + n ≤ length b → all_zero b at n ≡ true → part b at n ≡ zeros n
zero-part b at n h e = part-zeros b at n h (λ i l. eqb-true (get_or b (at + i) 0) 0 (all-at (λ i. eqb (get_or b (at + i) 0) 0) n i e l))

pub part-zero : (b : List ℕ) (at n : ℕ) → part b at n ≡ zeros n → all_zero b at n ≡ true
part-zero b at n e =
    all-intro (λ i. eqb (get_or b (at + i) 0) 0) n
    (λ i l. eq-eqb (get_or b (at + i) 0) 0 (sym (get_d_part b at n i l) ∙ ap (λ (r : List ℕ). get_or r i 0) e ∙ get_or-replicate n i 0 0 l))

-- what the test of a block says, point by point
pub record Right (per k : ℕ) (last : Bool) (b : List ℕ) : Type 0 where
  pub number_is : number (part b 480 4) ≡ k
  pub used-some : 1 ≤ used b
  pub used-most : used b ≤ per
  pub used-full : last ≡ false → used b ≡ per
  pub gap-zero : all_zero b 488 20 ≡ true
  pub rest-zero : all_zero b (32 * used b) (32 * per - 32 * used b) ≡ true
  pub sum-zero : word_sum b 128 % 2 ^ 32 ≡ 0

or-full : (last t : Bool) → (last || t) ≡ true → last ≡ false → t ≡ true
or-full false t e h = e
or-full true t e h = cc

full-or : (last t : Bool) → (last ≡ false → t ≡ true) → (last || t) ≡ true
full-or false t h = h refl
full-or true t h = refl

-- the test of a count
pub count-says : (per : ℕ) (last : Bool) (b : List ℕ) → count_right per last b ≡ true → (1 ≤ used b) × (used b ≤ per) × (last ≡ false → used b ≡ per)
count-says per last b e =
    let c = (and-eq-true_iff (leb 1 (used b)) (leb (used b) per && (last || eqb (used b) per))).0 e in
    let d = (and-eq-true_iff (leb (used b) per) (last || eqb (used b) per)).0 c.1 in
    (leb-true 1 (used b) c.0, leb-true (used b) per d.0, λ h. eqb-true (used b) per (or-full last (eqb (used b) per) d.1 h))

pub right_of : (per k : ℕ) (last : Bool) (b : List ℕ) → block_right per k last b ≡ true → Right per k last b
unfolding block_right
right_of per k last b e =
    let p = (and-eq-true_iff (number_right k b) (count_right per last b && (zeros_right per b && sum_right b))).0 e in
    let q = (and-eq-true_iff (count_right per last b) (zeros_right per b && sum_right b)).0 p.1 in
    let r = (and-eq-true_iff (zeros_right per b) (sum_right b)).0 q.1 in
    let c = count-says per last b q.0 in
    let z = (and-eq-true_iff (all_zero b 488 20) (all_zero b (32 * used b) (32 * per - 32 * used b))).0 r.0 in
    record {
      number_is = eqb-true (number (part b 480 4)) k p.0;
      used-some = c.0;
      used-most = c.1;
      used-full = c.2;
      gap-zero = z.0;
      rest-zero = z.1;
      sum-zero = eqb-true (word_sum b 128 % 2 ^ 32) 0 r.1;
    }

pub of_right : (per k : ℕ) (last : Bool) (b : List ℕ) → Right per k last b → block_right per k last b ≡ true
unfolding block_right
of_right per k last b r =
    rw (
      eq-eqb (number (part b 480 4)) k r.number_is,
      le-leb 1 (used b) r.used-some,
      le-leb (used b) per r.used-most,
      full-or last (eqb (used b) per) (λ h. eq-eqb (used b) per (r.used-full h)),
      r.gap-zero,
      r.rest-zero,
      eq-eqb (word_sum b 128 % 2 ^ 32) 0 r.sum-zero,
    )

-- ---- a block that was made

-- what stands behind the records of a block, but for its check
fields : ℕ → ℕ → List ℕ
fields k u = bytes 4 k ++ (bytes 4 u ++ zeros 20)

module _ (stamp : List ℕ) (k : ℕ) (recs : List ℕ) (h : length recs + length stamp ≤ 480) where
  -- a part of a block that ends before its check is the same part of its body
  pub in_body : (at n : ℕ) → at + n ≤ 508 → part (block stamp k recs) at n ≡ part (block_body stamp k recs) at n
  unfolding block
  in_body at n m =
      let e = length-body stamp k recs h in
      part_left (block_body stamp k recs) (bytes 4 (check_word (block_body stamp k recs))) at n (omega arith)

  -- the records and the zeros after them
  front : List ℕ
  front = recs ++ zeros (480 - length stamp - length recs)

  length_front : length front ≡ 480 - length stamp
  unfolding front
  length_front = simp (length-append, length-zeros) (omega arith)

  -- the body, with what stands before the stamp as one
  body-front : block_body stamp k recs ≡ front ++ (stamp ++ fields k (length recs / 32))
  unfolding block_body fields front
  body-front = sym (append_assoc recs (zeros (480 - length stamp - length recs)) (stamp ++ fields k (length recs / 32)))

  in-fields : (i n : ℕ) → 480 + i + n ≤ 508 → part (block stamp k recs) (480 + i) n ≡ part (fields k (length recs / 32)) i n
  in-fields i n m =
      let e = length_front in
      let t : length (front ++ stamp) ≡ 480 = simp length-append (omega arith) in
      in_body (480 + i) n m
      ∙ ap (λ (r : List ℕ). part r (480 + i) n) (body-front ∙ sym (append_assoc front stamp (fields k (length recs / 32))))
      ∙ part_right (front ++ stamp) (fields k (length recs / 32)) 480 i n t

  pub part-stamp : part (block stamp k recs) (480 - length stamp) (length stamp) ≡ stamp
  part-stamp =
      let e = length_front in
      in_body (480 - length stamp) (length stamp) (omega arith)
      ∙ ap (λ (r : List ℕ). part r (480 - length stamp) (length stamp)) body-front
      ∙ part-seam front (stamp ++ fields k (length recs / 32)) (480 - length stamp) (length stamp) length_front
      ∙ take_at stamp (fields k (length recs / 32)) (length stamp) refl

  pub part-records : part (block stamp k recs) 0 (length recs) ≡ recs
  unfolding block_body fields
  part-records =
      in_body 0 (length recs) (omega arith)
      ∙ take_at recs (zeros (480 - length stamp - length recs) ++ (stamp ++ fields k (length recs / 32))) (length recs) refl

  pub part-number : part (block stamp k recs) 480 4 ≡ bytes 4 k
  unfolding fields
  part-number =
      in-fields 0 4 (omega arith)
      ∙ take_at (bytes 4 k) (bytes 4 (length recs / 32) ++ zeros 20) 4 (length-bytes 4 k)

  pub part-used : part (block stamp k recs) 484 4 ≡ bytes 4 (length recs / 32)
  unfolding fields
  part-used =
      in-fields 4 4 (omega arith)
      ∙ part-seam (bytes 4 k) (bytes 4 (length recs / 32) ++ zeros 20) 4 4 (length-bytes 4 k)
      ∙ take_at (bytes 4 (length recs / 32)) (zeros 20) 4 (length-bytes 4 (length recs / 32))

  pub part-gap : part (block stamp k recs) 488 20 ≡ zeros 20
  unfolding fields
  part-gap =
      in-fields 8 20 (omega arith)
      ∙ part_right (bytes 4 k) (bytes 4 (length recs / 32) ++ zeros 20) 4 4 20 (length-bytes 4 k)
      ∙ part-seam (bytes 4 (length recs / 32)) (zeros 20) 4 20 (length-bytes 4 (length recs / 32))

  pub part-unused : part (block stamp k recs) (length recs) (480 - length stamp - length recs) ≡ zeros (480 - length stamp - length recs)
  unfolding block_body fields
  part-unused =
      let n : ℕ = 480 - length stamp - length recs in
      in_body (length recs) n (omega arith)
      ∙ part-seam recs (zeros n ++ (stamp ++ fields k (length recs / 32))) (length recs) n refl
      ∙ take_at (zeros n) (stamp ++ fields k (length recs / 32)) n (length-zeros n)

  pub part-check : part (block stamp k recs) 508 4 ≡ bytes 4 (check_word (block_body stamp k recs))
  unfolding block
  part-check =
      let c : ℕ = check_word (block_body stamp k recs) in
      part-seam (block_body stamp k recs) (bytes 4 c) 508 4 (length-body stamp k recs h)
      ∙ part-all (bytes 4 c) 4 (rw length-bytes (omega arith))

  -- "records used 4"
  pub used-block : used (block stamp k recs) ≡ length recs / 32
  used-block = ap number part-used ∙ number-bytes 4 (length recs / 32) (omega arith)

  -- "The 128 little-endian words sum to 0 modulo 2^32."
  pub sum-block : word_sum (block stamp k recs) 128 % 2 ^ 32 ≡ 0
  unfolding check_word
  sum-block =
      let b : List ℕ = block stamp k recs in
      let d : List ℕ = block_body stamp k recs in
      let s : word_sum b 127 ≡ word_sum d 127 = sum_same b d 127 (λ j l. ap number (in_body (4 * j) 4 (omega arith))) in
      let w : word_at b 127 ≡ (2 ^ 32 - word_sum d 127 % 2 ^ 32) % 2 ^ 32 =
      ap number part-check ∙ number-bytes 4 (check_word d) (omega arith)
      in
      let n = sum-next b 127 in
      omega arith

  -- a block that was made of whole records is right
  pub block-right : (per : ℕ) → 32 * per + length stamp ≡ 480 → (last : Bool) → k < 2 ^ 32 → length recs % 32 ≡ 0 → 1 ≤ length recs
      → (last ≡ false → length recs ≡ 32 * per) → block_right per k last (block stamp k recs) ≡ true
  block-right per fits last hk hm hp hl =
      let u = used-block in
      let e : 32 * used (block stamp k recs) ≡ length recs = omega arith in
      let z : 32 * per - length recs ≡ 480 - length stamp - length recs = omega arith in
      of_right per k last (block stamp k recs) (record {
        number_is = ap number part-number ∙ number-bytes 4 k hk;
        used-some = omega arith;
        used-most = omega arith;
        used-full = λ f. let g = hl f in omega arith;
        gap-zero = part-zero (block stamp k recs) 488 20 part-gap;
        rest-zero = rw (e, z) (part-zero (block stamp k recs) (length recs) (480 - length stamp - length recs) part-unused);
        sum-zero = sum-block;
      })

  -- and its used records are those that it was made of
  pub records-block : length recs % 32 ≡ 0 → part (block stamp k recs) 0 (32 * used (block stamp k recs)) ≡ recs
  records-block hm =
      let u = used-block in
      let e : 32 * used (block stamp k recs) ≡ length recs = omega arith in
      rw e part-records

-- ---- a block that is right

-- the first 508 bytes of a block, cut into its fields
cut-body : (b : List ℕ) (a e : ℕ) → a ≤ e → e ≤ 480
    → part b 0 508 ≡ part b 0 a ++ (part b a (e - a) ++ (part b e (480 - e) ++ (part b 480 4 ++ (part b 484 4 ++ part b 488 20))))
cut-body b a e h m =
    let z : ℕ = e - a in
    let y : ℕ = 480 - e in
    let x : 508 ≡ a + (z + (y + 28)) = omega arith in
    let s : a + z ≡ e = omega arith in
    let t : e + y ≡ 480 = omega arith in
    let tail : part b 480 28 ≡ part b 480 4 ++ (part b 484 4 ++ part b 488 20) =
    part_join b 480 4 24 ∙ ap (λ (t : List ℕ). part b 480 4 ++ t) (part_join b 484 4 20)
    in
    let last : part b e (y + 28) ≡ part b e y ++ part b 480 28 =
    part_join b e y 28 ∙ ap (λ (n : ℕ). part b e y ++ part b n 28) t
    in
    let rest : part b a (z + (y + 28)) ≡ part b a z ++ part b e (y + 28) =
    part_join b a z (y + 28) ∙ ap (λ (n : ℕ). part b a z ++ part b n (y + 28)) s
    in
    ap (λ (n : ℕ). part b 0 n) x
    ∙ part_join b 0 a (z + (y + 28))
    ∙ ap (λ (n : ℕ). part b 0 a ++ part b n (z + (y + 28))) (zero-add a)
    ∙ ap (λ (t : List ℕ). part b 0 a ++ t) (rest ∙ ap (λ (t : List ℕ). part b a z ++ t) (last ∙ ap (λ (t : List ℕ). part b e y ++ t) tail))

module _ (per k : ℕ) (few : per ≤ 15) (last : Bool) (b : List ℕ) (h : length b ≡ 512) (hb : Bytes b) (r : Right per k last b) where
  back : (at x : ℕ) → at + 4 ≤ 512 → number (part b at 4) ≡ x → bytes 4 x ≡ part b at 4
  back at x m e = ap (bytes 4) (sym e) ∙ bytes-part b at 4 hb (omega arith)

  -- the first 508 bytes are the body that its used records and its stamp make
  body_back : block_body (stamp_of per b) k (part b 0 (32 * used b)) ≡ part b 0 508
  unfolding block_body
  body_back =
      let u : ℕ = used b in
      let t : List ℕ = stamp_of per b in
      let um : u ≤ per = r.used-most in
      let e : length (part b 0 (32 * u)) ≡ 32 * u = length_part b 0 (32 * u) (omega arith) in
      let st : length t ≡ 480 - 32 * per = length_part b (32 * per) (480 - 32 * per) (omega arith) in
      let y : 480 - length t - 32 * u ≡ 32 * per - 32 * u = omega arith in
      let v : 32 * u / 32 ≡ u = omega arith in
      let z : part b (32 * u) (32 * per - 32 * u) ≡ zeros (32 * per - 32 * u) = zero-part b (32 * u) (32 * per - 32 * u) (omega arith) r.rest-zero in
      let g : part b 488 20 ≡ zeros 20 = zero-part b 488 20 (omega arith) r.gap-zero in
      let n : bytes 4 k ≡ part b 480 4 = back 480 k (omega arith) r.number_is in
      let w : bytes 4 u ≡ part b 484 4 = back 484 u (omega arith) refl in
      ap (λ (m : ℕ). part b 0 (32 * u) ++ (zeros (480 - length t - m) ++ (t ++ (bytes 4 k ++ (bytes 4 (m / 32) ++ zeros 20))))) e
      ∙ ap (λ (m : ℕ). part b 0 (32 * u) ++ (zeros m ++ (t ++ (bytes 4 k ++ (bytes 4 (32 * u / 32) ++ zeros 20))))) y
      ∙ ap (λ (m : ℕ). part b 0 (32 * u) ++ (zeros (32 * per - 32 * u) ++ (t ++ (bytes 4 k ++ (bytes 4 m ++ zeros 20))))) v
      ∙ ap (λ (x : List ℕ). part b 0 (32 * u) ++ x) (ap₂ ◌++◌ (sym z) (ap (λ (x : List ℕ). t ++ x) (ap₂ ◌++◌ n (ap₂ ◌++◌ w (sym g)))))
      ∙ sym (cut-body b (32 * u) (32 * per) (omega arith) (omega arith))

  -- the check is the one that the body has
  check-back : check_word (part b 0 508) ≡ number (part b 508 4)
  unfolding check_word
  check-back =
      let d : List ℕ = part b 0 508 in
      let s : word_sum d 127 ≡ word_sum b 127 =
      sum_same d b 127 (λ j l. ap number (part-part b 0 508 (4 * j) 4 (omega arith) ∙ ap (λ (i : ℕ). part b i 4) (zero-add (4 * j))))
      in
      let w = number_fits b 508 4 hb (omega arith) in
      let n = sum-next b 127 in
      let t = r.sum-zero in
      rw s (omega arith)

  -- a right block is the block of its stamp and its used records
  pub block_back : block (stamp_of per b) k (part b 0 (32 * used b)) ≡ b
  unfolding block
  block_back =
      ap (λ (d : List ℕ). d ++ bytes 4 (check_word d)) body_back
      ∙ ap (λ (t : List ℕ). part b 0 508 ++ t) (back 508 (check_word (part b 0 508)) (omega arith) (sym check-back))
      ∙ sym (part_join b 0 508 4)
      ∙ part-all b 512 (omega arith)
