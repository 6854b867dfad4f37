-- The walk over a list or a log meets the records that the definitions name.
-- Assumes nothing.
use Prim.Native.Nat.{ℕ, zero, suc, ◌+◌, ◌*◌, ◌/◌, ◌%◌, ◌<◌, ◌≤◌}
use mathlib.Core.Path.{◌≡◌, refl, sym, ◌∙◌, ap, ap₂}
use mathlib.Core.Bool.{true}
use mathlib.Core.List.{List, [], ◌∷◌, ◌++◌}
use mathlib.Core.Logic.{⊎_elim}
use native.Mathlib.Nat.{zero-add, eq-or-lt_of_le, mul-le-mul_right, div-add-mod, mod-lt, div-lt_iff_lt-mul}
use native.Mathlib.Omega.{arith}
use borrow.Author.Tests.{ne_eqb}
use lib.ListN.{length}
use Rattle.num.specs.Bytes.{part}
use Rattle.num.proofs.PartLaws.{part-part}
use Rattle.num.proofs.SearchLaws.{first-before}
use Rattle.settings.specs.declared.Settings.{Settings}
use Rattle.record.specs.declared.Record.{Record}
use Rattle.record.specs.Record.{record_read, record_at, records_in, record_fits, well_formed, first_bad}
use Rattle.log_block.specs.Block.{used, blocks_in, block_at, first_bad_block, list_of}
use Rattle.log_block.proofs.CountLaws.{Records, count-over}
use Rattle.log_block.proofs.BlockLaws.{part_of}
use Rattle.log_block.proofs.ListThenLog.{records_at, used-most, used-full, length-list, list-blocks, part-list}
use Rattle.spec_rules.specs.Broken.{record_in}
use Rattle.check_walk.specs.Form.Walk.{place_in, records_via}
use Rattle.check_walk.proofs.ViaLaws.{length-via, via-at}
use Rattle.spec_check.specs.Check.{known, records_up_to, records_of}
use Rattle.check_list.proofs.RuleLaws.{known-fits}

-- two walks that meet the same bytes meet the same records
same-via : (s : Settings) (per : ℕ) (b l : List ℕ) (n : ℕ) → ((i : ℕ) → i < n → part b (place_in per i) 32 ≡ record_at l i) → records_via s per b n ≡ records_up_to s l n
unfolding records_via records_up_to
same-via s per b l zero h = refl
same-via s per b l (suc n) h =
    ap₂ (λ (x : List Record) (y : Record). x ++ (y ∷ [])) (same-via s per b l n (λ i m. h i (omega arith))) (ap (λ (x : List ℕ). known (record_read s x)) (h n (omega arith)))

pub list-via : (s : Settings) (l : List ℕ) → records_via s 0 l (records_in l) ≡ records_of s l
unfolding records_of place_in
list-via s l = same-via s 0 l l (records_in l) (λ i h. refl)

-- the place of record i in a log
place_is : (per i : ℕ) → 1 ≤ per → place_in per i ≡ 512 * (i / per) + 32 * (i % per)
unfolding place_in
place_is per i h = rw (ne_eqb per 0 (λ e. omega arith))

module _ (per : ℕ) (form : Records per) (log : List ℕ) (good : first_bad_block per log ≡ blocks_in log) (i : ℕ) (h : i < records_in (list_of log)) where
  -- record i is one that block i / per uses
  block_in : i / per < blocks_in log
  block_in =
      let e = list-blocks per form log good in
      let o : records_in (list_of log) ≤ per * blocks_in log = rw e at (count-over per (records_in (list_of log)) form.0) in
      let b : i < blocks_in log * per = omega arith in
      (div-lt_iff_lt-mul form.0).1 b

  used-in : i % per < used (block_at log (i / per))
  used-in =
      let d = div-add-mod i per in
      let x = mod-lt i form.0 in
      ⊎_elim
      (λ (e : suc (i / per) ≡ blocks_in log). let l = length-list per form log good (i / per) (omega arith) in omega arith)
      (λ (m : suc (i / per) < blocks_in log). let u = used-full per form log good (i / per) (omega arith) in omega arith)
      (eq-or-lt_of_le block_in)

  pub log-record : part log (place_in per i) 32 ≡ record_at (list_of log) i
  log-record =
      let k = i / per in
      let j = i % per in
      let b = block_at log k in
      let u = used-in in
      let most = used-most per form log good k block_in in
      let d : per * k + j ≡ i = div-add-mod i per in
      let e : 32 * i ≡ 32 * (per * k) + 32 * j = omega arith in
      let in-log : part b (32 * j) 32 ≡ part log (512 * k + 32 * j) 32 = part-part log (512 * k) 512 (32 * j) 32 (omega arith) in
      let in_block : part (records_at log k) (32 * j) 32 ≡ part b (0 + 32 * j) 32 = part-part b 0 (32 * used b) (32 * j) 32 (omega arith) in
      let in_list : part (part_of per (list_of log) k) (32 * j) 32 ≡ part (list_of log) (32 * (per * k) + 32 * j) 32 = part-part (list_of log) (32 * (per * k)) (32 * per) (32 * j) 32 (omega arith) in
      ap (λ (x : ℕ). part log x 32) (place_is per i form.0) ∙ sym in-log ∙ ap (λ (x : ℕ). part b x 32) (sym (zero-add (32 * j))) ∙ sym in_block
      ∙ ap (λ (l : List ℕ). part l (32 * j) 32) (sym (part-list per form log good k block_in)) ∙ in_list ∙ ap (λ (x : ℕ). part (list_of log) x 32) (sym e)

  pub log-within : place_in per i + 32 ≤ length log
  log-within =
      let b = block_in in
      let m = mod-lt i form.0 in
      let p = place_is per i form.0 in
      omega arith

pub log-via : (s : Settings) (per : ℕ) (form : Records per) (log : List ℕ) → first_bad_block per log ≡ blocks_in log
    → records_via s per log (records_in (list_of log)) ≡ records_of s (list_of log)
unfolding records_of
log-via s per form log good = same-via s per log (list_of log) (records_in (list_of log)) (log-record per form log good)

-- what was asked of each record of a walk, said of the records that it meets
pub via-fits : (s : Settings) (per : ℕ) (b : List ℕ) (n : ℕ) → ((i : ℕ) → i < n → well_formed s (part b (place_in per i) 32) ≡ true)
    → (i : ℕ) → i < length (records_via s per b n) → record_fits s (record_in (records_via s per b n) i) ≡ true
via-fits s per b n h i l =
    let m : i < n = rw length-via at l in
    ap (record_fits s) (via-at s per b n i _ m) ∙ known-fits s (part b (place_in per i) 32) (h i m)

-- the places of a list lie within it, and its records are well formed where none is bad
pub list-within : (l : List ℕ) (i : ℕ) → i < records_in l → place_in 0 i + 32 ≤ length l
unfolding place_in
list-within l i h = omega arith

pub list-formed : (s : Settings) (l : List ℕ) → first_bad s l ≡ records_in l → (i : ℕ) → i < records_in l → well_formed s (part l (place_in 0 i) 32) ≡ true
unfolding first_bad place_in
list-formed s l e i h = first-before (λ i. well_formed s (record_at l i)) (records_in l) i (rw e h)

-- the same of a log whose blocks are right
pub log-formed : (s : Settings) (per : ℕ) (form : Records per) (log : List ℕ) → first_bad_block per log ≡ blocks_in log
    → first_bad s (list_of log) ≡ records_in (list_of log) → (i : ℕ) → i < records_in (list_of log) → well_formed s (part log (place_in per i) 32) ≡ true
unfolding first_bad
log-formed s per form log good e i h =
    ap (well_formed s) (log-record per form log good i h) ∙ first-before (λ i. well_formed s (record_at (list_of log) i)) (records_in (list_of log)) i (rw e h)

-- a log has fewer records than bytes by far
pub log-few : (per : ℕ) (form : Records per) (log : List ℕ) → first_bad_block per log ≡ blocks_in log → 34 * records_in (list_of log) ≤ length log
log-few per form log good =
    let e = list-blocks per form log good in
    let o : records_in (list_of log) ≤ per * blocks_in log = rw e at (count-over per (records_in (list_of log)) form.0) in
    let m : per * blocks_in log ≤ 15 * blocks_in log = mul-le-mul_right (blocks_in log) form.1 in
    omega arith
