-- What an accepted call that copies says, and what it leaves in the lent buffer.
-- Assumes nothing.
use Rattle.std.specs.Prelude.{Err, Ok, Result}
use Prim.Native.Nat.{ℕ, ◌*◌, ◌/◌, ◌%◌, ◌^◌, ◌≤◌}
use mathlib.Core.Path.{◌≡◌, refl}
use mathlib.Core.Bool.{Bool, true, false, cond, and-eq-true_iff}
use mathlib.Core.List.{List}
use native.Mathlib.Omega.{arith}
use borrow.Author.Tests.{eqb-true, leb-true}
use lib.Dec.{eqb, leb}
use lib.ListN.{length}
use Rattle.settings.specs.declared.Settings.{Settings}
use Rattle.record.specs.declared.Refusal.{Refusal}
use Rattle.record.specs.declared.Refusal.TheVariants.{Full, Word, Block, Length}
use Rattle.record.specs.Record.{first_bad, records_in}
use Rattle.log_block.specs.Block.{block_count, blocks_in, first_bad_block, list_of}
use Rattle.log_list.specs.Log.{blocks_fit, encode_answer, decode_answer}

-- an accepted call passed each test on its way
pick-count : (t : Bool) (x : Result ℕ Refusal) (r : Refusal) (n : ℕ) → cond t x (Err r) ≡ Ok n → (t ≡ true) × (x ≡ Ok n)
pick-count true x r n e = (refl, e)
pick-count false x r n e = absurd (let z : ◌≡◌ {A = ℕ} 0 1 = cc in omega arith)

pub record Encoded (per : ℕ) (s : Settings) (l : List ℕ) (room n : ℕ) : Type 0 where
  pub whole : length l % 32 ≡ 0
  pub good : first_bad s l ≡ records_in l
  pub room-enough : 512 * block_count per (records_in l) ≤ room
  pub number_fits : block_count per (records_in l) ≤ 2 ^ 32
  pub count-is : n ≡ block_count per (records_in l)

pub encoded : (per : ℕ) (s : Settings) (l : List ℕ) (room n : ℕ) → encode_answer per s l room ≡ Ok n → Encoded per s l room n
unfolding encode_answer
encoded per s l room n e =
    let a = pick-count (eqb (length l % 32) 0) _ Length n e in
    let b = pick-count (eqb (first_bad s l) (records_in l)) _ (Word (first_bad s l)) n a.1 in
    let c = pick-count (blocks_fit per l room) (Ok (block_count per (records_in l))) Full n b.1 in
    let d = (and-eq-true_iff (leb (block_count per (records_in l)) (room / 512)) (leb (block_count per (records_in l)) (2 ^ 32))).0 c.0 in
    let f : block_count per (records_in l) ≤ room / 512 = leb-true _ _ d.0 in
    record {
      whole = eqb-true _ 0 a.0;
      good = eqb-true _ _ b.0;
      room-enough = omega arith;
      number_fits = leb-true _ _ d.1;
      count-is = cc c.1;
    }

pub record Decoded (per : ℕ) (s : Settings) (log : List ℕ) (room n : ℕ) : Type 0 where
  pub whole : length log % 512 ≡ 0
  pub right : first_bad_block per log ≡ blocks_in log
  pub good : first_bad s (list_of log) ≡ records_in (list_of log)
  pub room-enough : 32 * records_in (list_of log) ≤ room
  pub count-is : n ≡ records_in (list_of log)

pub decoded : (per : ℕ) (s : Settings) (log : List ℕ) (room n : ℕ) → decode_answer per s log room ≡ Ok n → Decoded per s log room n
unfolding decode_answer
decoded per s log room n e =
    let a = pick-count (eqb (length log % 512) 0) _ Length n e in
    let b = pick-count (eqb (first_bad_block per log) (blocks_in log)) _ (Block (first_bad_block per log)) n a.1 in
    let c = pick-count (eqb (first_bad s (list_of log)) (records_in (list_of log))) _ (Word (first_bad s (list_of log))) n b.1 in
    let d = pick-count (leb (records_in (list_of log)) (room / 32)) (Ok (records_in (list_of log))) Full n c.1 in
    let f : records_in (list_of log) ≤ room / 32 = leb-true _ _ d.0 in
    record {
      whole = eqb-true _ 0 a.0;
      right = eqb-true _ _ b.0;
      good = eqb-true _ _ c.0;
      room-enough = omega arith;
      count-is = cc d.1;
    }
