-- What an accepted call on a stamped log says.
-- Assumes nothing.
use Rattle.std.specs.Prelude.{Err, Ok, Result}
use Prim.Native.Nat.{ℕ, ◌*◌, ◌/◌, ◌%◌, ◌^◌, ◌≤◌}
use mathlib.Core.Path.{◌≡◌, refl}
use mathlib.Core.Bool.{Bool, true, false, cond, and-eq-true_iff}
use mathlib.Core.List.{List}
use native.Mathlib.Omega.{arith}
use borrow.Author.Tests.{eqb-true, leb-true}
use lib.Dec.{eqb, leb}
use lib.ListN.{length}
use Rattle.settings.specs.declared.Settings.{Settings}
use Rattle.record.specs.declared.Refusal.{Refusal}
use Rattle.record.specs.declared.Refusal.TheVariants.{Full, Word, Block, Length, Stamp}
use Rattle.record.specs.Record.{first_bad, records_in}
use Rattle.log_block.specs.Block.{block_count, blocks_in, first_bad_block, list_of}
use Rattle.log_list.specs.Log.{blocks_fit, blocks_or_full, records_or_full}
use Rattle.log_block.specs.Right.{right_log}
use Rattle.log_stamp.specs.Stamp.{first_bad_stamp, settings_of, right_stamped}
use Rattle.log_stamp.specs.Copy.{stamped_decode_answer, stamp_answer, unstamp_answer}
use Rattle.log_stamp.proofs.StampLaws.{Passed}

-- an accepted call passed each test on its way
pick : (t : Bool) (x : Result ℕ Refusal) (r : Refusal) (n : ℕ) → cond t x (Err r) ≡ Ok n → (t ≡ true) × (x ≡ Ok n)
pick true x r n e = (refl, e)
pick false x r n e = absurd (let z : ◌≡◌ {A = ℕ} 0 1 = cc in omega arith)

-- a stamped log that passes, and what comes of it
pick-stamped : (log : List ℕ) (x : Result ℕ Refusal) (n : ℕ) → right_stamped Err log (λ s. x) ≡ Ok n → Passed log × (x ≡ Ok n)
pick-stamped log x n e =
    let a = pick (eqb (first_bad_block 14 log) (blocks_in log)) _ (Block (first_bad_block 14 log)) n e in
    let b = pick (eqb (first_bad_stamp log) (blocks_in log)) _ (Stamp (first_bad_stamp log)) n a.1 in
    let c = pick (eqb (first_bad (settings_of log) (list_of log)) (records_in (list_of log))) x (Word (first_bad (settings_of log) (list_of log))) n b.1 in
    (record { right = eqb-true _ _ a.0; stamps = eqb-true _ _ b.0; good = eqb-true _ _ c.0 }, c.1)

-- the same refusal of a log of the old form, whatever comes of it
pub old-refused : (s : Settings) (log : List ℕ) (m : ℕ) (why : Refusal) (next : Result ℕ Refusal) → right_log Err 15 s log (Ok m) ≡ Err why
    → right_log Err 15 s log next ≡ Err why
old-refused s log m why next = go (eqb (first_bad_block 15 log) (blocks_in log)) (eqb (first_bad s (list_of log)) (records_in (list_of log)))
  where
    go : (a b : Bool)
        → cond a (cond b (Ok m) (Err (Word (first_bad s (list_of log))))) (Err (Block (first_bad_block 15 log))) ≡ Err why
        → cond a (cond b next (Err (Word (first_bad s (list_of log))))) (Err (Block (first_bad_block 15 log))) ≡ Err why
    go true true e = absurd (let z : ◌≡◌ {A = ℕ} 0 1 = cc in omega arith)
    go true false e = e
    go false b e = e

-- so many blocks have room and numbers
pub record Fits (next : ℕ) (l : List ℕ) (room n : ℕ) : Type 0 where
  pub room-enough : 512 * block_count next (records_in l) ≤ room
  pub number_fits : block_count next (records_in l) ≤ 2 ^ 32
  pub count-is : n ≡ block_count next (records_in l)

blocks-fit : (next : ℕ) (l : List ℕ) (room n : ℕ) → blocks_or_full next l room ≡ Ok n → Fits next l room n
blocks-fit next l room n e =
    let c = pick (blocks_fit next l room) (Ok (block_count next (records_in l))) Full n e in
    let d = (and-eq-true_iff (leb (block_count next (records_in l)) (room / 512)) (leb (block_count next (records_in l)) (2 ^ 32))).0 c.0 in
    let f : block_count next (records_in l) ≤ room / 512 = leb-true _ _ d.0 in
    record { room-enough = omega arith; number_fits = leb-true _ _ d.1; count-is = cc c.1 }

pub record Stamped (s : Settings) (log : List ℕ) (room n : ℕ) : Type 0 where
  pub whole : length log % 512 ≡ 0
  pub right : first_bad_block 15 log ≡ blocks_in log
  pub good : first_bad s (list_of log) ≡ records_in (list_of log)
  pub fits : Fits 14 (list_of log) room n

pub stamped : (s : Settings) (log : List ℕ) (room n : ℕ) → stamp_answer s log room ≡ Ok n → Stamped s log room n
unfolding stamp_answer
stamped s log room n e =
    let a = pick (eqb (length log % 512) 0) _ Length n e in
    let b = pick (eqb (first_bad_block 15 log) (blocks_in log)) _ (Block (first_bad_block 15 log)) n a.1 in
    let c = pick (eqb (first_bad s (list_of log)) (records_in (list_of log))) _ (Word (first_bad s (list_of log))) n b.1 in
    record { whole = eqb-true _ 0 a.0; right = eqb-true _ _ b.0; good = eqb-true _ _ c.0; fits = blocks-fit 14 (list_of log) room n c.1 }

pub record Unstamped (log : List ℕ) (room n : ℕ) : Type 0 where
  pub whole : length log % 512 ≡ 0
  pub passed : Passed log
  pub fits : Fits 15 (list_of log) room n

pub unstamped : (log : List ℕ) (room n : ℕ) → unstamp_answer log room ≡ Ok n → Unstamped log room n
unfolding unstamp_answer
unstamped log room n e =
    let a = pick (eqb (length log % 512) 0) _ Length n e in
    let b = pick-stamped log (blocks_or_full 15 (list_of log) room) n a.1 in
    record { whole = eqb-true _ 0 a.0; passed = b.0; fits = blocks-fit 15 (list_of log) room n b.1 }

pub record Decoded (log : List ℕ) (room n : ℕ) : Type 0 where
  pub whole : length log % 512 ≡ 0
  pub passed : Passed log
  pub room-enough : 32 * records_in (list_of log) ≤ room
  pub count-is : n ≡ records_in (list_of log)

pub decoded : (log : List ℕ) (room n : ℕ) → stamped_decode_answer log room ≡ Ok n → Decoded log room n
unfolding stamped_decode_answer
decoded log room n e =
    let a = pick (eqb (length log % 512) 0) _ Length n e in
    let b = pick-stamped log (records_or_full (list_of log) room) n a.1 in
    let c = pick (leb (records_in (list_of log)) (room / 32)) (Ok (records_in (list_of log))) Full n b.1 in
    let f : records_in (list_of log) ≤ room / 32 = leb-true _ _ c.0 in
    record { whole = eqb-true _ 0 a.0; passed = b.0; room-enough = omega arith; count-is = cc c.1 }
