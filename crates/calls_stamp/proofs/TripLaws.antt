-- A log that was made with settings passes the tests and says them; the two round trips of each pair of calls.
-- Assumes nothing.
use Rattle.std.specs.Prelude.{Err, None, Ok, Result, Some}
use Prim.Native.Nat.{ℕ, zero, suc, ◌+◌, ◌*◌, ◌/◌, ◌%◌, ◌^◌, ◌<◌, ◌≤◌}
use mathlib.Core.Path.{◌≡◌, refl, sym, ◌∙◌, ap}
use mathlib.Core.Bool.{Bool, true, false, cond, ◌&&◌}
use mathlib.Core.List.{List, []}
use native.Mathlib.Omega.{arith}
use borrow.Author.Tests.{eqb-true, eq-eqb, le-leb}
use lib.Dec.{eqb}
use lib.ListN.{length}
use Rattle.num.specs.Bytes.{Bytes}
use Rattle.num.specs.Search.{first_false}
use Rattle.settings.specs.declared.Settings.{Settings}
use Rattle.settings.specs.Settings.{valid, settings_in, settings_read}
use Rattle.record.specs.Record.{first_bad, records_in}
use Rattle.log_block.specs.Block.{block_count, log_of, blocks_in, first_bad_block, list_of}
use Rattle.log_block.proofs.CountLaws.{Records}
use Rattle.log_block.proofs.LogThenList.{log-whole, log-blocks, log-right, log-then-list, stamp-log}
use Rattle.log_block.proofs.ListThenLog.{list-none, list-whole, list-blocks, blocks-most, list-then-log}
use Rattle.log_list.specs.Log.{encode_answer, blocks_or_full, records_or_full}
use Rattle.log_stamp.specs.Stamp.{stamp_at, settings_of}
use Rattle.log_stamp.specs.Copy.{stamped_decode_answer, stamp_answer, unstamp_answer}
use Rattle.log_stamp.proofs.StampLaws.{fourteen, Passed, made-right, stamps-same, right-next}
use Rattle.calls_stamp.specs.Theorems.{Carries}
use Rattle.record.specs.declared.Refusal.{Refusal}

-- document 01's form
pub fifteen : Records 15
fifteen = (omega arith, omega arith)

-- a record that says settings has 32 bytes, and they are those that it says
pub accepted-is : (b : List ℕ) (s : Settings) → settings_read b ≡ Some s → (length b ≡ 32) × (s ≡ settings_in b)
unfolding settings_read
accepted-is b s = go (eqb (length b) 32) refl (valid (settings_in b))
  where
    go : (t : Bool) → eqb (length b) 32 ≡ t → (v : Bool) → cond (t && v) (Some (settings_in b)) None ≡ Some s → (length b ≡ 32) × (s ≡ settings_in b)
    go true q true e = (eqb-true _ _ q, cc)
    go true q false e = absurd (let z : ◌≡◌ {A = ℕ} 0 1 = cc in omega arith)
    go false q v e = absurd (let z : ◌≡◌ {A = ℕ} 0 1 = cc in omega arith)

-- no record of no list is bad
none-bad : (s : Settings) (l : List ℕ) → l ≡ [] → first_bad s l ≡ records_in l
unfolding first_bad first_false
none-bad s l e = rw e

-- ---- a log that was made

module _ (st : List ℕ) (s : Settings) (says : settings_read st ≡ Some s) (l : List ℕ) (whole : length l % 32 ≡ 0) where
  fits : 32 * 14 + length st ≡ 480
  fits = let e = (accepted-is st s says).0 in omega arith

  pub made-settings : 0 < blocks_in (log_of 14 st l) → settings_of (log_of 14 st l) ≡ s
  made-settings h =
      let b = log-blocks 14 st (omega arith) fits l in
      ap settings_in (stamp-log 14 st (omega arith) fits l 0 (omega arith)) ∙ sym (accepted-is st s says).1

  pub made_list : list_of (log_of 14 st l) ≡ l
  made_list = log-then-list 14 st (omega arith) fits l whole

  -- a list under the settings of its log, or an empty one
  good-under : first_bad s l ≡ records_in l → (n : ℕ) → blocks_in (log_of 14 st l) ≡ n
      → first_bad (settings_of (log_of 14 st l)) (list_of (log_of 14 st l)) ≡ records_in (list_of (log_of 14 st l))
  good-under good zero e = none-bad (settings_of (log_of 14 st l)) (list_of (log_of 14 st l)) (list-none (log_of 14 st l) e)
  good-under good (suc n) e = rw (made_list, made-settings (omega arith)) good

  pub made-passed : first_bad s l ≡ records_in l → block_count 14 (records_in l) ≤ 2 ^ 32 → Passed (log_of 14 st l)
  made-passed good few =
      record {
        right = log-right 14 st (omega arith) fits l whole few;
        stamps = made-right st l s says (accepted-is st s says).0;
        good = good-under good (blocks_in (log_of 14 st l)) refl;
      }

  pub made-whole : length (log_of 14 st l) % 512 ≡ 0
  made-whole = log-whole 14 st (omega arith) fits l

  -- it is decoded to its list
  pub decodes : first_bad s l ≡ records_in l → block_count 14 (records_in l) ≤ 2 ^ 32 → (room : ℕ) → length l ≤ room
      → stamped_decode_answer (log_of 14 st l) room ≡ Ok (records_in l)
  unfolding stamped_decode_answer
  decodes good few room h =
      rw (
        eq-eqb _ 0 made-whole,
        right-next Err (log_of 14 st l) (λ x. records_or_full (list_of (log_of 14 st l)) room) (made-passed good few),
        made_list,
        le-leb (records_in l) (room / 32) (omega arith),
      )

-- ---- a log of the old form that was moved is moved back

module _ (st : List ℕ) (s : Settings) (says : settings_read st ≡ Some s) (old : List ℕ) (w : Bytes old) (whole : length old % 512 ≡ 0)
    (right : first_bad_block 15 old ≡ blocks_in old) (good : first_bad s (list_of old) ≡ records_in (list_of old))
    (few : block_count 14 (records_in (list_of old)) ≤ 2 ^ 32) where
  l : List ℕ
  l = list_of old

  lw : length (list_of old) % 32 ≡ 0
  lw = list-whole 15 fifteen old right

  pub moves-back : (room : ℕ) → length old ≤ room → unstamp_answer (log_of 14 st (list_of old)) room ≡ Ok (blocks_in old)
  unfolding unstamp_answer
  moves-back room h =
      rw (
        eq-eqb _ 0 (made-whole st s says (list_of old) lw),
        right-next Err (log_of 14 st (list_of old)) (λ x. blocks_or_full 15 (list_of (log_of 14 st (list_of old))) room) (made-passed st s says (list_of old) lw good few),
        made_list st s says (list_of old) lw,
        list-blocks 15 fifteen old right,
        le-leb (blocks_in old) (room / 512) (omega arith),
        le-leb (blocks_in old) (2 ^ 32) (blocks-most 15 fifteen old right w),
      )

  pub moved_back : log_of 15 [] (list_of (log_of 14 st (list_of old))) ≡ old
  moved_back = ap (log_of 15 []) (made_list st s says (list_of old) lw) ∙ list-then-log 15 fifteen old right w [] (λ k h. refl) whole

-- ---- a stamped log that was moved or decoded is made again

module _ (st : List ℕ) (s : Settings) (says : settings_read st ≡ Some s) (log : List ℕ) (carries : Carries log st) (w : Bytes log)
    (whole : length log % 512 ≡ 0) (p : Passed log) where
  list_right : length (list_of log) % 32 ≡ 0
  list_right = list-whole 14 fourteen log p.right

  good-said : (n : ℕ) → blocks_in log ≡ n → first_bad s (list_of log) ≡ records_in (list_of log)
  good-said zero e = none-bad s (list_of log) (list-none log e)
  good-said (suc n) e =
      let is : settings_of log ≡ s = ap settings_in (carries (omega arith)) ∙ sym (accepted-is st s says).1 in
      rw is at p.good

  pub made_again : log_of 14 st (list_of log) ≡ log
  made_again =
      list-then-log 14 fourteen log p.right w st (λ k h. stamps-same log p.stamps k h ∙ carries (omega arith)) whole

  pub encodes : (room : ℕ) → length log ≤ room → encode_answer 14 s (list_of log) room ≡ Ok (blocks_in log)
  unfolding encode_answer
  encodes room h =
      rw (
        eq-eqb _ 0 list_right,
        eq-eqb _ _ (good-said (blocks_in log) refl),
        list-blocks 14 fourteen log p.right,
        le-leb (blocks_in log) (room / 512) (omega arith),
        le-leb (blocks_in log) (2 ^ 32) (blocks-most 14 fourteen log p.right w),
      )

  module _ (few : block_count 15 (records_in (list_of log)) ≤ 2 ^ 32) where
    old-list : list_of (log_of 15 [] (list_of log)) ≡ list_of log
    old-list = log-then-list 15 [] (omega arith) refl (list_of log) list_right

    pub moves-again : (room : ℕ) → length log ≤ room → stamp_answer s (log_of 15 [] (list_of log)) room ≡ Ok (blocks_in log)
    unfolding stamp_answer
    moves-again room h =
        rw (
          eq-eqb _ 0 (log-whole 15 [] (omega arith) refl (list_of log)),
          eq-eqb _ _ (log-right 15 [] (omega arith) refl (list_of log) list_right few),
          old-list,
          eq-eqb _ _ (good-said (blocks_in log) refl),
          list-blocks 14 fourteen log p.right,
          le-leb (blocks_in log) (room / 512) (omega arith),
          le-leb (blocks_in log) (2 ^ 32) (blocks-most 14 fourteen log p.right w),
        )

    pub moved-again : log_of 14 st (list_of (log_of 15 [] (list_of log))) ≡ log
    moved-again = ap (log_of 14 st) old-list ∙ made_again
