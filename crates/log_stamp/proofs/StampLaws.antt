-- The stamps of a log: one test for all blocks, what the tests of a stamped log say, and the stamps of a log that was made.
-- Assumes nothing.
use Rattle.std.specs.Prelude.{Err, None, Ok, Option, Result, Some}
use Prim.Native.Nat.{ℕ, zero, suc, ◌+◌, ◌*◌, ◌/◌, ◌%◌, ◌<◌, ◌≤◌}
use mathlib.Core.Path.{◌≡◌, refl, sym, ◌∙◌, ap}
use mathlib.Core.Bool.{Bool, true, false, cond, ◌&&◌, and-false, and-eq-true_iff}
use mathlib.Core.List.{List, [], ◌∷◌}
use native.Mathlib.Omega.{arith}
use borrow.Author.Tests.{eqb-true, eqb-false, eq-eqb, ne_eqb}
use lib.Dec.{eqb}
use lib.ListN.{length, get_or}
use lib.Seq.{ext_get_or}
use Rattle.num.specs.Bytes.{number, part, Bytes}
use Rattle.num.specs.Search.{all_up_to, first_false}
use Rattle.num.proofs.SearchLaws.{all-at, all-intro, first-same, first-at, first-none, first-before}
use Rattle.num.proofs.PartLaws.{length_part, part-part}
use Rattle.settings.specs.declared.Settings.{Settings}
use Rattle.settings.specs.Settings.{valid, settings_in, settings_read}
use Rattle.record.specs.declared.Refusal.{Refusal}
use Rattle.record.specs.declared.Refusal.TheVariants.{Block, Word, Stamp}
use Rattle.record.specs.Record.{first_bad, records_in}
use Rattle.log_block.specs.Block.{block_count, log_of, blocks_in, block_at, first_bad_block, list_of}
use Rattle.log_block.proofs.CountLaws.{Records}
use Rattle.log_block.proofs.LogThenList.{log-blocks, stamp-log}
use Rattle.log_stamp.specs.Stamp.{stamp_at, in_range, same_stamp, stamp_right, first_bad_stamp, settings_of, right_stamped}

-- the form of a stamped log
pub fourteen : Records 14
fourteen = (omega arith, omega arith)

-- ---- two stamps

same-is : (a b : List ℕ) → length a ≡ 32 → length b ≡ 32 → same_stamp a b ≡ true → a ≡ b
same-is a b la lb e =
    ext_get_or 0 a b (la ∙ sym lb) (λ i h. eqb-true (get_or a i 0) (get_or b i 0) (all-at (λ i. eqb (get_or a i 0) (get_or b i 0)) 32 i e (omega arith)))

is_same : (a b : List ℕ) → a ≡ b → same_stamp a b ≡ true
is_same a b e = all-intro (λ i. eqb (get_or a i 0) (get_or b i 0)) 32 (λ i h. eq-eqb _ _ (ap (λ (l : List ℕ). get_or l i 0) e))

pub length-stamp : (log : List ℕ) (k : ℕ) → k < blocks_in log → length (stamp_at log k) ≡ 32
length-stamp log k h =
    let b : length (block_at log k) ≡ 512 = length_part log (512 * k) 512 (omega arith) in
    length_part (block_at log k) 448 32 (omega arith)

-- the 32 bytes of a log at which the stamp of block k stands
pub stamp-bytes : (log : List ℕ) (k : ℕ) → part log (512 * k + 448) 32 ≡ stamp_at log k
stamp-bytes log k = sym (part-part log (512 * k) 512 448 32 (omega arith))

-- ---- all stamps of a log

-- where block 0 says settings, only a stamp that differs from its is wrong
pub others-are : (log : List ℕ) → ((blocks_in log ≡ 0 → ⊥) → in_range (settings_read (stamp_at log 0)) ≡ true)
    → first_false (λ k. same_stamp (stamp_at log k) (stamp_at log 0)) (blocks_in log) ≡ first_bad_stamp log
unfolding first_bad_stamp stamp_right
others-are log first = first-same (λ k. same_stamp (stamp_at log k) (stamp_at log 0)) (stamp_right log) (blocks_in log) each
  where
    go : (k : ℕ) → k < blocks_in log → (t : Bool) → same_stamp (stamp_at log k) (stamp_at log 0) ≡ t
        → t ≡ (in_range (settings_read (stamp_at log k)) && t)
    go k h true q =
        let e = same-is (stamp_at log k) (stamp_at log 0) (length-stamp log k h) (length-stamp log 0 (omega arith)) q in
        rw (e, first (λ z. omega arith))
    go k h false q = sym (and-false (in_range (settings_read (stamp_at log k))))

    each : (k : ℕ) → k < blocks_in log → same_stamp (stamp_at log k) (stamp_at log 0) ≡ stamp_right log k
    each k h = go k h (same_stamp (stamp_at log k) (stamp_at log 0)) refl

-- where it says none, it is the first that is wrong
pub none_said : (log : List ℕ) → (blocks_in log ≡ 0 → ⊥) → settings_read (stamp_at log 0) ≡ None → first_bad_stamp log ≡ 0
unfolding first_bad_stamp stamp_right in_range
none_said log h e = first-at (stamp_right log) (blocks_in log) 0 (λ i l. absurd (omega arith)) (omega arith) (rw e)

-- an empty log
no_bytes : (log : List ℕ) → length log ≡ 0 → log ≡ []
no_bytes [] e = refl
no_bytes (x ∷ xs) e = absurd (omega arith)

pub none-there : (log : List ℕ) → length log % 512 ≡ 0 → blocks_in log ≡ 0 → settings_of log ≡ settings_in []
none-there log w e = ap settings_of (no_bytes log (omega arith))

-- what block 0 says: of a log that has a block it is read from its stamp, and an empty log has some settings
abbrev said_of : List ℕ → Option Settings
said_of log = cond (eqb (blocks_in log) 0) (Some (settings_of log)) (settings_read (stamp_at log 0))

-- settings that are read are those that the bytes say
read_is : (b : List ℕ) (s : Settings) → settings_read b ≡ Some s → s ≡ settings_in b
unfolding settings_read
read_is b s = go (eqb (length b) 32 && valid (settings_in b))
  where
    go : (t : Bool) → cond t (Some (settings_in b)) None ≡ Some s → s ≡ settings_in b
    go true e = cc
    go false e = absurd (let z : ◌≡◌ {A = ℕ} 0 1 = cc in omega arith)

pub said-range : (log : List ℕ) (s : Settings) → said_of log ≡ Some s → (blocks_in log ≡ 0 → ⊥) → in_range (settings_read (stamp_at log 0)) ≡ true
unfolding in_range
said-range log s e h = let r : settings_read (stamp_at log 0) ≡ Some s = rw (ne_eqb (blocks_in log) 0 h) at e in rw r

pub said-is : (log : List ℕ) (s : Settings) → said_of log ≡ Some s → s ≡ settings_of log
said-is log s = go (eqb (blocks_in log) 0)
  where
    go : (t : Bool) → cond t (Some (settings_of log)) (settings_read (stamp_at log 0)) ≡ Some s → s ≡ settings_of log
    go true e = cc
    go false e = read_is (stamp_at log 0) s e

-- and where it says none, 12 or 17 is answered
pub none-answer : (log : List ℕ) → said_of log ≡ None → (why : Refusal)
    → why ≡ cond (eqb (first_bad_block 14 log) (blocks_in log)) (Stamp 0) (Block (first_bad_block 14 log))
    → Err why ≡ right_stamped Err log Ok
none-answer log e why w = go (eqb (blocks_in log) 0) refl (eqb (first_bad_block 14 log) (blocks_in log)) refl
  where
    go : (t : Bool) → eqb (blocks_in log) 0 ≡ t → (a : Bool) → eqb (first_bad_block 14 log) (blocks_in log) ≡ a
        → Err why ≡ right_stamped Err log Ok
    go true q a p = absurd (let f : Some (settings_of log) ≡ None = rw q at e in let z : ◌≡◌ {A = ℕ} 0 1 = cc in omega arith)
    go false q true p =
        let h = eqb-false (blocks_in log) 0 q in
        let r : settings_read (stamp_at log 0) ≡ None = rw q at e in
        let s = none_said log h r in
        rw (p, s, ne_eqb 0 (blocks_in log) (λ z. h (sym z))) (ap Err (rw p at w))
    go false q false p = rw p (ap Err (rw p at w))

-- stamps that pass are all one, and say the settings of the log
module _ (log : List ℕ) (right : first_bad_stamp log ≡ blocks_in log) where
  each_right : (k : ℕ) → k < blocks_in log → (in_range (settings_read (stamp_at log k)) ≡ true) × (same_stamp (stamp_at log k) (stamp_at log 0) ≡ true)
  unfolding first_bad_stamp stamp_right
  each_right k h = (and-eq-true_iff _ _).0 (first-before (stamp_right log) (blocks_in log) k (omega arith))

  pub stamps-same : (k : ℕ) → k < blocks_in log → stamp_at log k ≡ stamp_at log 0
  stamps-same k h = same-is (stamp_at log k) (stamp_at log 0) (length-stamp log k h) (length-stamp log 0 (omega arith)) (each_right k h).1

  pub stamp-said : 0 < blocks_in log → settings_read (stamp_at log 0) ≡ Some (settings_of log)
  unfolding settings_read in_range
  stamp-said h = go (eqb (length (stamp_at log 0)) 32 && valid (settings_of log)) (each_right 0 h).0
    where
      go : (t : Bool) → in_range (cond t (Some (settings_of log)) None) ≡ true → cond t (Some (settings_of log)) None ≡ Some (settings_of log)
      go true e = refl
      go false e = cc

-- stamps that are all one which says settings pass
pub stamps-right : (log st : List ℕ) (s : Settings) → settings_read st ≡ Some s → ((k : ℕ) → k < blocks_in log → stamp_at log k ≡ st)
    → first_bad_stamp log ≡ blocks_in log
unfolding first_bad_stamp stamp_right in_range
stamps-right log st s e same =
    first-none (stamp_right log) (blocks_in log)
    (λ k h. rw (same k h, same 0 (omega arith), e) (is_same st st refl))

-- so do those of a log that was made with it
pub made-right : (st l : List ℕ) (s : Settings) → settings_read st ≡ Some s → length st ≡ 32 → first_bad_stamp (log_of 14 st l) ≡ blocks_in (log_of 14 st l)
made-right st l s e n =
    let b = log-blocks 14 st (omega arith) (omega arith) l in
    stamps-right (log_of 14 st l) st s e (λ k h. stamp-log 14 st (omega arith) (omega arith) l k (omega arith))

-- ---- the tests of a stamped log

pub record Passed (log : List ℕ) : Type 0 where
  pub right : first_bad_block 14 log ≡ blocks_in log
  pub stamps : first_bad_stamp log ≡ blocks_in log
  pub good : first_bad (settings_of log) (list_of log) ≡ records_in (list_of log)

-- a log that passes them
pub right-passed : (log : List ℕ) (s : Settings) → right_stamped Err log Ok ≡ Ok s → Passed log × (s ≡ settings_of log)
right-passed log s = go (eqb (first_bad_block 14 log) (blocks_in log)) refl (eqb (first_bad_stamp log) (blocks_in log)) refl (eqb (first_bad (settings_of log) (list_of log)) (records_in (list_of log))) refl
  where
    go : (a : Bool) → eqb (first_bad_block 14 log) (blocks_in log) ≡ a → (b : Bool) → eqb (first_bad_stamp log) (blocks_in log) ≡ b
        → (c : Bool) → eqb (first_bad (settings_of log) (list_of log)) (records_in (list_of log)) ≡ c
        → cond a (cond b (cond c (Ok (settings_of log)) (Err (Word (first_bad (settings_of log) (list_of log))))) (Err (Stamp (first_bad_stamp log)))) (Err (Block (first_bad_block 14 log))) ≡ Ok s
        → Passed log × (s ≡ settings_of log)
    go true p true q true r e = (record { right = eqb-true _ _ p; stamps = eqb-true _ _ q; good = eqb-true _ _ r }, cc)
    go true p true q false r e = absurd (let z : ◌≡◌ {A = ℕ} 0 1 = cc in omega arith)
    go true p false q c r e = absurd (let z : ◌≡◌ {A = ℕ} 0 1 = cc in omega arith)
    go false p b q c r e = absurd (let z : ◌≡◌ {A = ℕ} 0 1 = cc in omega arith)

module _ {R : Type 0} (refused : Refusal → R) where
  -- the same refusal, whatever comes of it
  pub right-refused : (log : List ℕ) (why : Refusal) (next : Settings → R) → right_stamped Err log Ok ≡ Err why
      → right_stamped refused log next ≡ refused why
  right-refused log why next =
      go (eqb (first_bad_block 14 log) (blocks_in log)) (eqb (first_bad_stamp log) (blocks_in log)) (eqb (first_bad (settings_of log) (list_of log)) (records_in (list_of log)))
    where
      go : (a b c : Bool)
          → cond a (cond b (cond c (Ok (settings_of log)) (Err (Word (first_bad (settings_of log) (list_of log))))) (Err (Stamp (first_bad_stamp log)))) (Err (Block (first_bad_block 14 log))) ≡ Err why
          → cond a (cond b (cond c (next (settings_of log)) (refused (Word (first_bad (settings_of log) (list_of log))))) (refused (Stamp (first_bad_stamp log)))) (refused (Block (first_bad_block 14 log))) ≡ refused why
      go true true true e = absurd (let z : ◌≡◌ {A = ℕ} 0 1 = cc in omega arith)
      go true true false e = let w : Word (first_bad (settings_of log) (list_of log)) ≡ why = cc in ap refused w
      go true false c e = let w : Stamp (first_bad_stamp log) ≡ why = cc in ap refused w
      go false b c e = let w : Block (first_bad_block 14 log) ≡ why = cc in ap refused w

  -- and no refusal of a log that passes
  pub right-next : (log : List ℕ) (next : Settings → R) → Passed log → right_stamped refused log next ≡ next (settings_of log)
  right-next log next p = rw (eq-eqb _ _ p.right, eq-eqb _ _ p.stamps, eq-eqb _ _ p.good)
