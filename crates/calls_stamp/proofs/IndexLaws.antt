-- What the tests before an index of a stamped log, and before a query, say.
-- Assumes nothing.
use Rattle.std.specs.Prelude.{Err, Ok, Result}
use Prim.Native.Nat.{ℕ, ◌*◌, ◌/◌, ◌%◌, ◌<◌, ◌≤◌}
use mathlib.Core.Path.{◌≡◌}
use mathlib.Core.Bool.{cond}
use mathlib.Core.List.{List}
use native.Mathlib.Omega.{arith}
use borrow.Author.Tests.{eqb-true, leb-true, ltb-true}
use lib.Dec.{eqb, leb, ltb}
use lib.ListN.{length}
use Rattle.num.specs.Bytes.{Bytes}
use Rattle.num.specs.Search.{first_false}
use Rattle.settings.specs.declared.Settings.{Settings}
use Rattle.record.specs.declared.Refusal.TheVariants.{Full, Word, Block, Length, Bank, Stamp}
use Rattle.record.specs.Record.{first_bad, records_in}
use Rattle.num.specs.Marks.{count_up_to}
use Rattle.log_block.specs.Block.{blocks_in, first_bad_block, list_of}
use Rattle.spec_index.specs.Index.{index_words, word_right, first_wrong, words_of}
use Rattle.spec_index.specs.Query.{has_bit}
use Rattle.spec_index.specs.Answers.{refused, index_right, count_or_full}
use Rattle.log_index.specs.Form.Fields.{fields_word}
use Rattle.log_index.proofs.make.MakeLaws.{Passed as Made, pick, pick_same, wrong-said}
use Rattle.log_stamp.specs.Stamp.{first_bad_stamp, settings_of, right_stamped}
use Rattle.log_stamp.proofs.StampLaws.{fourteen, Passed}
use Rattle.calls_stamp.specs.Results.{stamped_index_answer, stamped_query_answer}
use Rattle.spec_index.specs.declared.IndexRefusal.TheVariants.{Differs, Refused}
use Rattle.spec_index.specs.declared.IndexRefusal.{IndexRefusal}

-- as the laws of the index ask it
pub made : (log : List ℕ) → Passed log → Made 14 (settings_of log) log
made log p = record { right = p.right; good = p.good }

pick-stamped : (log : List ℕ) (next : Settings → Result ℕ IndexRefusal) (n : ℕ) → right_stamped refused log next ≡ Ok n → Passed log × (next (settings_of log) ≡ Ok n)
pick-stamped log next n e =
    let a = pick (eqb (first_bad_block 14 log) (blocks_in log)) _ (Block (first_bad_block 14 log)) n e in
    let b = pick (eqb (first_bad_stamp log) (blocks_in log)) _ (Stamp (first_bad_stamp log)) n a.1 in
    let c = pick (eqb (first_bad (settings_of log) (list_of log)) (records_in (list_of log))) (next (settings_of log)) (Word (first_bad (settings_of log) (list_of log))) n b.1 in
    (record { right = eqb-true _ _ a.0; stamps = eqb-true _ _ b.0; good = eqb-true _ _ c.0 }, c.1)

pub record Added (log : List ℕ) (kept : ℕ) (index : List ℕ) : Type 0 where
  pub passed : Passed log
  pub same : first_wrong (settings_of log) log index kept ≡ kept
  pub room-enough : 4 * blocks_in log ≤ length index

pub added : (log : List ℕ) (kept : ℕ) (index : List ℕ) (n : ℕ) → stamped_index_answer log kept index ≡ Ok n → Added log kept index
unfolding stamped_index_answer
added log kept index n e =
    let a = pick (eqb (length log % 512) 0) _ Length n e in
    let b = pick-stamped log (λ s. index_right s log index kept (count_or_full (blocks_in log) (length index))) n a.1 in
    let d = pick_same (eqb (first_wrong (settings_of log) log index kept) kept) _ (first_wrong (settings_of log) log index kept) n b.1 in
    let f = pick (leb (blocks_in log) (length index / 4)) (Ok (blocks_in log)) Full n d.1 in
    let g : blocks_in log ≤ length index / 4 = leb-true _ _ f.0 in
    record { passed = b.0; same = eqb-true _ _ d.0; room-enough = omega arith }

pub record Queried (log index : List ℕ) (bank room : ℕ) : Type 0 where
  pub bank-right : bank < 32
  pub room-enough : 4 * count_up_to (has_bit index bank) (index_words index) ≤ room

pub query-passed : (log index : List ℕ) (bank room n : ℕ) → stamped_query_answer log index bank room ≡ Ok n → Queried log index bank room
unfolding stamped_query_answer
query-passed log index bank room n e =
    let many : ℕ = count_up_to (has_bit index bank) (index_words index) in
    let a = pick (eqb (length log % 512) 0) _ Length n e in
    let b = pick (eqb (length index % 4) 0) _ Length n a.1 in
    let c = pick (ltb bank 32) _ Bank n b.1 in
    let d = pick-stamped log (λ s. index_right s log index (words_of log index) (count_or_full many room)) n c.1 in
    let f = pick_same (eqb (first_wrong (settings_of log) log index (words_of log index)) (words_of log index)) (count_or_full many room) (first_wrong (settings_of log) log index (words_of log index)) n d.1 in
    let g = pick (leb many (room / 4)) (Ok many) Full n f.1 in
    let h : many ≤ room / 4 = leb-true _ _ g.0 in
    record { bank-right = ltb-true _ _ c.0; room-enough = omega arith }

-- 14 with words read from the fields
pub beside-said : (log index : List ℕ) → Bytes log → Passed log → (n : ℕ) (x : Result ℕ IndexRefusal)
    → cond (eqb (first_false (word_right fields_word log index) n) n) x (Err (Differs (first_false (word_right fields_word log index) n))) ≡ index_right (settings_of log) log index n x
beside-said log index w p n x = rw (wrong-said (settings_of log) 14 fourteen log w (made log p) index n)
