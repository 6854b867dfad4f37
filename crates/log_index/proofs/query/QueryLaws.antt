-- Block numbers as they are listed in turn, and what the tests before a query say.
-- Assumes nothing.
use Rattle.std.specs.Prelude.{Err, Ok, Result}
use Prim.Native.Nat.{ℕ, ◌+◌, ◌*◌, ◌/◌, ◌%◌, ◌<◌, ◌≤◌}
use mathlib.Core.Path.{◌≡◌, sym}
use mathlib.Core.Bool.{Bool, true, false, cond}
use mathlib.Core.List.{List, []}
use native.Mathlib.Omega.{arith}
use borrow.Author.Tests.{eqb-true, eq-eqb, leb-true, ltb-true}
use lib.Dec.{eqb, leb, ltb}
use lib.ListN.{length}
use Rattle.num.specs.Bytes.{bytes, splice, Bytes}
use Rattle.num.proofs.SpliceLaws.{splice-next}
use Rattle.settings.specs.declared.Settings.{Settings}
use Rattle.record.specs.declared.Refusal.{Refusal}
use Rattle.record.specs.declared.Refusal.TheVariants.{Full, Word, Block, Length, Bank}
use Rattle.record.specs.Record.{first_bad, records_in}
use Rattle.num.specs.Marks.{count_up_to}
use Rattle.log_block.specs.Block.{blocks_in, first_bad_block, list_of}
use Rattle.log_block.proofs.CountLaws.{Records}
use Rattle.spec_index.specs.Index.{index_words, words_of, first_wrong}
use Rattle.spec_index.specs.Query.{numbers_where, has_bit}
use Rattle.spec_index.specs.Answers.{index_right, right_beside, count_or_full, query_answer}
use Rattle.spec_index.proofs.ListLaws.{listed_next, length-listed}
use Rattle.log_index.proofs.make.MakeLaws.{Passed, pick, pick_same, wrong-said}
use Rattle.log_index.specs.Form.Beside.{beside_fields}
use Rattle.spec_index.specs.declared.IndexRefusal.TheVariants.{Differs, Refused}
use Rattle.spec_index.specs.declared.IndexRefusal.{IndexRefusal}

-- ---- numbers listed in turn

module _ (f : ℕ → Bool) (l : List ℕ) where
  pub listed-turn : (k : ℕ) → 4 * count_up_to f k ≤ length l → splice (splice l 0 (numbers_where f k)) (4 * count_up_to f k) (cond (f k) (bytes 4 k) []) ≡ splice l 0 (numbers_where f (k + 1))
  listed-turn k h = rw (listed_next f k) (splice-next l (numbers_where f k) (cond (f k) (bytes 4 k) []) (4 * count_up_to f k) (length-listed f k) h)

-- ---- the tests before a query

-- the same refusal, whatever comes after it
module _ (s : Settings) (log index : List ℕ) (m : ℕ) (next : Result ℕ IndexRefusal) where
  beside-tests : (a b d : Bool) (w p q : ℕ) (answer : Result ℕ IndexRefusal) → ((x : ℕ) → answer ≡ Ok x → ⊥)
      → cond a (cond b (cond d (Ok m) (Err (Differs w))) (Err (Refused (Word p)))) (Err (Refused (Block q))) ≡ answer
      → cond a (cond b (cond d next (Err (Differs w))) (Err (Refused (Word p)))) (Err (Refused (Block q))) ≡ answer
  beside-tests true true true w p q answer other e = absurd (other m (sym e))
  beside-tests true true false w p q answer other e = e
  beside-tests true false d w p q answer other e = e
  beside-tests false b d w p q answer other e = e

  beside_same : (answer : Result ℕ IndexRefusal) → ((x : ℕ) → answer ≡ Ok x → ⊥) → right_beside s log index (Ok m) ≡ answer → right_beside s log index next ≡ answer
  beside_same answer other e =
      beside-tests (eqb (first_bad_block 15 log) (blocks_in log)) (eqb (first_bad s (list_of log)) (records_in (list_of log))) (eqb (first_wrong s log index (words_of log index)) (words_of log index))
      (first_wrong s log index (words_of log index)) (first_bad s (list_of log)) (first_bad_block 15 log) answer other e

  pub beside-refused : (why : IndexRefusal) → right_beside s log index (Ok m) ≡ Err why → right_beside s log index next ≡ Err why
  beside-refused why e = beside_same (Err why) (λ x q. absurd (let z : ◌≡◌ {A = ℕ} 0 1 = cc in omega arith)) e

-- an index beside its log that passes
pub record Beside (s : Settings) (log index : List ℕ) : Type 0 where
  pub passed : Passed 15 s log
  pub same : first_wrong s log index (words_of log index) ≡ words_of log index

pub beside-passed : (s : Settings) (log index : List ℕ) (x : Result ℕ IndexRefusal) (n : ℕ) → right_beside s log index x ≡ Ok n → Beside s log index × (x ≡ Ok n)
beside-passed s log index x n e =
    let b = pick (eqb (first_bad_block 15 log) (blocks_in log)) _ (Block (first_bad_block 15 log)) n e in
    let c = pick (eqb (first_bad s (list_of log)) (records_in (list_of log))) _ (Word (first_bad s (list_of log))) n b.1 in
    let d = pick_same (eqb (first_wrong s log index (words_of log index)) (words_of log index)) x (first_wrong s log index (words_of log index)) n c.1 in
    (record { passed = record { right = eqb-true _ _ b.0; good = eqb-true _ _ c.0 }; same = eqb-true _ _ d.0 }, d.1)

pub beside-next : (s : Settings) (log index : List ℕ) (next : Result ℕ IndexRefusal) → Beside s log index → right_beside s log index next ≡ next
beside-next s log index next b = rw (eq-eqb _ _ b.passed.right, eq-eqb _ _ b.passed.good, eq-eqb _ _ b.same)

pub beside-said : (s : Settings) (per : ℕ) → Records per → (log index : List ℕ) → Bytes log → Passed per s log
    → beside_fields log index ≡ index_right s log index (words_of log index) (Ok (index_words index))
unfolding beside_fields
beside-said s per form log index w p = rw (wrong-said s per form log w p index (words_of log index))

-- a query that is accepted
pub record Queried (s : Settings) (log index : List ℕ) (bank room n : ℕ) : Type 0 where
  pub whole : length log % 512 ≡ 0
  pub words : length index % 4 ≡ 0
  pub bank-right : bank < 32
  pub beside : Beside s log index
  pub room-enough : 4 * count_up_to (has_bit index bank) (index_words index) ≤ room
  pub count-is : n ≡ count_up_to (has_bit index bank) (index_words index)

pub query-passed : (s : Settings) (log index : List ℕ) (bank room n : ℕ) → query_answer s log index bank room ≡ Ok n → Queried s log index bank room n
unfolding query_answer
query-passed s log index bank room n e =
    let many : ℕ = count_up_to (has_bit index bank) (index_words index) in
    let a = pick (eqb (length log % 512) 0) _ Length n e in
    let b = pick (eqb (length index % 4) 0) _ Length n a.1 in
    let c = pick (ltb bank 32) _ Bank n b.1 in
    let d = beside-passed s log index (count_or_full many room) n c.1 in
    let f = pick (leb many (room / 4)) (Ok many) Full n d.1 in
    let g : many ≤ room / 4 = leb-true _ _ f.0 in
    record {
      whole = eqb-true _ 0 a.0;
      words = eqb-true _ 0 b.0;
      bank-right = ltb-true _ _ c.0;
      beside = d.0;
      room-enough = omega arith;
      count-is = cc f.1;
    }
