-- What the checker answers of a whole list of records, and of a whole log (document 01, "What is turned back").
-- Assumes nothing.
use Rattle.std.specs.Prelude.{ℕ, zero, suc, ◌+◌, ◌%◌, ◌<◌, ◌≡◌, true, cond, List, [], ◌∷◌, ◌++◌, eqb, length, Err, None, Ok, Option, Result, Some}
use Rattle.settings.specs.declared.Settings.{Settings}
use Rattle.record.specs.declared.Record.{Record}
use Rattle.record.specs.declared.Record.TheVariants.{DataOf}
use Rattle.record.specs.declared.Refusal.TheVariants.{Rule}
use Rattle.record.specs.Record.{record_read, well_formed, record_at, records_in}
use Rattle.log_block.specs.Block.{block_at, block_right, blocks_in, list_of}
use Rattle.log_block.specs.Right.{whole_in, right_blocks, right_records}
use Rattle.spec_rules.specs.Neighbour.{Context}
use Rattle.spec_rules.specs.Broken.{FirstBreach, rule_at, first_broken}
use Rattle.record.specs.declared.Refusal.{Refusal}

-- the record that was read; bytes that are none have some record, which nothing asks for
unfoldable pub known : Option Record → Record
known None = DataOf (record { 0 = 0 }) (record { dqa = 0; dqb = 0 })
known (Some r) = r

-- the first n records of a list of bytes
unfoldable pub records_up_to : Settings → List ℕ → ℕ → List Record
records_up_to s l zero = []
records_up_to s l (suc n) = records_up_to s l n ++ (known (record_read s (record_at l n)) ∷ [])

-- the records of a list of bytes
unfoldable pub records_of : Settings → List ℕ → List Record
records_of s l = records_up_to s l (records_in l)

-- "11 rule: with the lowest broken rule", of the first record that breaks one
unfoldable pub rule_answer : Context → List Record → Result (Unit {0}) Refusal
rule_answer cx rs =
    cond (eqb (first_broken cx rs) (length rs)) (Ok tt) (Err (Rule (rule_at cx rs (first_broken cx rs)) (first_broken cx rs)))

-- "A whole list is tested [..] for 10, then for 11": of whole records
unfoldable pub records_answer : Context → List ℕ → Result (Unit {0}) Refusal
records_answer cx l = right_records Err cx.settings l (rule_answer cx (records_of cx.settings l))

-- a list of records: 13, then 10, then 11
unfoldable pub list_answer : Context → List ℕ → Result (Unit {0}) Refusal
list_answer cx l = whole_in Err 32 l (records_answer cx l)

-- a log of blocks: 13, then 12, then 10 and 11 of the list that it keeps
unfoldable pub log_answer : Context → List ℕ → Result (Unit {0}) Refusal
log_answer cx log = whole_in Err 512 log (right_blocks Err 15 log (records_answer cx (list_of log)))

-- what 11 with rule n and place j says of a list: whole records, all well formed; record j is the first that breaks a rule, and n
-- the lowest that it breaks
pub record ListBreach (cx : Context) (l : List ℕ) (n j : ℕ) : Type 0 where
  pub whole : length l % 32 ≡ 0
  pub formed : (i : ℕ) → i < records_in l → well_formed cx.settings (record_at l i) ≡ true
  pub breach : FirstBreach cx (records_of cx.settings l) n j

-- and of a log: whole blocks, all right, and so for the list that it keeps
pub record LogBreach (cx : Context) (log : List ℕ) (n j : ℕ) : Type 0 where
  pub whole : length log % 512 ≡ 0
  pub right : (k : ℕ) → k < blocks_in log → block_right 15 k (eqb (k + 1) (blocks_in log)) (block_at log k) ≡ true
  pub kept : ListBreach cx (list_of log) n j
