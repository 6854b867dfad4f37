-- A list of records to a log and back: what each call answers, and what the lent buffer holds after it
-- (document 01, "Blocks" and "What is turned back").
-- Assumes nothing.
use Rattle.std.specs.Prelude.{ℕ, ◌/◌, ◌^◌, Bool, cond, ◌&&◌, List, leb, length, Err, Ok, Result}
use Rattle.num.specs.Bytes.{splice}
use Rattle.settings.specs.declared.Settings.{Settings}
use Rattle.record.specs.declared.Refusal.TheVariants.{Full}
use Rattle.record.specs.Record.{records_in}
use Rattle.log_block.specs.Block.{block_count, log_of, list_of}
use Rattle.log_block.specs.Right.{whole_in, right_records, right_log}
use Rattle.record.specs.declared.Refusal.{Refusal}

-- the lent buffer after a call: what was made goes to its start, and "a refusal changes no lent buffer"
unfoldable pub copied : Result ℕ Refusal → List ℕ → List ℕ → List ℕ
copied (Err r) new old = old
copied (Ok n) new old = splice old 0 new

-- "8 full: fewer free blocks in the lent buffer than the call needs"; a log has no more than 2^32 blocks, since a block
-- number has four bytes
abbrev pub blocks_fit : ℕ → List ℕ → ℕ → Bool
blocks_fit per l room = leb (block_count per (records_in l)) (room / 512) && leb (block_count per (records_in l)) (2 ^ 32)

-- so many blocks, or 8
abbrev pub blocks_or_full : ℕ → List ℕ → ℕ → Result ℕ Refusal
blocks_or_full per l room = cond (blocks_fit per l room) (Ok (block_count per (records_in l))) (Err Full)

-- so many records, or 8
abbrev pub records_or_full : List ℕ → ℕ → Result ℕ Refusal
records_or_full l room = cond (leb (records_in l) (room / 32)) (Ok (records_in l)) (Err Full)

-- a list to a log with room for so many bytes: 13, then 10 with the first bad record, then 8; else the number of blocks
unfoldable pub encode_answer : ℕ → Settings → List ℕ → ℕ → Result ℕ Refusal
encode_answer per s l room = whole_in Err 32 l (right_records Err s l (blocks_or_full per l room))

unfoldable pub encode_log : ℕ → List ℕ → Settings → List ℕ → List ℕ → List ℕ
encode_log per stamp s l log = copied (encode_answer per s l (length log)) (log_of per stamp l) log

-- a log to a list with room for so many bytes: 13, then 12 with the first bad block, then 10 with the first bad record,
-- then 8; else the number of records
unfoldable pub decode_answer : ℕ → Settings → List ℕ → ℕ → Result ℕ Refusal
decode_answer per s log room = whole_in Err 512 log (right_log Err per s log (records_or_full (list_of log) room))

unfoldable pub decode_log : ℕ → Settings → List ℕ → List ℕ → List ℕ
decode_log per s log list = copied (decode_answer per s log (length list)) (list_of log) list
