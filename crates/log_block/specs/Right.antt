-- The tests that every call on a whole log makes (document 01, "What is turned back"), with what comes of a refusal and of a log
-- that passes.
-- Assumes nothing.
use Rattle.std.specs.Prelude.{ℕ, ◌%◌, cond, List, length, ◌==◌}
use Rattle.settings.specs.declared.Settings.{Settings}
use Rattle.record.specs.declared.Refusal.{Refusal}
use Rattle.record.specs.declared.Refusal.TheVariants.{Word, Block, Length}
use Rattle.record.specs.Record.{first_bad, records_in}
use Rattle.log_block.specs.Block.{blocks_in, first_bad_block, list_of}

module _ {R : Type 0} (refused : Refusal → R) where
  -- "13 length: not whole requests, records or blocks": of parts of so many bytes
  abbrev pub whole_in : ℕ → List ℕ → R → R
  whole_in size b next = cond (length b % size == 0) next (refused Length)

  -- "12 names the first bad block": of a log of blocks of so many records
  abbrev pub right_blocks : ℕ → List ℕ → R → R
  right_blocks per log next = cond ((first_bad_block per log) == (blocks_in log)) next (refused (Block (first_bad_block per log)))

  -- "the others the first bad record, from 0": 10
  abbrev pub right_records : Settings → List ℕ → R → R
  right_records s list next = cond (first_bad s list == records_in list) next (refused (Word (first_bad s list)))

  -- "A whole list is tested [..] for 12, then for 10": the blocks of a log, then the list that it keeps
  abbrev pub right_log : ℕ → Settings → List ℕ → R → R
  right_log per s log next = right_blocks per log (right_records s (list_of log) next)
