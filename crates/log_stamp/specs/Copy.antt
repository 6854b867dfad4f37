-- Logs that carry their settings to lists, and logs of one form to the other: what each call answers (document 02, request i). What it
-- writes is the log or the list, to the start of the lent buffer (copied).
-- Assumes nothing.
use Rattle.std.specs.Prelude.{ℕ, List, Err, Result}
use Rattle.settings.specs.declared.Settings.{Settings}
use Rattle.log_block.specs.Block.{list_of}
use Rattle.log_list.specs.Log.{blocks_or_full, records_or_full}
use Rattle.log_block.specs.Right.{whole_in, right_log}
use Rattle.log_stamp.specs.Stamp.{right_stamped}
use Rattle.record.specs.declared.Refusal.{Refusal}

-- a stamped log to a list with room for so many bytes: 13, 12, 17, 10, 8
unfoldable pub stamped_decode_answer : List ℕ → ℕ → Result ℕ Refusal
stamped_decode_answer log room = whole_in Err 512 log (right_stamped Err log (λ s. records_or_full (list_of log) room))

-- "Old logs are moved to the new form with settings given": 13, 12, 10, 8. "Moving does not test 11; a log that would need a block
-- number past 32 bits falls under 8."
unfoldable pub stamp_answer : Settings → List ℕ → ℕ → Result ℕ Refusal
stamp_answer s log room = whole_in Err 512 log (right_log Err 15 s log (blocks_or_full 14 (list_of log) room))

-- "and back without them": 13, 12, 17, 10, 8
unfoldable pub unstamp_answer : List ℕ → ℕ → Result ℕ Refusal
unstamp_answer log room = whole_in Err 512 log (right_stamped Err log (λ s. blocks_or_full 15 (list_of log) room))
