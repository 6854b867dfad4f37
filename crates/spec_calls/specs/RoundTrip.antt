-- The two round trips of the calls on logs, in the bytes that a caller holds: rdram_log_encode and rdram_log_decode.
-- Assumes nothing.
use Rattle.std.specs.Prelude.{ℕ, ◌*◌, ◌/◌, ◌≤◌, ◌≡◌, List, length, take}
use Rattle.num.specs.Bytes.{Bytes}
use Rattle.spec_calls.specs.Logs.{CopyResult, log_encode_call, log_decode_call}

-- what a call has written to the start of the lent buffer
unfoldable pub blocks_written : CopyResult → List ℕ
blocks_written x = take (512 * x.answer.count) x.lent

unfoldable pub records_written : CopyResult → List ℕ
records_written x = take (32 * x.answer.count) x.lent

-- a call is accepted with so many blocks or records
abbrev pub Counts : CopyResult → ℕ → Type 0
Counts x n = x.answer ≡ record { number = 0; place = 0; count = n }

pub record LogRoundTrips : Type 0 where
  -- from a list that is accepted into a log: the blocks written are accepted into any room for the list, and are decoded to the list
  pub list_back : (settings list log room : List ℕ) → (log_encode_call settings list log).answer.number ≡ 0 → length list ≤ length room
      → let back : CopyResult = log_decode_call settings (blocks_written (log_encode_call settings list log)) room in
      Counts back (length list / 32) × (records_written back ≡ list)
  -- from a log that is accepted into a list: the records written are accepted into any room for the log, and are encoded to the log
  pub log_back : (settings log list room : List ℕ) → Bytes log → (log_decode_call settings log list).answer.number ≡ 0 → length log ≤ length room
      → let back : CopyResult = log_encode_call settings (records_written (log_decode_call settings log list)) room in
      Counts back (length log / 512) × (blocks_written back ≡ log)
