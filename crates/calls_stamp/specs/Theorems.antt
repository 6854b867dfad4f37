-- What the calls on logs that carry their settings promise together (document 02, request i), in the bytes that a caller holds.
-- Assumes nothing.
use Rattle.std.specs.Prelude.{ℕ, ◌/◌, ◌<◌, ◌≤◌, ◌≡◌, List, length, Some}
use Rattle.num.specs.Bytes.{splice, Bytes}
use Rattle.settings.specs.declared.Settings.{Settings}
use Rattle.settings.specs.Settings.{settings_read}
use Rattle.log_block.specs.Block.{blocks_in}
use Rattle.spec_index.specs.Index.{index_of}
use Rattle.log_stamp.specs.Stamp.{stamp_at}
use Rattle.spec_calls.specs.Checks.{check_call}
use Rattle.spec_calls.specs.Logs.{CopyResult}
use Rattle.spec_calls.specs.RoundTrip.{blocks_written, records_written, Counts}
use Rattle.calls_stamp.specs.Results.{stamped_encode_call, stamped_decode_call, stamp_call, unstamp_call, stamped_check_call, stamped_index_call, stamped_query_call}

-- the settings of a log that has a block are these
abbrev pub Carries : List ℕ → List ℕ → Type 0
Carries log settings = 0 < blocks_in log → stamp_at log 0 ≡ settings

pub record StampedCalls : Type 0 where
  -- a list that is encoded is decoded from its blocks, in any room for it
  pub list_back : (settings list log room : List ℕ) → (stamped_encode_call settings list log).answer.number ≡ 0 → length list ≤ length room
      → let back : CopyResult = stamped_decode_call (blocks_written (stamped_encode_call settings list log)) room in
      Counts back (length list / 32) × (records_written back ≡ list)
  -- a log that is decoded is encoded from its records, given the same settings
  pub log_back : (settings log list room : List ℕ) (s : Settings) → settings_read settings ≡ Some s → Carries log settings → Bytes log
      → (stamped_decode_call log list).answer.number ≡ 0 → length log ≤ length room
      → let back : CopyResult = stamped_encode_call settings (records_written (stamped_decode_call log list)) room in
      Counts back (length log / 512) × (blocks_written back ≡ log)
  -- "old to new to old returns the same bytes"
  pub old-new-old : (settings log out room : List ℕ) → Bytes log → (stamp_call settings log out).answer.number ≡ 0 → length log ≤ length room
      → let back : CopyResult = unstamp_call (blocks_written (stamp_call settings log out)) room in
      Counts back (length log / 512) × (blocks_written back ≡ log)
  -- "New to old to new does so given the same settings."
  pub new-old-new : (settings log out room : List ℕ) (s : Settings) → settings_read settings ≡ Some s → Carries log settings → Bytes log
      → (unstamp_call log out).answer.number ≡ 0 → length log ≤ length room
      → let back : CopyResult = stamp_call settings (blocks_written (unstamp_call log out)) room in
      Counts back (length log / 512) × (blocks_written back ≡ log)
  -- the check of a stamped log is the check of its list under its stamp
  pub check-is : (settings list log : List ℕ) → (stamped_encode_call settings list log).answer.number ≡ 0
      → stamped_check_call (blocks_written (stamped_encode_call settings list log)) ≡ check_call settings list
  -- "The index is built afresh": that of a moved log is the index of its blocks under the settings given
  pub index_is : (settings log out index : List ℕ) (s : Settings) → settings_read settings ≡ Some s → (stamp_call settings log out).answer.number ≡ 0
      → let moved : List ℕ = blocks_written (stamp_call settings log out) in
      (stamped_index_call moved 0 index).answer.number ≡ 0 → (stamped_index_call moved 0 index).lent ≡ splice index 0 (index_of s moved)

-- "A refusal [..] changes no lent buffer": of each call that is lent one
pub record RefusedStampedCalls : Type 0 where
  pub encode : (settings list log : List ℕ) → ((stamped_encode_call settings list log).answer.number ≡ 0 → ⊥) → (stamped_encode_call settings list log).lent ≡ log
  pub decode : (log list : List ℕ) → ((stamped_decode_call log list).answer.number ≡ 0 → ⊥) → (stamped_decode_call log list).lent ≡ list
  pub stamp : (settings log out : List ℕ) → ((stamp_call settings log out).answer.number ≡ 0 → ⊥) → (stamp_call settings log out).lent ≡ out
  pub unstamp : (log out : List ℕ) → ((unstamp_call log out).answer.number ≡ 0 → ⊥) → (unstamp_call log out).lent ≡ out
  pub index : (log : List ℕ) (kept : ℕ) (index : List ℕ) → ((stamped_index_call log kept index).answer.number ≡ 0 → ⊥) → (stamped_index_call log kept index).lent ≡ index
  pub query : (log index : List ℕ) (bank : ℕ) (out : List ℕ) → ((stamped_query_call log index bank out).answer.number ≡ 0 → ⊥) → (stamped_query_call log index bank out).lent ≡ out
