-- The device model (document 01, "Banks", "Write buffer", "What is turned back"): what a record that breaks no rule does.
-- Assumes nothing.
use Rattle.std.specs.Prelude.{ℕ, ◌+◌, ◌%◌, Bool, cond, ◌&&◌, List, eqb, ltb, Option, None, Some}
use Rattle.packet.specs.declared.RowPacket.{RowPacket}
use Rattle.packet.specs.declared.RowPacket.TheVariants.{Act, Prer, Refa, Refp}
use Rattle.packet.specs.declared.ColPacket.{ColPacket}
use Rattle.packet.specs.declared.ColPacket.TheVariants.{Nocop, Wr, Rd}
use Rattle.record.specs.declared.Dualoct.{Dualoct}
use Rattle.record.specs.declared.Record.{Record}
use Rattle.record.specs.declared.Record.TheVariants.{RowAt, ColAt, DataOf}
use Rattle.spec_rules.specs.declared.Bank.{Bank}
use Rattle.spec_rules.specs.declared.Bank.TheVariants.{Closed, Open, Refresh}
use Rattle.spec_rules.specs.declared.Write.{Write}
use Rattle.spec_rules.specs.declared.Channel.{Channel}
use Rattle.spec_rules.specs.Neighbour.{Context}
use Rattle.spec_rules.specs.History.{two}
use Rattle.spec_rules.specs.Channel.{fresh, state_of, waiting_of, leaving_of, after}
use Rattle.spec_state.specs.Valid.{channel_valid}
use Rattle.spec_model.specs.declared.ModelState.{ModelState}
use Rattle.spec_model.specs.Store.{dualoct_at, dualoct, dualoct_bytes, masked}

-- "The model's REFR starts at 0"; "A fresh model or checker has every bank closed, the buffer empty and no earlier record."
unfoldable pub fresh_model : ModelState
fresh_model = record { channel = fresh; refr = 0; bytes = record { dqa = 0; dqb = 0 }; second = record { dqa = 0; dqb = 0 } }

-- a state that is not refused: REFR is below rows
unfoldable pub model_valid : Context → ModelState → Bool
model_valid cx m = channel_valid cx m.channel && ltb m.refr cx.settings.rows

-- ---- the write buffer

-- the row open in a bank
unfoldable pub open_row : Bank → ℕ
open_row Closed = 0
open_row (Open r) = r
open_row Refresh = 0

abbrev pub col_mask : ColPacket → ℕ
col_mask (Nocop m) = m
col_mask (Wr b c m x) = m
col_mask (Rd b c m x) = m

-- "under the mask carried by that packet, or whole if M = 0"
unfoldable pub retire_mask : Record → ℕ
retire_mask (RowAt t p) = 0xFFFF
retire_mask (ColAt t p) = col_mask p
retire_mask (DataOf t d) = 0xFFFF

-- the write that a record retires
unfoldable pub retired_write : Context → ModelState → Record → Option Write
retired_write cx m r = leaving_of cx m.channel r

-- a waiting write done in a store: "to the row open in its bank, under the mask"
abbrev pub retired_to : Context → Channel → Option Write → ℕ → Dualoct → List ℕ → List ℕ
retired_to cx ch None mask d store = store
retired_to cx ch (Some w) mask d store =
    masked store (dualoct_at cx w.bank (open_row (state_of ch w.bank)) w.column) mask (dualoct_bytes d)

-- ---- what a record does

-- the store after a record
unfoldable pub store_next : Context → ModelState → Record → List ℕ → List ℕ
store_next cx m r store = retired_to cx m.channel (retired_write cx m r) (retire_mask r) m.bytes store

-- "The model's REFR [..] rises, modulo rows, after REFA to bank 31."
unfoldable pub refr_by : Context → RowPacket → ℕ → ℕ
refr_by cx (Act b r) refr = refr
refr_by cx (Prer b) refr = refr
refr_by cx (Refa b) refr = cond (eqb b 31) ((refr + 1) % cx.settings.rows) refr
refr_by cx (Refp b) refr = refr

unfoldable pub refr_next : Context → Record → ℕ → ℕ
refr_next cx (RowAt t p) refr = refr_by cx p refr
refr_next cx (ColAt t p) refr = refr
refr_next cx (DataOf t d) refr = refr

-- the data of the older write after a packet that retires this one: those of the newer move up
abbrev pub bytes_left : Option Write → Dualoct → Dualoct → Dualoct
bytes_left None older newer = older
bytes_left (Some w) older newer = newer

-- "WR loads it", and its D brings the data, "the second's data beside the first's"
unfoldable pub bytes_next : Context → ModelState → Record → Dualoct
bytes_next cx m (RowAt t p) = m.bytes
bytes_next cx m (ColAt t p) = bytes_left (retired_write cx m (ColAt t p)) m.bytes m.second
bytes_next cx m (DataOf t d) = cond (two (waiting_of m.channel.buffer)) m.bytes d

unfoldable pub second_next : ModelState → Record → Dualoct
second_next m (RowAt t p) = m.second
second_next m (ColAt t p) = m.second
second_next m (DataOf t d) = cond (two (waiting_of m.channel.buffer)) d m.second

-- the model after a record
unfoldable pub model_next : Context → ModelState → Record → ModelState
model_next cx m r =
    record { channel = after cx m.channel r; refr = refr_next cx r m.refr; bytes = bytes_next cx m r; second = second_next m r }

-- ---- what a record answers

-- the dualoct that a packet reads, from the row open in its bank
abbrev pub col_read : Context → Channel → ColPacket → Option ℕ
col_read cx ch (Nocop m) = None
col_read cx ch (Wr b c m x) = None
col_read cx ch (Rd b c m x) = Some (dualoct_at cx b (open_row (state_of ch b)) c)

unfoldable pub read_of : Context → Channel → Record → Option ℕ
read_of cx ch (RowAt t p) = None
read_of cx ch (ColAt t p) = col_read cx ch p
read_of cx ch (DataOf t d) = None
