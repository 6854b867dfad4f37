-- What a record that breaks no rule asks of the store, as the code decides it before it touches the store. The laws in proofs/ say
-- that this is what the model's definitions do.
-- Assumes nothing.
use Rattle.std.specs.Prelude.{ℕ, zero, suc, ◌+◌, ◌<◌, ◌^◌, cond, List, [], leb, get_or, set, Option, None, Some, Err, Ok, Result}
use Rattle.num.specs.Bytes.{number, part}
use Rattle.packet.specs.declared.ColPacket.{ColPacket}
use Rattle.packet.specs.declared.ColPacket.TheVariants.{Nocop, Wr, Rd}
use Rattle.record.specs.declared.Dualoct.{Dualoct}
use Rattle.record.specs.declared.Place.{Place}
use Rattle.record.specs.declared.Record.{Record}
use Rattle.record.specs.declared.Record.TheVariants.{RowAt, ColAt, DataOf}
use Rattle.record.specs.declared.Refusal.TheVariants.{Full}
use Rattle.spec_rules.specs.declared.Bank.{Bank}
use Rattle.spec_rules.specs.declared.Write.{Write}
use Rattle.spec_rules.specs.Neighbour.{Context}
use Rattle.spec_model.specs.Store.{dualoct_at, dualoct, dualoct_bytes, governs, masked, ones}
use Rattle.spec_model.specs.Model.{open_row}
use Rattle.model_store.specs.declared.Touch.{Touch}
use Rattle.model_store.specs.declared.Touch.TheVariants.{Nothing, Reads, Retires}
use Rattle.spec_model.specs.declared.Event.TheVariants.{Neither, Read, Retired}
use Rattle.spec_model.specs.declared.Event.{Event}
use Rattle.record.specs.declared.Refusal.{Refusal}

-- ---- from a record: the bank that it names is in one state, the bank of the write that it retires in another

abbrev pub write_place : Write → Bank → Place
write_place w held = record { bank = w.bank; row = open_row held; column = w.column }

unfoldable pub retire_touch : Option Write → Bank → ℕ → Touch
retire_touch None held mask = Nothing
retire_touch (Some w) held mask = Retires (write_place w held) mask

unfoldable pub col_touch : ColPacket → Option Write → Bank → Bank → Touch
col_touch (Nocop m) leaving own held = retire_touch leaving held m
col_touch (Wr b c m x) leaving own held = retire_touch leaving held m
col_touch (Rd b c m x) leaving own held = Reads (record { bank = b; row = open_row own; column = c })

unfoldable pub touch_of : Record → Option Write → Bank → Bank → Touch
touch_of (RowAt t p) leaving own held = Nothing
touch_of (ColAt t p) leaving own held = col_touch p leaving own held
touch_of (DataOf t d) leaving own held = Nothing

-- ---- what it does

module _ (cx : Context) where
  abbrev pub place_at : Place → ℕ
  place_at p = dualoct_at cx p.bank p.row p.column

  -- a place of the store, and a mask of 16 bits
  unfoldable pub PlaceIn : Place → Type 0
  PlaceIn p = (p.bank < 32) × (p.row < cx.settings.rows) × (p.column < cx.settings.columns)

  unfoldable pub TouchIn : Touch → Type 0
  TouchIn Nothing = Unit {0}
  TouchIn (Reads p) = PlaceIn p
  TouchIn (Retires p mask) = PlaceIn p × (mask < 2 ^ 16)

  unfoldable pub touch_store : Touch → Dualoct → List ℕ → List ℕ
  touch_store Nothing d store = store
  touch_store (Reads p) d store = store
  touch_store (Retires p mask) d store = masked store (place_at p) mask (dualoct_bytes d)

  -- the bytes that go to the answer buffer, which has so much room
  unfoldable pub touch_bytes : Touch → List ℕ → ℕ → List ℕ
  touch_bytes Nothing store room = []
  touch_bytes (Reads p) store room = cond (leb 16 room) (dualoct store (place_at p)) []
  touch_bytes (Retires p mask) store room = []

unfoldable pub touch_answer : Touch → ℕ → Result Event Refusal
touch_answer Nothing room = Ok Neither
touch_answer (Reads p) room = cond (leb 16 room) (Ok Read) (Err Full)
touch_answer (Retires p mask) room = Ok (Retired (ones mask))

-- ---- dualocts in bytes

-- the dualoct from a place on
unfoldable pub dualoct_in : List ℕ → ℕ → Dualoct
dualoct_in b at = record { dqa = number (part b at 8); dqb = number (part b (at + 8) 8) }

-- the first n bytes from a place on become new ones where the mask has a 1
unfoldable pub masked_up_to : List ℕ → ℕ → ℕ → List ℕ → ℕ → List ℕ
masked_up_to store at mask new zero = store
masked_up_to store at mask new (suc n) =
    cond (governs mask n) (set (masked_up_to store at mask new n) (at + n) (get_or new n 0)) (masked_up_to store at mask new n)
