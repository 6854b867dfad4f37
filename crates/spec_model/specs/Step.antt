-- A model call: one record, the store and a buffer for the answer (document 01, "What is turned back").
-- Assumes nothing.
use Rattle.std.specs.Prelude.{ℕ, Bool, true, false, cond, List, [], eqb, leb, length, Option, None, Some, Err, Ok, Result}
use Rattle.num.specs.Bytes.{splice}
use Rattle.record.specs.declared.Record.{Record}
use Rattle.record.specs.declared.Refusal.TheVariants.{Full, Store, Word, Rule, Length}
use Rattle.record.specs.Record.{record_read}
use Rattle.spec_rules.specs.declared.Write.{Write}
use Rattle.spec_rules.specs.Neighbour.{Context}
use Rattle.spec_rules.specs.Checks.{judged}
use Rattle.spec_model.specs.declared.ModelState.{ModelState}
use Rattle.spec_model.specs.Store.{store_length, dualoct, ones}
use Rattle.spec_model.specs.Model.{retire_mask, retired_write, store_next, model_next, read_of}
use Rattle.spec_model.specs.declared.Event.TheVariants.{Neither, Read, Retired}
use Rattle.spec_model.specs.declared.Event.{Event}
use Rattle.record.specs.declared.Refusal.{Refusal}

-- "the number of bytes a retire wrote (16 where M = 0)": the ones of the mask that retired it
unfoldable pub retire_answer : Option Write → ℕ → Result Event Refusal
retire_answer None mask = Ok Neither
retire_answer (Some w) mask = Ok (Retired (ones mask))

-- "8 full": an RD that passes needs 16 answer bytes
unfoldable pub passed_answer : Option ℕ → Result Event Refusal → ℕ → Result Event Refusal
passed_answer None other room = other
passed_answer (Some k) other room = cond (leb 16 room) (Ok Read) (Err Full)

-- what a record answers: 11 with the lowest rule, then 8
unfoldable pub record_answer : Context → ModelState → Record → ℕ → Result Event Refusal
record_answer cx m r room =
    cond (eqb (judged cx m.channel r) 0)
    (passed_answer (read_of cx m.channel r) (retire_answer (retired_write cx m r) (retire_mask r)) room)
    (Err (Rule (judged cx m.channel r) 0))

unfoldable pub read_answer : Context → ModelState → Option Record → ℕ → Result Event Refusal
read_answer cx m None room = Err (Word 0)
read_answer cx m (Some r) room = record_answer cx m r room

-- the answer to a call: 9, 13, 10, 11, 8
unfoldable pub step_answer : Context → ModelState → ℕ → List ℕ → ℕ → Result Event Refusal
step_answer cx m stored given room =
    cond (eqb stored (store_length cx)) (cond (eqb (length given) 32) (read_answer cx m (record_read cx.settings given) room) (Err Length)) (Err Store)

unfoldable pub is_taken : Result Event Refusal → Bool
is_taken (Err why) = false
is_taken (Ok did) = true

-- whether a call takes its record
abbrev pub taken : Context → ModelState → ℕ → List ℕ → ℕ → Bool
taken cx m stored given room = is_taken (step_answer cx m stored given room)

-- ---- the state, the store and the answer buffer after a call

unfoldable pub model_by : Context → ModelState → Option Record → ModelState
model_by cx m None = m
model_by cx m (Some r) = model_next cx m r

unfoldable pub step_model : Context → ModelState → ℕ → List ℕ → ℕ → ModelState
step_model cx m stored given room = cond (taken cx m stored given room) (model_by cx m (record_read cx.settings given)) m

unfoldable pub store_by : Context → ModelState → Option Record → List ℕ → List ℕ
store_by cx m None store = store
store_by cx m (Some r) store = store_next cx m r store

unfoldable pub step_store : Context → ModelState → List ℕ → List ℕ → ℕ → List ℕ
step_store cx m store given room = cond (taken cx m (length store) given room) (store_by cx m (record_read cx.settings given) store) store

-- the bytes that a record answers: "RD answers the 16 bytes of its dualoct"
unfoldable pub bytes_read : Option ℕ → List ℕ → List ℕ
bytes_read None store = []
bytes_read (Some k) store = dualoct store k

unfoldable pub bytes_by : Context → ModelState → Option Record → List ℕ → List ℕ
bytes_by cx m None store = []
bytes_by cx m (Some r) store = bytes_read (read_of cx m.channel r) store

-- the answer buffer after a call
unfoldable pub step_room : Context → ModelState → List ℕ → List ℕ → List ℕ → List ℕ
step_room cx m store given room =
    splice room 0 (cond (taken cx m (length store) given (length room)) (bytes_by cx m (record_read cx.settings given) store) [])
