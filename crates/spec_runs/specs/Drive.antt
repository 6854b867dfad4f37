-- A model that takes the records of a packet list in order (document 01, "Flat memory and whole runs").
-- Assumes nothing.
use Rattle.std.specs.Prelude.{ℕ, ◌+◌, Bool, true, false, not, ◌||◌, cond, List, [], ◌∷◌, ◌++◌, eqb, leb, length, Err, Ok, Result}
use Rattle.record.specs.declared.Record.{Record}
use Rattle.record.specs.declared.Refusal.{Refusal}
use Rattle.record.specs.Refusal.{answer_of}
use Rattle.record.specs.Record.{record_bytes, record_read}
use Rattle.spec_rules.specs.Neighbour.{Context}
use Rattle.spec_rules.specs.Packets.{traits}
use Rattle.spec_rules.specs.History.{has}
use Rattle.spec_model.specs.declared.ModelState.{ModelState}
use Rattle.spec_model.specs.Model.{fresh_model}
use Rattle.spec_model.specs.Step.{step_answer, step_model, step_store, bytes_by}
use Rattle.spec_runs.specs.Count.{written_by}
use Rattle.spec_model.specs.declared.Event.TheVariants.{Neither, Read, Retired}
use Rattle.spec_model.specs.declared.Event.{Event}

-- the model and the store, the dualocts that it has returned, the sum of the numbers of bytes that it has said were written, the
-- records that it has not taken yet, and whether a call was refused for another reason than 8
pub record Drive : Type 0 where
  pub model : ModelState
  pub store : List ℕ
  pub answers : List (List ℕ)
  pub written : ℕ
  pub pending : List Record
  pub failed : Bool

-- "The fresh model, with any bytes of the right length as store, takes the records of that packet list in order"
unfoldable pub started : List ℕ → List Record → Drive
started store l = record { model = fresh_model; store = store; answers = []; written = 0; pending = l; failed = false }

-- the dualocts of an answer
unfoldable pub returned : Result Event Refusal → List ℕ → List (List ℕ)
returned (Err why) b = []
returned (Ok Read) b = b ∷ []
returned (Ok (Retired n)) b = []
returned (Ok Neither) b = []

-- "A model call refused 8 has taken no record, and the same record comes again until a call has room for its answer."
unfoldable pub left_by : Result Event Refusal → Record → List Record → List Record
left_by (Err why) r l = r ∷ l
left_by (Ok Read) r l = l
left_by (Ok (Retired n)) r l = l
left_by (Ok Neither) r l = l

abbrev pub is_full : Refusal → Bool
is_full why = eqb (answer_of why).number 8

unfoldable pub fails : Result Event Refusal → Bool
fails (Err why) = not (is_full why)
fails (Ok Read) = false
fails (Ok (Retired n)) = false
fails (Ok Neither) = false

-- a call with so many bytes for the answer, "each call with the model and store that the last one left"
unfoldable pub called_on : Context → ℕ → Drive → Record → List Record → Drive
called_on cx room x r l =
    let b : List ℕ = record_bytes cx.settings r in
    let a : Result Event Refusal = step_answer cx x.model (length x.store) b room in
    record {
      model = step_model cx x.model (length x.store) b room;
      store = step_store cx x.model x.store b room;
      answers = x.answers ++ returned a (bytes_by cx x.model (record_read cx.settings b) x.store);
      written = x.written + written_by a;
      pending = left_by a r l;
      failed = x.failed || fails a;
    }

unfoldable pub called : Context → ℕ → Drive → List Record → Drive
called cx room x [] = x
called cx room x (r ∷ l) = called_on cx room x r l

-- model calls, one for each of these rooms
unfoldable pub driven : Context → List ℕ → Drive → Drive
driven cx [] x = x
driven cx (room ∷ rooms) x = driven cx rooms (called cx room x x.pending)

-- how many of the calls have 16 bytes, which is "room for [the] answer" of any record
unfoldable pub wide_calls : List ℕ → ℕ
wide_calls [] = 0
wide_calls (room ∷ rooms) = cond (leb 16 room) 1 0 + wide_calls rooms

-- "The model returns the dualoct on RD": how many of the records are RD
unfoldable pub reads_in : List Record → ℕ
reads_in [] = 0
reads_in (r ∷ l) = cond (has (traits r).reads) 1 0 + reads_in l
