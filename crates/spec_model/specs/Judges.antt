-- Model calls in a row, of any bytes: the model that they leave, the records that they took, and what 11 says of one call more.
-- Calls and records have the newest first.
-- Assumes nothing.
use Rattle.std.specs.Prelude.{ℕ, ◌≡◌, cond, List, [], ◌∷◌, ◌++◌, length, None, Option, Some}
use Rattle.record.specs.declared.Record.{Record}
use Rattle.record.specs.Record.{record_read}
use Rattle.spec_rules.specs.Neighbour.{Context}
use Rattle.spec_rules.specs.Broken.{LowestBroken}
use Rattle.spec_model.specs.declared.ModelState.{ModelState}
use Rattle.spec_model.specs.Store.{store_length}
use Rattle.spec_model.specs.Model.{fresh_model}
use Rattle.spec_model.specs.Step.{taken, step_model}

-- one model call: a store, the bytes of a record and an answer buffer, each of any bytes and any length
pub record StepCall : Type 0 where
  pub store : List ℕ
  pub given : List ℕ
  pub room : List ℕ

-- a fresh model after these calls; a refused one leaves it as it was
unfoldable pub model_after : Context → List StepCall → ModelState
model_after cx [] = fresh_model
model_after cx (c ∷ cs) = step_model cx (model_after cx cs) (length c.store) c.given (length c.room)

-- the record that bytes say, where they say one
unfoldable pub record_said : Option Record → List Record
record_said None = []
record_said (Some r) = r ∷ []

-- the records that these calls took
unfoldable pub taken_by : Context → List StepCall → List Record
taken_by cx [] = []
taken_by cx (c ∷ cs) =
    cond (taken cx (model_after cx cs) (length c.store) c.given (length c.room)) (record_said (record_read cx.settings c.given)) []
    ++ taken_by cx cs

-- what 11 with rule n says of a call after the records es: neither 9 nor 13 nor 10 applies, and n is the lowest rule that the
-- record breaks after es
pub record StepBreach (cx : Context) (es : List Record) (stored : ℕ) (given : List ℕ) (n : ℕ) : Type 0 where
  pub sized : stored ≡ store_length cx
  pub whole : length given ≡ 32
  pub it : Record
  pub said : record_read cx.settings given ≡ Some it
  pub lowest : LowestBroken cx es it n
