-- Calls of rdram_model_step in a row, of any bytes: the model's bytes that they leave, and the records that they took. Calls and
-- records have the newest first.
-- Assumes nothing.
use Rattle.std.specs.Prelude.{ℕ, cond, List, [], ◌∷◌, ◌++◌, eqb}
use Rattle.num.specs.Bytes.{Bytes}
use Rattle.settings.specs.declared.Settings.{Settings}
use Rattle.record.specs.declared.Record.{Record}
use Rattle.record.specs.Record.{record_read}
use Rattle.spec_model.specs.Model.{fresh_model}
use Rattle.spec_model.specs.ModelBytes.{model_bytes}
use Rattle.spec_model.specs.Judges.{StepCall, record_said}
use Rattle.spec_calls.specs.Models.{step_call}

-- the model's bytes after these calls, from those that rdram_model_fresh leaves
unfoldable pub model_left : List ℕ → List StepCall → List ℕ
model_left settings [] = model_bytes fresh_model
model_left settings (c ∷ cs) = (step_call settings (model_left settings cs) c.store c.given c.room).model

-- the records of the calls that answered 0, under the settings that the bytes say
unfoldable pub records_accepted : List ℕ → Settings → List StepCall → List Record
records_accepted settings s [] = []
records_accepted settings s (c ∷ cs) =
    cond (eqb (step_call settings (model_left settings cs) c.store c.given c.room).answer.number 0) (record_said (record_read s c.given)) []
    ++ records_accepted settings s cs

-- every record is of bytes
unfoldable pub GivenBytes : List StepCall → Type 0
GivenBytes [] = Unit {0}
GivenBytes (c ∷ cs) = Bytes c.given × GivenBytes cs
