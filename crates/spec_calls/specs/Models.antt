-- What the model's calls answer and leave in every lent buffer: rdram_model_fresh and rdram_model_step.
-- Assumes nothing.
use Rattle.std.specs.Prelude.{ℕ, cond, List, length, Err, Ok, Result}
use Rattle.settings.specs.declared.Settings.{Settings as Figures}
use Rattle.record.specs.declared.Refusal.{Refusal}
use Rattle.record.specs.declared.Refusal.TheVariants.{Settings}
use Rattle.record.specs.Refusal.{answer_of}
use Rattle.spec_rules.specs.Neighbour.{Context, context_of}
use Rattle.spec_model.specs.declared.ModelState.{ModelState}
use Rattle.spec_model.specs.Model.{fresh_model}
use Rattle.spec_model.specs.ModelBytes.{model_length, model_bytes, model_in, model_right}
use Rattle.spec_model.specs.Step.{step_answer, step_model, step_store, step_room}
use Rattle.spec_calls.specs.declared.StepAnswer.{StepAnswer}
use Rattle.spec_calls.specs.Settings.{under_settings}
use Rattle.spec_calls.specs.Plans.{FreshResult, fresh_into}
use Rattle.spec_model.specs.declared.Event.TheVariants.{Neither, Read, Retired}
use Rattle.spec_model.specs.declared.Event.{Event}

unfoldable pub model_fresh : List ℕ → FreshResult
model_fresh model = fresh_into model_length (model_bytes fresh_model) model

-- a model call's answer in numbers: event 0 neither, 1 read, 2 retired with the number of bytes that were written. A call on one
-- record names no place.
unfoldable pub stepped_answer : Result Event Refusal → StepAnswer
stepped_answer (Err why) = record { number = (answer_of why).number; rule = (answer_of why).rule; event = 0; bytes = 0 }
stepped_answer (Ok Read) = record { number = 0; rule = 0; event = 1; bytes = 0 }
stepped_answer (Ok (Retired n)) = record { number = 0; rule = 0; event = 2; bytes = n }
stepped_answer (Ok Neither) = record { number = 0; rule = 0; event = 0; bytes = 0 }

-- the answer, and the bytes of model, store and answer buffer at exit
pub record StepResult : Type 0 where
  pub answer : StepAnswer
  pub model : List ℕ
  pub store : List ℕ
  pub room : List ℕ

-- of a model, a store, a record and an answer buffer as they are lent
module _ (model store given room : List ℕ) where
  -- "A refusal returns its number, with the rule [..], and changes no lent buffer."
  abbrev pub step_refused : Refusal → StepResult
  step_refused why = record { answer = stepped_answer (Err why); model = model; store = store; room = room }

  -- a record that is taken, with what it did
  abbrev pub step_taken : Context → ModelState → Result Event Refusal → StepResult
  step_taken cx m did =
      record {
        answer = stepped_answer did;
        model = model_bytes (step_model cx m (length store) given (length room));
        store = step_store cx m store given (length room);
        room = step_room cx m store given room;
      }

  abbrev pub step_by : Context → ModelState → Result Event Refusal → StepResult
  step_by cx m (Err why) = step_refused why
  step_by cx m (Ok Read) = step_taken cx m (Ok Read)
  step_by cx m (Ok (Retired n)) = step_taken cx m (Ok (Retired n))
  step_by cx m (Ok Neither) = step_taken cx m (Ok Neither)

  -- 1 for a model's bytes that are no state under the settings, then 9, 13, 10, 11, 8
  unfoldable pub step_under : Figures → StepResult
  step_under s =
      let cx : Context = context_of s in
      let m : ModelState = model_in model in
      cond (model_right cx model) (step_by cx m (step_answer cx m (length store) given (length room))) (step_refused Settings)

unfoldable pub step_call : List ℕ → List ℕ → List ℕ → List ℕ → List ℕ → StepResult
step_call settings model store given room = under_settings settings (step_refused model store given room) (step_under model store given room)
