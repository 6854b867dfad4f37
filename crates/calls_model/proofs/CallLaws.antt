-- A model call under accepted settings: what it answers and leaves, by whether the model's bytes are right.
-- Assumes nothing.
use Rattle.std.specs.Prelude.{Err, Ok, Result}
use Prim.Native.Nat.{ℕ}
use mathlib.Core.Path.{◌≡◌, refl}
use mathlib.Core.Bool.{true, false}
use mathlib.Core.List.{List}
use borrow.Author.Tests.{ne_eqb}
use lib.ListN.{length}
use Rattle.num.specs.Bytes.{Bytes}
use Rattle.num.proofs.SpliceLaws.{splice-none}
use Rattle.settings.specs.declared.Settings.{Settings}
use Rattle.record.specs.declared.Refusal.TheVariants as refusal
use Rattle.spec_rules.specs.Neighbour.{context_of}
use Rattle.spec_model.specs.ModelBytes.{model_length, model_bytes, model_in, model_right}
use Rattle.spec_model.specs.Step.{step_answer, is_taken, step_model, step_store, step_room}
use Rattle.spec_model.proofs.ModelRoundTrip.{model-encode-decode}
use Rattle.spec_calls.specs.declared.StepAnswer.{StepAnswer}
use Rattle.spec_calls.specs.Models.{stepped_answer, StepResult, step_by, step_under}
use Rattle.spec_model.specs.declared.Event.TheVariants.{Neither, Read, Retired}
use Rattle.spec_model.specs.declared.Event.{Event}
use Rattle.record.specs.declared.Refusal.{Refusal}

-- what a call answers and leaves, by its result
abbrev pub Leaves : StepResult → StepAnswer → List ℕ → List ℕ → List ℕ → Type 0
Leaves x r after stored left = (r ≡ x.answer) × ((after ≡ x.model) × ((stored ≡ x.store) × (left ≡ x.room)))

module _ (s : Settings) (model store given room : List ℕ) where
  pub turned-back : model_right (context_of s) model ≡ false → (r : StepAnswer) → r ≡ stepped_answer (Err refusal.Settings)
      → Leaves (step_under model store given room s) r model store room
  unfolding step_under
  turned-back h r e = rw h (e, (refl, (refl, refl)))

  pub another-length : (length model ≡ 792 → ⊥) → (r : StepAnswer) → r ≡ stepped_answer (Err refusal.Settings) → Leaves (step_under model store given room s) r model store room
  unfolding model_right model_length
  another-length ne = turned-back (rw (ne_eqb (length model) 792 ne))

  -- of a state that is not refused: a refused call leaves the bytes that it read
  pub stepped : Bytes model → model_right (context_of s) model ≡ true
      → (a : Result Event Refusal) → a ≡ step_answer (context_of s) (model_in model) (length store) given (length room)
      → (after : List ℕ) → after ≡ model_bytes (step_model (context_of s) (model_in model) (length store) given (length room))
      → (stored : List ℕ) → stored ≡ step_store (context_of s) (model_in model) store given (length room)
      → (left : List ℕ) → left ≡ step_room (context_of s) (model_in model) store given room
      → (r : StepAnswer) → r ≡ stepped_answer a → Leaves (step_under model store given room s) r after stored left
  unfolding step_under step_model step_store step_room is_taken
  stepped w h a ea after em stored es left el r er =
      rw (h, er, ea, em, es, el) (go (step_answer (context_of s) (model_in model) (length store) given (length room)) refl)
    where
      go : (a : Result Event Refusal) → step_answer (context_of s) (model_in model) (length store) given (length room) ≡ a
          → Leaves (step_by model store given room (context_of s) (model_in model) a) (stepped_answer a)
          (model_bytes (step_model (context_of s) (model_in model) (length store) given (length room)))
          (step_store (context_of s) (model_in model) store given (length room))
          (step_room (context_of s) (model_in model) store given room)
      go (Err why) e = rw e (refl, (model-encode-decode (context_of s) model w h, (refl, splice-none room 0)))
      go (Ok Read) e = (refl, (refl, (refl, refl)))
      go (Ok (Retired n)) e = (refl, (refl, (refl, refl)))
      go (Ok Neither) e = (refl, (refl, (refl, refl)))
