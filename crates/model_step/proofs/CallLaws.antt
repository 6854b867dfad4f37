-- What a model call answers and leaves, refused before its record is judged, or with its record.
-- Assumes nothing.
use Rattle.std.specs.Prelude.{Err, None, Option, Result, Some}
use Prim.Native.Nat.{ℕ}
use mathlib.Core.Path.{◌≡◌, refl, sym, ap, ◌∙◌}
use mathlib.Core.Bool.{true, false}
use mathlib.Core.List.{List}
use native.Mathlib.Omega.{arith}
use lib.ListN.{length}
use borrow.Author.Tests.{eq-eqb, ne_eqb}
use Rattle.num.specs.Bytes.{Bytes, part}
use Rattle.num.proofs.PartLaws.{part-all}
use Rattle.num.proofs.SpliceLaws.{splice-none}
use Rattle.settings.specs.declared.Settings.{Settings}
use Rattle.record.specs.declared.Record.{Record}
use Rattle.record.specs.declared.Refusal.{Refusal}
use Rattle.record.specs.declared.Refusal.TheVariants.{Store, Word, Length}
use Rattle.record.specs.Record.{record_read}
use Rattle.spec_rules.specs.Neighbour.{Context}
use Rattle.spec_model.specs.declared.Event.{Event}
use Rattle.spec_model.specs.declared.ModelState.{ModelState}
use Rattle.spec_model.specs.Store.{store_length}
use Rattle.spec_model.specs.ModelBytes.{model_bytes, model_in, model_right}
use Rattle.spec_model.specs.Step.{record_answer, read_answer, step_answer, is_taken, model_by, step_model, store_by, step_store, bytes_by, step_room}
use Rattle.spec_model.proofs.ModelRoundTrip.{model-encode-decode}
use Rattle.model_step.specs.Form.Take.{take_model, take_store, take_room}
use Rattle.model_step.proofs.TakeLaws.{Takes}

-- what the call answers, and what it leaves of the model's bytes, the store and the answer buffer
pub record Steps (cx : Context) (m : ModelState) (store given room : List ℕ) (a : Result Event Refusal) (after stored left : List ℕ) : Type 0 where
  pub value : a ≡ step_answer cx m (length store) given (length room)
  pub model_after : after ≡ model_bytes (step_model cx m (length store) given (length room))
  pub store_after : stored ≡ step_store cx m store given (length room)
  pub room_after : left ≡ step_room cx m store given room

pub none_of : (q : Option Record) → ((r : Record) → q ≡ Some r → ⊥) → q ≡ None
none_of None n = refl
none_of (Some r) n = absurd (n r refl)

-- the 32 bytes are the record
pub read_whole : (s : Settings) (given : List ℕ) (q : Option Record) → length given ≡ 32 → q ≡ record_read s (part given 0 32) → record_read s given ≡ q
read_whole s given q l e = sym (e ∙ rw (part-all given 32 (omega arith)))

module _ (cx : Context) (b : List ℕ) (w : Bytes b) (h : model_right cx b ≡ true) (store given room : List ℕ) where
  abbrev m : ModelState
  m = model_in b

  -- a refused call leaves the model, the store and the answer buffer
  turned-back : (a : Result Event Refusal) → is_taken a ≡ false → a ≡ step_answer cx m (length store) given (length room) → Steps cx m store given room a b store room
  unfolding step_model step_store step_room
  turned-back a f e =
      record {
        value = e;
        model_after = sym (model-encode-decode cx b w h) ∙ rw (← e, f);
        store_after = rw (← e, f);
        room_after = rw (← e, f) (sym (splice-none room 0));
      }

  -- ---- refusals 9, 13 and 10

  pub wrong-store : (length store ≡ store_length cx → ⊥) → Steps cx m store given room (Err Store) b store room
  unfolding step_answer is_taken
  wrong-store ne = turned-back (Err Store) refl (rw (ne_eqb (length store) (store_length cx) ne))

  module _ (e : length store ≡ store_length cx) where
    pub wrong-length : (length given ≡ 32 → ⊥) → Steps cx m store given room (Err Length) b store room
    unfolding step_answer is_taken
    wrong-length ne = turned-back (Err Length) refl (rw (eq-eqb (length store) (store_length cx) e, ne_eqb (length given) 32 ne))

    -- the record is read
    module _ (l : length given ≡ 32) where
      read-so : (q : Option Record) → record_read cx.settings given ≡ q → read_answer cx m q (length room) ≡ step_answer cx m (length store) given (length room)
      unfolding step_answer
      read-so q k = rw (eq-eqb (length store) (store_length cx) e, eq-eqb (length given) 32 l, k)

      pub wrong_word : record_read cx.settings given ≡ None → Steps cx m store given room (Err (Word 0)) b store room
      unfolding read_answer is_taken
      wrong_word k = turned-back (Err (Word 0)) refl (read-so None k)

      -- a call with its record
      pub known : (r : Record) → record_read cx.settings given ≡ Some r → (a : Result Event Refusal) (after stored left : List ℕ)
          → Takes cx m r store room a after stored left → Steps cx m store given room a after stored left
      unfolding read_answer take_model step_model model_by take_store step_store store_by take_room step_room bytes_by
      known r k a after stored left t =
          let q : record_answer cx m r (length room) ≡ step_answer cx m (length store) given (length room) = read-so (Some r) k in
          record {
            value = t.value ∙ q;
            model_after = t.model_after ∙ rw (← q, k);
            store_after = t.store_after ∙ rw (← q, k);
            room_after = t.room_after ∙ rw (← q, k);
          }
