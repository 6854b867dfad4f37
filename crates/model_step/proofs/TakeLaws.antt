-- What a call with a record leaves, from its answer.
-- Assumes nothing.
use Rattle.std.specs.Prelude.{Err, Result}
use Prim.Native.Nat.{ℕ}
use mathlib.Core.Path.{◌≡◌, refl, sym, ap, ◌∙◌}
use mathlib.Core.Bool.{Bool, true, false, cond}
use mathlib.Core.List.{List, []}
use lib.ListN.{length}
use borrow.Author.Tests.{ne_eqb}
use Rattle.num.specs.Bytes.{Bytes, splice}
use Rattle.num.proofs.SpliceLaws.{splice-none}
use Rattle.record.specs.declared.Dualoct.{Dualoct}
use Rattle.record.specs.declared.Record.{Record}
use Rattle.record.specs.declared.Refusal.TheVariants.{Rule}
use Rattle.spec_rules.specs.Neighbour.{Context}
use Rattle.spec_rules.specs.Checks.{judged}
use Rattle.spec_model.specs.declared.ModelState.{ModelState}
use Rattle.spec_model.specs.Model.{model_next, store_next, read_of}
use Rattle.spec_model.specs.ModelBytes.{model_bytes, model_in, model_right}
use Rattle.spec_model.specs.Step.{record_answer, is_taken, bytes_read}
use Rattle.spec_model.proofs.ModelRoundTrip.{model-encode-decode}
use Rattle.model_store.specs.declared.Touch.{Touch}
use Rattle.model_store.specs.Form.Touch.{touch_answer, touch_store, touch_bytes}
use Rattle.model_store.proofs.TouchLaws.{refused-store}
use Rattle.model_step.specs.Form.Take.{take_model, take_store, take_room}
use Rattle.model_step.proofs.TouchLaws.{Asks}
use Rattle.spec_model.specs.declared.Event.{Event}
use Rattle.record.specs.declared.Refusal.{Refusal}

-- what the call answers, and what it leaves of the model's bytes, the store and the answer buffer
pub record Takes (cx : Context) (m : ModelState) (r : Record) (store room : List ℕ) (a : Result Event Refusal) (after stored left : List ℕ) : Type 0 where
  pub value : a ≡ record_answer cx m r (length room)
  pub model_after : after ≡ model_bytes (take_model cx m r (length room))
  pub store_after : stored ≡ take_store cx m r store (length room)
  pub room_after : left ≡ take_room cx m r store room

module _ (cx : Context) (b : List ℕ) (w : Bytes b) (h : model_right cx b ≡ true) (r : Record) where
  abbrev m : ModelState
  m = model_in b

  -- the bytes that were read
  back : b ≡ model_bytes m
  back = sym (model-encode-decode cx b w h)

  -- a broken rule: everything is left
  pub broken : (store room : List ℕ) (n : ℕ) → n ≡ judged cx m.channel r → (n ≡ 0 → ⊥) → Takes cx m r store room (Err (Rule n 0)) b store room
  unfolding record_answer take_model take_store take_room is_taken
  broken store room n e ne =
      let k : Err (Rule n 0) ≡ record_answer cx m r (length room) = rw (← e, ne_eqb n 0 ne) in
      record {
        value = k;
        model_after = back ∙ rw (← k);
        store_after = rw (← k);
        room_after = rw (← k) (sym (splice-none room 0));
      }

  -- no broken rule: what the store was asked for, and the next state unless that is refused
  module _ (t : Touch) (k : Asks cx m r t) (e : judged cx m.channel r ≡ 0) where
    pub passed : (room : ℕ) → touch_answer t room ≡ record_answer cx m r room
    unfolding record_answer
    passed room = rw e (sym (k.answer room))

    took-model : (room : ℕ) → cond (is_taken (touch_answer t room)) (model_bytes (model_next cx m r)) b ≡ model_bytes (take_model cx m r room)
    unfolding take_model
    took-model room = rw (← passed room) (go (is_taken (touch_answer t room)))
      where
        go : (q : Bool) → cond q (model_bytes (model_next cx m r)) b ≡ model_bytes (cond q (model_next cx m r) m)
        go true = refl
        go false = back

    pub took-store : (store : List ℕ) (room : ℕ) → touch_store cx t m.bytes store ≡ take_store cx m r store room
    unfolding take_store
    took-store store room = rw (← passed room) (go (is_taken (touch_answer t room)) refl)
      where
        go : (b : Bool) → is_taken (touch_answer t room) ≡ b → touch_store cx t m.bytes store ≡ cond b (store_next cx m r store) store
        go true f = sym (k.stored store)
        go false f = refused-store cx t m.bytes store room f

    pub took-room : (store room : List ℕ) → splice room 0 (touch_bytes cx t store (length room)) ≡ take_room cx m r store room
    unfolding take_room
    took-room store room =
        let x : touch_bytes cx t store (length room) ≡ cond (is_taken (record_answer cx m r (length room))) (bytes_read (read_of cx m.channel r) store) [] =
        rw (← passed (length room)) (sym (k.read store (length room)))
        in
        ap (λ (xs : List ℕ). splice room 0 xs) x

    pub asked : (store room : List ℕ) (a : Result Event Refusal) → a ≡ touch_answer t (length room)
        → (after : List ℕ) → after ≡ cond (is_taken a) (model_bytes (model_next cx m r)) b
        → (d : Dualoct) → d ≡ m.bytes → (stored : List ℕ) → stored ≡ touch_store cx t d store
        → (left : List ℕ) → left ≡ splice room 0 (touch_bytes cx t store (length room)) → Takes cx m r store room a after stored left
    asked store room a ea after em d ed stored es left el =
        record {
          value = ea ∙ passed (length room);
          model_after = em ∙ rw ea (took-model (length room));
          store_after = es ∙ rw ed (took-store store (length room));
          room_after = el ∙ took-room store room;
        }
