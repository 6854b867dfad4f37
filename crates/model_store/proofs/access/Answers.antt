-- `model_store::access` meets its contract: by what is asked.
use Prim.Native.Nat.{◌+◌, ◌*◌, ◌≤◌}
use mathlib.Core.Path.{◌≡◌, refl, ◌∙◌}
use native.Mathlib.Omega.{arith}
use lib.ListN.{length}
use Rattle.num.proofs.SpliceLaws.{splice-none}
use Rattle.record.specs.declared.Place.{Place}
use Rattle.spec_rules.specs.Neighbour.{context_of}
use Rattle.spec_model.specs.Store.{store_length}
use Rattle.model_store.specs.Form.Touch.{PlaceIn, TouchIn, place_at, touch_answer, touch_store, touch_bytes}
use Rattle.model_store.proofs.PlaceLaws.{place_in}
use Rattle.model_store.proofs.access.Goals as goal

pub number_of-requires : goal.number_of-requires
unfolding TouchIn
number_of-requires c =
    record {
      s_value = c.requires.s_value;
      place_in = rw c.in-Reads.is at c.requires.touch_in;
    }

pub read_out-requires : goal.read_out-requires
unfolding TouchIn
read_out-requires c =
    let within : (p : Place) → PlaceIn (context_of c.args.s) p → 16 * place_at (context_of c.args.s) p + 16 ≤ length c.args.store.now = λ p i. let h = place_in (context_of c.args.s) p i in
    let l : length c.args.store.now ≡ store_length (context_of c.args.s) = c.requires.store_len in
    omega arith in
    rw c.number_of.ensures (within _ (rw c.in-Reads.is at c.requires.touch_in))

pub number_of-requires-in-Retires : goal.number_of-requires-in-Retires
unfolding TouchIn
number_of-requires-in-Retires c =
    record {
      s_value = c.requires.s_value;
      place_in = (rw c.in-Retires.is at c.requires.touch_in).0;
    }

pub retire_to-requires : goal.retire_to-requires
unfolding TouchIn
retire_to-requires c =
    let within : (p : Place) → PlaceIn (context_of c.args.s) p → 16 * place_at (context_of c.args.s) p + 16 ≤ length c.args.store.now = λ p i. let h = place_in (context_of c.args.s) p i in
    let l : length c.args.store.now ≡ store_length (context_of c.args.s) = c.requires.store_len in
    omega arith in
    rw c.number_of-in-Retires.ensures (within _ (rw c.in-Retires.is at c.requires.touch_in).0)

pub ones_of-requires : goal.ones_of-requires
unfolding TouchIn
ones_of-requires c = (rw c.in-Retires.is at c.requires.touch_in).1

pub returns-in-Nothing : goal.returns-in-Nothing
unfolding touch_answer touch_store touch_bytes
returns-in-Nothing c =
    record {
      value = rw c.in-Nothing.is refl;
      store_after = rw c.in-Nothing.is refl;
      room_after = rw c.in-Nothing.is (splice-none c.args.room.now 0);
    }

pub returns-in-Reads : goal.returns-in-Reads
unfolding touch_answer touch_store touch_bytes
returns-in-Reads c =
    record {
      value = rw c.in-Reads.is c.read_out.ensures.value;
      store_after = rw c.in-Reads.is refl;
      room_after = rw c.in-Reads.is (rw c.number_of.ensures at c.read_out.ensures.room_after);
    }

pub returns-in-Retires : goal.returns-in-Retires
unfolding touch_answer touch_store touch_bytes
returns-in-Retires c =
    record {
      value = rw c.in-Retires.is (rw c.ones_of.ensures);
      store_after = rw c.in-Retires.is (c.retire_to.ensures ∙ rw c.number_of-in-Retires.ensures);
      room_after = rw c.in-Retires.is (splice-none c.args.room.now 0);
    }
