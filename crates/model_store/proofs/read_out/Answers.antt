-- `model_store::read_out` meets its contract: the dualoct that is read goes to the answer buffer.
use Prim.Native.Nat.{◌*◌}
use mathlib.Core.Path.{refl, ◌∙◌}
use native.Mathlib.Omega.{arith}
use borrow.Author.Tests.{le-leb, lt-leb}
use Rattle.num.proofs.SpliceLaws.{splice-none}
use Rattle.spec_model.specs.Store.{dualoct}
use Rattle.model_store.proofs.PlaceLaws.{dualoct-back}
use Rattle.model_store.proofs.read_out.Goals as goal

pub returns-then-room-lt16 : goal.returns-then-room-lt16
returns-then-room-lt16 c =
    record {
      value = rw (lt-leb 16 _ c.if-room-lt16.true) refl;
      room_after = rw (lt-leb 16 _ c.if-room-lt16.true) (splice-none c.args.room.now 0);
    }

pub returns : goal.returns
unfolding dualoct
returns c =
    let a = c.args in
    record {
      value = rw (le-leb 16 _ c.if-room-lt16.false) refl;
      room_after = rw (le-leb 16 _ c.if-room-lt16.false) (c.put_dualoct.ensures
          ∙ rw (c.dualoct_at.ensures, dualoct-back a.store.now (16 * a.k) (λ i l. omega (arith, c.shared_slice_known-1.given i)) c.requires));
    }
