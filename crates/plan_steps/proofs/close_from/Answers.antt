-- `plan_steps::close_from` meets its contract.
use mathlib.Core.Path.{◌≡◌}
use native.Mathlib.Omega.{arith}
use Rattle.plan_bytes.proofs.Compose.{drawn-room}
use Rattle.plan_steps.proofs.Stepwise.{up-to-after, first-drawn, turn-fits, turn-drawn}
use Rattle.plan_steps.proofs.Turn.{tag_open, turn-shut, turn-first, turn-open}
use Rattle.plan_steps.proofs.close_from.Goals as goal
use Rattle.plan_steps.proofs.close_from.Goals.{then-tag-ne0, else-tag-ne0}

pub loop-k-init : goal.loop-k-init
loop-k-init c = first-drawn _ _ _ c.requires.rested (omega arith) c.args.first c.args.end c.requires.end_bound c.args.room.now c.args.start

pub close_bank-to-requires : goal.close_bank-to-requires
close_bank-to-requires c =
    let k = c.loop-k in
    let i = k.invariant in
    let m = c.requires.end_bound in
    let a = up-to-after _ _ _ c.requires.rested (omega arith) c.args.first _ m k.k (omega arith) _ i.planner in
    let f = turn-fits _ _ _ c.requires.rested (omega arith) c.args.first c.args.end m _ _ c.requires.fits k.k (omega arith) (omega arith) _ _ _ i in
    let n = c.if-tag-ne0.true in
    record {
      rested = a.ready;
      x_bound = omega arith;
      open_at = tag_open _ _ _ a.ready k.k (omega arith) _ c.tag.ensures k.room k.to n;
      fits = turn-first _ _ _ a.ready k.k (omega arith) _ c.tag.ensures k.room k.to n f;
    }

pub loop-k-preserved : goal.loop-k-preserved
loop-k-preserved c =
    let k = c.loop-k in
    let i = k.invariant in
    let m = c.requires.end_bound in
    let a = up-to-after _ _ _ c.requires.rested (omega arith) c.args.first _ m k.k (omega arith) _ i.planner in
    let next = turn-drawn _ _ _ c.requires.rested (omega arith) c.args.first c.args.end m _ _ c.requires.fits k.k (omega arith) (omega arith) _ _ _ i in
    elim c.if-tag-ne0.branch [
      | then-tag-ne0 w ↦ rw (w.b-is, w.room-is, w.to-is) (next _ _ _ (turn-open _ _ _ a.ready k.k (omega arith) _ c.tag.ensures _ _ w.if-tag-ne0.true _ _ _ w.close_bank-to.ensures))
      | else-tag-ne0 w ↦ rw (w.b-is, w.room-is, w.to-is) (next _ _ _ (turn-shut _ _ _ a.ready k.k (omega arith) _ c.tag.ensures _ _ w.if-tag-ne0.false))
    ]

pub shape_of-room : goal.shape_of-room
shape_of-room c =
    let e : c.loop-k.k ≡ c.args.end = omega arith in
    drawn-room _ _ _ _ _ _ _ (rw e at c.loop-k.invariant) c.requires.fits
