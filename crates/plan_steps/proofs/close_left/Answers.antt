-- `plan_steps::close_left` meets its contract.
use Prim.Native.Nat.{◌-◌}
use mathlib.Core.Path.{◌≡◌}
use native.Mathlib.Omega.{arith}
use Rattle.plan_bytes.proofs.Compose.{drawn-room}
use Rattle.plan_steps.proofs.Turn.{tag_open, turn-shut, turn-first, turn-open, opened-none, opened_one}
use Rattle.plan_steps.proofs.Walk.{walk_start, walk-bank, walk_after, walk-fits, walk-next, walk_end}
use Rattle.plan_steps.proofs.close_left.Goals as goal
use Rattle.plan_steps.proofs.close_left.Goals.{then-tag-ne0, else-tag-ne0}

pub loop-left-init : goal.loop-left-init
loop-left-init c = walk_start _ _ _ c.requires.rested (omega arith) _ c.args.count c.requires.count_value

pub tag-requires : goal.tag-requires
tag-requires c =
    let k = c.loop-left in
    record {
      x_bound = walk-bank _ _ _ c.requires.rested (omega arith) _ _ _ _ _ _ k.invariant (omega arith);
    }

pub close_bank-to-requires : goal.close_bank-to-requires
close_bank-to-requires c =
    let k = c.loop-left in
    let a = walk_after _ _ _ c.requires.rested (omega arith) _ _ _ _ _ _ k.invariant in
    let l = walk-bank _ _ _ c.requires.rested (omega arith) _ _ _ _ _ _ k.invariant (omega arith) in
    let f = walk-fits _ _ _ c.requires.rested (omega arith) _ _ _ _ _ _ k.invariant c.requires.fits (omega arith) in
    let e = c.tag.ensures in
    let n = c.if-tag-ne0.true in
    record {
      rested = a.ready;
      x_bound = l;
      open_at = tag_open _ _ _ a.ready k.x l _ e k.room k.to n;
      fits = turn-first _ _ _ a.ready k.x l _ e k.room k.to n f;
    }

pub overflow_add-x : goal.overflow_add-x
overflow_add-x c = omega (arith, walk-bank _ _ _ c.requires.rested (omega arith) _ _ _ _ _ _ c.loop-left.invariant (omega arith))

pub loop-left-smaller : goal.loop-left-smaller
loop-left-smaller c = omega (arith, walk-bank _ _ _ c.requires.rested (omega arith) _ _ _ _ _ _ c.loop-left.invariant (omega arith))

pub loop-left-preserved : goal.loop-left-preserved
loop-left-preserved c =
    let k = c.loop-left in
    let a = walk_after _ _ _ c.requires.rested (omega arith) _ _ _ _ _ _ k.invariant in
    let l = walk-bank _ _ _ c.requires.rested (omega arith) _ _ _ _ _ _ k.invariant (omega arith) in
    let e = c.tag.ensures in
    let next = walk-next _ _ _ c.requires.rested (omega arith) _ _ _ _ _ _ k.invariant (omega arith) in
    elim c.if-tag-ne0.branch [
      | then-tag-ne0 w ↦
          let n = w.if-tag-ne0.true in
          rw (w.b-is, w.room-is, w.left-is, w.to-is) (next 1 (opened_one _ _ _ a.ready k.x l _ e k.room k.to n) c.requires.fits _ _ _ (turn-open _ _ _ a.ready k.x l _ e _ _ n _ _ _ w.close_bank-to.ensures))
      | else-tag-ne0 w ↦
          let n = w.if-tag-ne0.false in
          let same : k.left - 0 ≡ k.left = omega arith in
          rw (w.b-is, w.room-is, w.left-is, w.to-is) (rw same at (next 0 (opened-none _ _ _ a.ready k.x l _ e k.room k.to n) c.requires.fits _ _ _ (turn-shut _ _ _ a.ready k.x l _ e _ _ n)))
    ]

pub shape_of-room : goal.shape_of-room
shape_of-room c = drawn-room _ _ _ _ _ _ _ (walk_end _ _ _ c.requires.rested (omega arith) _ _ _ _ _ _ c.loop-left.invariant (omega arith)).0 c.requires.fits

pub returns : goal.returns
returns c =
    let all = walk_end _ _ _ c.requires.rested (omega arith) _ _ _ _ _ _ c.loop-left.invariant (omega arith) in
    record {
      drawn = all.0;
      banks_value = all.1;
    }
