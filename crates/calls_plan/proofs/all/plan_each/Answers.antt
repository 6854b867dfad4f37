-- `calls_plan::all::plan_each` meets its contract: at each turn planner and room are what the requests so far left, and no stored
-- instant of the planner is above the bound.
use Prim.Native.Nat.{◌+◌}
use native.Mathlib.Omega.{arith}
use borrow.Author.Rules.{rules}
use borrow.Author.Tests.{leb-true}
use Rattle.plan_bytes.proofs.calm.CalmLaws.{highest-below}
use Rattle.calls_plan.proofs.AllLaws.{so-far-none, SoFar, right-now, low-now, room-kept, records-fit, one_more_lem, more-rises, last_one, all-planned}
use Rattle.calls_plan.proofs.all.plan_each.Goals as goal
use Rattle.calls_plan.proofs.all.plan_each.Goals.{Else-made-ne0}

-- one request more is planned
planned : (c : Else-made-ne0)
    → SoFar c.args.s c.args.planner.now c.args.requests.now c.args.room.now c.plan_at-made.new.planner c.plan_at-made.new.room (c.loop-place.place + 1) (c.loop-place.records + c.plan_at-made.result.records)
planned c =
    let k = c.loop-place.invariant in
    let e = c.plan_at-made.ensures in
    one_more_lem k.given k.so-far c.loop-place-test.true _ e.value _ _ e.planner_after e.room_after c.if-made-ne0.false

pub loop-place-init : goal.loop-place-init
loop-place-init c =
    let a = c.args in
    record {
      given = record {
        settings-valid = c.requires.s_value;
        planner-right = c.requires.planner_value;
        planner-bytes = search rules;
        request-bytes = search rules;
      };
      so-far = so-far-none a.s a.planner.now a.requests.now a.room.now;
      low = highest-below a.planner.now _ (omega (arith, c.highest-top.ensures));
    }

pub plan_at-made-requires : goal.plan_at-made-requires
plan_at-made-requires c =
    let k = c.loop-place.invariant in
    record {
      s_value = c.requires.s_value;
      planner_value = right-now k.given k.so-far;
      below = λ e. low-now k.given k.so-far c.loop-place.top k.low (leb-true c.loop-place.top 999990000 e);
      place_in_bounds = omega (arith, c.loop-place-test.true);
      records_in_bounds = records-fit k.given k.so-far;
    }

pub returns-then-made-ne0 : goal.returns-then-made-ne0
returns-then-made-ne0 c =
    let k = c.loop-place.invariant in
    let e = c.plan_at-made.ensures in
    let all = last_one k.given k.so-far c.loop-place-test.true _ e.value _ _ e.planner_after e.room_after c.if-made-ne0.true c.planned_to.result c.planned_to.ensures in
    record {
      value = all.0;
      planner_after = all.1.0;
      room_after = all.1.1;
    }

pub risen-top-requires : goal.risen-top-requires
risen-top-requires c =
    let k = c.loop-place.invariant in
    let e = c.plan_at-made.ensures in
    record {
      below = more-rises k.given k.so-far c.loop-place-test.true _ e.value _ _ e.planner_after e.room_after c.if-made-ne0.false c.loop-place.top k.low;
    }

pub overflow_add-records : goal.overflow_add-records
overflow_add-records c =
    let next = planned (goal.at.overflow_add-records c).Else-made-ne0 in
    omega (arith, records-fit c.loop-place.invariant.given next, room-kept c.loop-place.invariant.given next)

pub loop-place-preserved : goal.loop-place-preserved
loop-place-preserved c = record {
  given = c.loop-place.invariant.given;
  so-far = planned (goal.at.loop-place-preserved c).Else-made-ne0;
  low = c.risen-top.ensures;
}

pub returns : goal.returns
returns c =
    let k = c.loop-place.invariant in
    let p = c.planned_to-2 in
    let all = all-planned k.given k.so-far c.loop-place-test.false p.result (p.ensures.0, omega arith, p.ensures.2) in
    record {
      value = all.0;
      planner_after = all.1.0;
      room_after = all.1.1;
    }
