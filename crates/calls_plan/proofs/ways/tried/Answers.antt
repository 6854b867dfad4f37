-- `calls_plan::ways::tried` meets its contract: refusal 7 or 8, or what the request made is copied.
use mathlib.Core.Path.{sym, ◌∙◌}
use native.Mathlib.Omega.{arith}
use Rattle.calls_plan.proofs.CallLaws.{late, made-room, tried-full, tried-made}
use borrow.Author.Rules.{rules}
use Rattle.calls_plan.proofs.ways.tried.Goals as goal

pub returns-then-not-left_in_time : goal.returns-then-not-left_in_time
returns-then-not-left_in_time c =
    let r = c.requires in
    let all = late c.args.s c.args.planner.now c.args.q c.args.room.now r.planner_value r.granted.1 (sym c.left_in_time.ensures ∙ c.if-not-left_in_time.true) _ c.answer.ensures in
    record {
      value = all.0;
      planner_after = all.1.0;
      room_after = all.1.1;
    }

pub returns-then-room-n : goal.returns-then-room-n
returns-then-room-n c =
    let r = c.requires in
    let e = c.plan-made.ensures in
    let all = tried-full c.args.s c.args.planner.now c.args.q c.args.room.now r.planner_value r.granted.1 _ _ _ e.room_after e.records_value (search rules) (sym c.left_in_time.ensures ∙ c.if-not-left_in_time.false) c.if-room-n.true _ c.answer-then-room-n.ensures in
    record {
      value = all.0;
      planner_after = all.1.0;
      room_after = all.1.1;
    }

pub put_first-requires : goal.put_first-requires
put_first-requires c =
    let r = c.requires in
    let e = c.plan-made.ensures in
    record {
      n_in_bounds = made-room c.args.s c.args.planner.now c.args.q c.args.room.now r.planner_value r.granted.1 _ _ _ e.room_after e.records_value (search rules);
      room_in_bounds = omega (arith, c.if-room-n.false);
    }

pub returns : goal.returns
returns c =
    let r = c.requires in
    let e = c.plan-made.ensures in
    let all = tried-made c.args.s c.args.planner.now c.args.q c.args.room.now r.planner_value r.granted.1 _ _ _ e.room_after e.records_value (search rules) (sym c.left_in_time.ensures ∙ c.if-not-left_in_time.false) c.if-room-n.false _ e.banks_value _ c.answer-2.ensures _ _ e.planner_after c.put_first.ensures in
    record {
      value = all.0;
      planner_after = all.1.0;
      room_after = all.1.1;
    }
