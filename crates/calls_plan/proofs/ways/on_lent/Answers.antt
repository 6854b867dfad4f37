-- `calls_plan::ways::on_lent` meets its contract: refusal 7, or the request's records and the next state.
use mathlib.Core.Path.{sym, ◌∙◌}
use Rattle.calls_plan.proofs.CallLaws.{late, enough, in-time}
use Rattle.calls_plan.proofs.ways.on_lent.Goals as goal

pub returns-then-in_time : goal.returns-then-in_time
returns-then-in_time c =
    let all = in-time c.args.s c.args.planner.now c.args.q c.args.room.now c.requires.planner_value c.requires.granted.1 (enough c.args.s c.args.planner.now c.args.q c.args.room.now c.requires.planner_value c.requires.granted.1 c.args.room.now c.requires.in_bounds) (sym c.in_time.ensures ∙ c.if-in_time.true) _ c.plan-made.ensures.records_value _ c.plan-made.ensures.banks_value _ c.answer.ensures _ _ c.plan-made.ensures.planner_after c.plan-made.ensures.room_after in
    record {
      value = all.0;
      planner_after = all.1.0;
      room_after = all.1.1;
    }

pub returns : goal.returns
returns c =
    let all = late c.args.s c.args.planner.now c.args.q c.args.room.now c.requires.planner_value c.requires.granted.1 (sym c.in_time.ensures ∙ c.if-in_time.false) _ c.answer-2.ensures in
    record {
      value = all.0;
      planner_after = all.1.0;
      room_after = all.1.1;
    }
