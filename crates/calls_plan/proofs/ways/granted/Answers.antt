-- `calls_plan::ways::granted` meets its contract: refusal 15, or served.
use mathlib.Core.Path.{sym, ◌∙◌}
use Rattle.calls_plan.proofs.CallLaws.{not-retired}
use Rattle.calls_plan.proofs.ways.granted.Goals as goal

pub returns-then-unretired : goal.returns-then-unretired
returns-then-unretired c =
    let all = not-retired c.args.s c.args.planner.now c.args.q c.args.room.now (sym c.unretired.ensures ∙ c.if-unretired.true) _ c.answer.ensures in
    record {
      value = all.0;
      planner_after = all.1.0;
      room_after = all.1.1;
    }
