-- `calls_plan::ways::read_on_lent` meets its contract: a read is not late here, and its records and the next state are put.
use mathlib.Core.Path.{◌≡◌, refl}
use mathlib.Core.Bool.{false}
use Rattle.std.proofs.Common.{rules}
use Rattle.record.specs.declared.Request.{Request}
use Rattle.record.specs.declared.Request.TheVariants.{Read}
use Rattle.spec_plan.specs.PlannerBytes.{planner_in}
use Rattle.spec_plan.specs.Call.{unretired}
use Rattle.plan_in_place.proofs.Called.{rested-low, calm-timely}
use Rattle.calls_plan.proofs.CallLaws.{enough, in-time}
use Rattle.calls_plan.proofs.ways.read_on_lent.Goals as goal

pub returns : goal.returns
unfolding unretired
returns c =
    let q : Request = Read c.args.at false in
    let u : unretired q (planner_in c.args.planner.now) ≡ false = refl in
    let low = rested-low _ _ c.requires.s_value (λ i l. search rules) c.requires.planner_value 999990000 c.requires.below in
    let all = in-time c.args.s c.args.planner.now q c.args.room.now c.requires.planner_value u (enough c.args.s c.args.planner.now q c.args.room.now c.requires.planner_value u c.args.room.now c.requires.in_bounds) (calm-timely _ _ low q tt) _ c.plan_read-made.ensures.records_value _ c.plan_read-made.ensures.banks_value _ c.answer.ensures _ _ c.plan_read-made.ensures.planner_after c.plan_read-made.ensures.room_after in
    record {
      value = all.0;
      planner_after = all.1.0;
      room_after = all.1.1;
    }
