-- `calls_plan::all::plan_at` meets its contract: a plan call on the rest of the room.
use Prim.Native.Nat.{◌*◌}
use Rattle.calls_plan.proofs.AllLaws.{rest-whole, rest_back, request-whole, at_place}
use Rattle.calls_plan.proofs.all.plan_at.Goals as goal

pub returns : goal.returns
returns c =
    let a = c.args in
    let all = at_place a.s a.planner.now a.requests.now a.room.now a.place a.records _ _ (request-whole a.requests.now a.place) (rest-whole a.room.now (32 * a.records))
    _ _ _ _ (c.asked.ensures.value, (c.asked.ensures.planner_after, c.asked.ensures.room_after)) (rest_back a.room.now (32 * a.records) _) in
    record {
      value = all.0;
      planner_after = all.1.0;
      room_after = all.1.1;
    }
