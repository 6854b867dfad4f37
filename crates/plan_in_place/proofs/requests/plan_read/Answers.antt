-- `plan_in_place::requests::plan_read` meets its contract.
use Rattle.std.proofs.Common.{rules}
use Rattle.plan_bytes.proofs.Again.{rested-call}
use Rattle.plan_in_place.proofs.Called.{called-read}
use Rattle.plan_in_place.proofs.requests.plan_read.Goals as goal

pub read-requires : goal.read-requires
read-requires c =
    let r = rested-call _ _ c.requires.s_value (λ i l. search rules) c.requires.planner_value in
    record {
      rested = r;
      in_place = c.requires.in_place;
      in_bounds = c.requires.in_bounds;
    }

pub returns : goal.returns
returns c =
    let all = called-read _ _ _ _ _ _ _ _ _ c.no_walk.ensures _ _ c.read.ensures in
    record {
      planner_after = all.planner_after;
      room_after = all.room_after;
      records_value = all.records_value;
      banks_value = all.banks_value;
      due_value = all.due_value;
    }
