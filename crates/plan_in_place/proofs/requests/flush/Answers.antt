-- `plan_in_place::requests::flush` meets its contract.
use native.Mathlib.Omega.{arith}
use Rattle.spec_plan.specs.Plan.{planned_flush}
use Rattle.plan_bytes.proofs.Again.{rested-more}
use Rattle.plan_in_place.proofs.Planned.{emptied-fits}
use Rattle.plan_in_place.proofs.requests.flush.Goals as goal

pub flush_all-requires : goal.flush_all-requires
flush_all-requires c =
    record {
      rested = rested-more _ 999999997 1000011000 _ (omega arith) c.requires.rested;
      fits = emptied-fits _ _ c.requires.rested c.args.room.now c.requires.in_bounds;
    }

pub returns : goal.returns
unfolding planned_flush
returns c = c.flush_all.ensures
