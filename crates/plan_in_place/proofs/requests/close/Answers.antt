-- `plan_in_place::requests::close` meets its contract.
use Rattle.plan_in_place.proofs.Planned.{close-fits}
use Rattle.plan_in_place.proofs.requests.close.Goals as goal

pub close_all-requires : goal.close_all-requires
close_all-requires c =
    record {
      rested = c.requires.rested;
      fits = close-fits _ _ c.requires.rested c.args.room.now c.requires.in_bounds c.requires.b_value;
    }
