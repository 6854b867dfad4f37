-- `turn::closed_near` meets its contract: the three stores.
use Rattle.check_walk.proofs.turn.closed_near.Goals as goal

pub returns : goal.returns
returns c =
    rw (
      c.side_track-2.ensures,
      c.side_track.ensures,
      c.closed_track.ensures,
      c.last_near-z.ensures.0,
      c.first_near-y.ensures.0,
      c.slot_of-x.ensures.0,
    )
