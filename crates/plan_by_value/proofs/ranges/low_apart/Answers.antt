-- `plan_by_value::ranges::low_apart` meets its contract: of the tracks of the two banks.
use mathlib.Core.Path.{◌≡◌}
use lib.ListN.{length}
use Rattle.chan_view.proofs.PlaceLaws.{length-of-map, slot_read}
use Rattle.plan_by_value.proofs.ranges.low_apart.Goals as goal

pub returns : goal.returns
returns c =
    let long : length c.args.ch.banks ≡ 32 = search (length-of-map, c.well_formed.1.0) in
    rw (
      c.is_closed-2.ensures,
      c.is_closed.ensures,
      c.track_of-low.ensures,
      c.slot_of-j.ensures.0,
      c.low_of-b.ensures,
      c.track_of-own.ensures,
      c.slot_of-i.ensures.0,
      slot_read c.args.ch.banks (long) c.args.x,
      slot_read c.args.ch.banks (long) _,
    )
