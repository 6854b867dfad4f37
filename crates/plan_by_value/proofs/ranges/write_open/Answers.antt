-- `plan_by_value::ranges::write_open` meets its contract: of the bank of the write.
use mathlib.Core.Path.{◌≡◌}
use lib.ListN.{length}
use Rattle.chan_view.proofs.PlaceLaws.{length-of-map, slot_read}
use Rattle.plan_by_value.proofs.ranges.write_open.Goals as goal

pub returns : goal.returns
returns c =
    let long : length c.args.ch.banks ≡ 32 = search (length-of-map, c.well_formed.0) in
    rw (c.is_open.ensures, c.track_of.ensures, c.slot_of-i.ensures.0, slot_read c.args.ch.banks (long) _)
