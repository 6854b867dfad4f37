-- `chan_least::tracks_in` meets its contract: what stands at the indices of the five banks.
use mathlib.Core.Path.{◌≡◌}
use lib.ListN.{length}
use Rattle.chan_view.proofs.PlaceLaws.{length-of-map, around-is}
use Rattle.chan_least.proofs.tracks_in.Goals as goal

pub returns : goal.returns
returns c =
    let long : length c.args.banks ≡ 32 = search (length-of-map, c.well_formed.1.0) in
    rw (
      c.around.ensures,
      c.slot_of-o.ensures.0,
      c.slot_of-m.ensures.0,
      c.slot_of-n.ensures.0,
      c.high_of.ensures,
      c.slot_of-j.ensures.0,
      c.low_of.ensures,
      c.slot_of-i.ensures.0,
    )
    (around-is c.args.banks (long) c.args.s c.args.b c.args.c c.args.h)
