-- `plan_by_value::asks::track_in` meets its contract: what stands at the index, where there is such a bank.
use mathlib.Core.Path.{◌≡◌}
use lib.ListN.{length}
use Rattle.chan_view.proofs.PlaceLaws.{length-of-map, slot_read}
use Rattle.plan_by_value.proofs.asks.track_in.Goals as goal

pub returns : goal.returns
returns c =
    let long : length c.args.p.channel.banks ≡ 32 = search (length-of-map, c.well_formed.0) in
    rw (
      c.track_of.ensures,
      c.slot_of-i.ensures.0,
    )
    (slot_read c.args.p.channel.banks (long) c.args.x)
