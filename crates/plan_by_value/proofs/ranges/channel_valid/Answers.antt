-- `plan_by_value::ranges::channel_valid` meets its contract: the answers, from the last to the first; an array of 32 has 32 banks.
use mathlib.Core.Path.{◌≡◌}
use borrow.Author.Tests.{eq-eqb}
use lib.ListN.{length}
use Rattle.spec_rules.specs.Neighbour.{bank_count}
use Rattle.spec_state.specs.Valid.{channel_valid}
use Rattle.chan_view.proofs.PlaceLaws.{length-of-map}
use Rattle.plan_by_value.proofs.ranges.channel_valid.Goals as goal

pub returns : goal.returns
unfolding channel_valid bank_count
returns c =
    let long : length c.args.ch.banks ≡ 32 = search (length-of-map, c.well_formed.1.0) in
    rw (
      eq-eqb (length c.args.ch.banks) 32 (long),
      c.writes_open.ensures,
      c.apart.ensures,
      c.waits.ensures,
      c.writes_valid.ensures,
      c.lasts_valid.ensures,
      c.tracks_valid.ensures,
    )
