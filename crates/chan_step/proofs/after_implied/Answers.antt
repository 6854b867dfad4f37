-- `chan_step::after_implied` meets its contract: the banks and the last instants, by the law of that state.
use mathlib.Core.Path.{◌≡◌, sym}
use lib.ListN.{length}
use Rattle.chan_view.proofs.PlaceLaws.{length-of-map}
use Rattle.chan_step.proofs.AfterLaws.{implied-after}
use Rattle.chan_step.proofs.after_implied.Goals as goal

pub returns : goal.returns
returns c =
    let long : length c.args.ch.banks ≡ 32 = search (length-of-map, c.well_formed.1.0) in
    rw (c.implied_lasts.ensures, c.closed_banks.ensures) (sym (implied-after c.args.s c.args.ch (long) c.args.at c.args.b))
