-- `chan_view::banks::around` meets its contract: each track is read by its bank.
use Rattle.chan_view.proofs.banks.around.Goals as goal

pub returns : goal.returns
returns c =
    rw (
      c.track_of-5.ensures,
      c.track_of-4.ensures,
      c.track_of-3.ensures,
      c.high_of.ensures,
      c.track_of-2.ensures,
      c.low_of.ensures,
      c.track_of.ensures,
    )
