-- `chan_view::views::leaving` meets its contract: the sum in 64 bits.
use Rattle.chan_view.proofs.views.leaving.Goals as goal

pub returns : goal.returns
returns c =
    rw (
      c.from-3.ensures,
      c.from-2.ensures,
      c.from.ensures,
    )
