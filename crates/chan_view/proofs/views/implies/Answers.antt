-- `chan_view::views::implies` meets its contract: by what leaves.
use Rattle.chan_view.proofs.views.implies.Goals as goal

pub returns : goal.returns
returns c = rw c.leaves_closing.ensures
