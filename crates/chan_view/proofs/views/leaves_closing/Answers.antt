-- `chan_view::views::leaves_closing` meets its contract: by what leaves.
use Rattle.chan_view.proofs.views.leaves_closing.Goals as goal

pub returns : goal.returns
returns c = rw c.leaving.ensures
