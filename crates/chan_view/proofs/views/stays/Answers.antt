-- `chan_view::views::stays` meets its contract: by whether two wait.
use Rattle.chan_view.proofs.views.stays.Goals as goal

pub returns-then-h : goal.returns-then-h
returns-then-h c = rw c.if-h.true

pub returns-else-h : goal.returns-else-h
returns-else-h c = rw c.if-h.false
