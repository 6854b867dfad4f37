-- `chan_view::views::centre` meets its contract: each way out decides the test.
use mathlib.Core.Path.{sym}
use Rattle.chan_view.proofs.views.centre.Goals as goal

pub returns-then-leaves_closing : goal.returns-then-leaves_closing
returns-then-leaves_closing c = rw (sym c.leaves_closing.ensures, c.if-leaves_closing.true)

pub returns-else-leaves_closing : goal.returns-else-leaves_closing
returns-else-leaves_closing c = rw (sym c.leaves_closing.ensures, c.if-leaves_closing.false)
