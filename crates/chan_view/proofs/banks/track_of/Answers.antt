-- `chan_view::banks::track_of` meets its contract: each way out decides the test.
use borrow.Author.Tests.{lt-ltb, le-ltb}
use Rattle.chan_view.proofs.banks.track_of.Goals as goal

pub returns-then-b-lt32 : goal.returns-then-b-lt32
returns-then-b-lt32 c = rw (lt-ltb _ _ c.if-b-lt32.true)

pub returns-else-b-lt32 : goal.returns-else-b-lt32
returns-else-b-lt32 c = rw (le-ltb _ _ c.if-b-lt32.false) c.unused.ensures
