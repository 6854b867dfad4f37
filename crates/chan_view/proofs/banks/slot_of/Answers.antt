-- `chan_view::banks::slot_of` meets its contract: each way out decides the test.
use borrow.Author.Tests.{lt-ltb, le-ltb}
use borrow.Author.Rules.{rules}
use Rattle.chan_view.proofs.banks.slot_of.Goals as goal

pub returns-then-b-lt32 : goal.returns-then-b-lt32
returns-then-b-lt32 c = (rw (lt-ltb _ _ c.if-b-lt32.true), search rules)

pub returns-else-b-lt32 : goal.returns-else-b-lt32
returns-else-b-lt32 c = (rw (le-ltb _ _ c.if-b-lt32.false), search rules)
