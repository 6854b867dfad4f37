-- `state_bytes::tested::most_tag` meets its contract: the test decides.
use borrow.Author.Tests.{lt-ltb, le-ltb}
use Rattle.state_bytes.proofs.tested.most_tag.Goals as goal

pub returns-then-rows-lt65535 : goal.returns-then-rows-lt65535
returns-then-rows-lt65535 c = rw (lt-ltb _ _ c.if-rows-lt65535.true)

pub returns-else-rows-lt65535 : goal.returns-else-rows-lt65535
returns-else-rows-lt65535 c = rw (le-ltb _ _ c.if-rows-lt65535.false)
