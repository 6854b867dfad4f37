-- `fits` meets its contract.
use borrow.Author.Tests.{le-leb, lt-leb}
use Rattle.log_index.proofs.query.fits.Goals as goal

pub returns-then-n-room : goal.returns-then-n-room
returns-then-n-room c = rw (le-leb _ _ c.if-n-room.true)

pub returns-else-n-room : goal.returns-else-n-room
returns-else-n-room c = rw (lt-leb _ _ c.if-n-room.false)
