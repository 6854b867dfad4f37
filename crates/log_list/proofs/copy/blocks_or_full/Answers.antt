-- `blocks_or_full` meets its contract: the test is the definition's.
use Rattle.log_list.proofs.copy.blocks_or_full.Goals as goal

pub returns-then-blocks-room : goal.returns-then-blocks-room
returns-then-blocks-room c = rw c.if-blocks-room.true

pub returns : goal.returns
returns c = rw c.if-blocks-room.false
