-- `chan_least::centre_by` meets its contract: each way out decides the test.
use Rattle.chan_least.proofs.centre_by.Goals as goal

pub returns-then-v-h : goal.returns-then-v-h
returns-then-v-h c = rw c.if-v-h.true

pub returns-else-v-h : goal.returns-else-v-h
returns-else-v-h c = rw c.if-v-h.false
