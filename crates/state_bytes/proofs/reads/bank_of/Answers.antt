-- `state_bytes::reads::bank_of` meets its contract: each way out decides the tests.
use borrow.Author.Tests.{eq-eqb, ne_eqb}
use Rattle.spec_state.specs.ChannelBytes.{bank_in}
use Rattle.state_bytes.proofs.reads.bank_of.Goals as goal

pub returns-then-tag-eq0 : goal.returns-then-tag-eq0
unfolding bank_in
returns-then-tag-eq0 c = rw (eq-eqb _ 0 c.if-tag-eq0.true)

pub returns-then-tag-eq65535 : goal.returns-then-tag-eq65535
unfolding bank_in
returns-then-tag-eq65535 c = rw (ne_eqb _ 0 c.if-tag-eq0.false, eq-eqb _ 65535 c.if-tag-eq65535.true)

pub returns : goal.returns
unfolding bank_in
returns c = rw (ne_eqb _ 0 c.if-tag-eq0.false, ne_eqb _ 65535 c.if-tag-eq65535.false)
