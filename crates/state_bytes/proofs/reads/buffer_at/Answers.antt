-- `state_bytes::reads::buffer_at` meets its contract: the number of writes decides.
use borrow.Author.Tests.{eq-eqb, ne_eqb}
use lib.ListN.{get_or}
use Rattle.spec_state.specs.ChannelBytes.{buffer_in}
use Rattle.state_bytes.proofs.reads.buffer_at.Goals as goal

pub returns-then-b-eq0 : goal.returns-then-b-eq0
unfolding buffer_in
returns-then-b-eq0 c = rw (eq-eqb (get_or c.args.b.now 728 0) 0 c.if-b-eq0.true)

pub returns-then-b-eq1 : goal.returns-then-b-eq1
unfolding buffer_in
returns-then-b-eq1 c =
    let n = get_or c.args.b.now 728 0 in
    rw (ne_eqb n 0 c.if-b-eq0.false, eq-eqb n 1 c.if-b-eq1.true, c.write_at.ensures)

pub returns : goal.returns
unfolding buffer_in
returns c =
    let n = get_or c.args.b.now 728 0 in
    rw (ne_eqb n 0 c.if-b-eq0.false, ne_eqb n 1 c.if-b-eq1.false, c.write_at-3.ensures, c.write_at-2.ensures)
