-- `num::bits::back` meets its contract.
use borrow.Author.Tests.{lt-ltb, le-ltb}
use Rattle.num.specs.Form.Across.{back}
use Rattle.num.proofs.bits.back.Goals as goal

pub returns-then-k-q : goal.returns-then-k-q
unfolding back
returns-then-k-q c = rw (lt-ltb c.args.k c.args.q c.if-k-q.true)

pub returns-else-k-q : goal.returns-else-k-q
unfolding back
returns-else-k-q c = rw (le-ltb c.args.k c.args.q c.if-k-q.false)
