-- `chan_judge::tests::closed_long` meets its contract: the bound of three last instants.
use lib.Dec.{leb-zero}
use Rattle.chan_judge.proofs.tests.closed_long.Goals as goal

pub returns-then-v : goal.returns-then-v
returns-then-v c = rw (c.keeps.ensures, c.after_three-pre.ensures, c.if-v.true)

pub returns : goal.returns
returns c = rw (c.if-v.false, leb-zero)
