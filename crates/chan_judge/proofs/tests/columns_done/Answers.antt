-- `chan_judge::tests::columns_done` meets its contract: the bounds of three last instants each.
use lib.Dec.{leb-zero}
use Rattle.chan_judge.proofs.tests.columns_done.Goals as goal

pub returns-then-p : goal.returns-then-p
returns-then-p c =
    rw (
      c.prer_keeps-then-p.ensures,
      c.prer_keeps.ensures,
      c.after_three-retire.ensures,
      c.after_three-read.ensures,
    )

pub returns : goal.returns
returns c = rw (c.if-p.false, leb-zero)
