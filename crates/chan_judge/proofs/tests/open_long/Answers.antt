-- `chan_judge::tests::open_long` meets its contract: the bound of three last instants.
use lib.Dec.{leb-zero}
use Rattle.chan_judge.proofs.tests.open_long.Goals as goal

pub returns-then-p : goal.returns-then-p
returns-then-p c =
    rw (
      c.prer_keeps.ensures,
      c.after_three-opened.ensures,
    )

pub returns : goal.returns
returns c = rw (c.if-p.false, leb-zero)
