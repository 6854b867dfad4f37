-- `chan_judge::tests::write_safe` meets its contract: of either write.
use Rattle.chan_judge.proofs.PrerLaws.{spares-all}
use Rattle.chan_judge.proofs.tests.write_safe.Goals as goal

pub returns-then-p : goal.returns-then-p
returns-then-p c =
    rw (
      c.spared-then-p.ensures,
      c.spared.ensures,
    )

pub returns : goal.returns
returns c =
    let a = c.args in
    spares-all a.s a.p a.h a.out a.k c.if-p.false
