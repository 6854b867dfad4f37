-- `chan_judge::tests::prer_of` meets its contract: by what implies it.
use Rattle.chan_judge.proofs.PrerLaws.{by-retire, by_read, by_itself}
use Rattle.chan_judge.proofs.tests.prer_of.Goals as goal

pub returns-then-h-out : goal.returns-then-h-out
returns-then-h-out c =
    let a = c.args in
    rw (c.prer.ensures, c.from.ensures, c.from-at.ensures) (by-retire a.s a.v a.h a.out a.k c.if-h-out.true)

pub returns-then-v : goal.returns-then-v
returns-then-v c =
    let a = c.args in
    rw (c.prer-then-v.ensures, c.from.ensures, c.from-at.ensures) (by_read a.s a.v a.h a.out a.k c.if-h-out.false c.if-v.true)

pub returns : goal.returns
returns c =
    let a = c.args in
    rw (c.prer-2.ensures, c.from-at.ensures) (by_itself a.s a.v a.h a.out a.k c.if-h-out.false c.if-v.false)
