-- `put_mark` meets its contract: after j turns the first j of the four cycles have the letter.
use Rattle.calls_page.proofs.draw.PaintLaws.{paint-none, paint-more}
use Rattle.calls_page.proofs.draw.marks.put_mark.Goals as goal

pub loop-j-init : goal.loop-j-init
loop-j-init c =
    let a = c.args in
    paint-none a.line a.start a.t a.letter a.out.now

pub loop-j-preserved : goal.loop-j-preserved
loop-j-preserved c =
    let k = c.loop-j in
    let a = c.args in
    paint-more a.line a.start a.t a.letter k.j a.out.now k.out _ k.invariant c.put_cycle.ensures
