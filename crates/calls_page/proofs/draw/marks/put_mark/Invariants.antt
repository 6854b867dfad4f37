-- `put_mark` meets its contract: after j turns the first j of the four cycles have the letter.
use Rattle.calls_page.specs.Form.Paint.{Painted}
use Rattle.calls_page.proofs.draw.marks.put_mark.Given as goal

abbrev pub invariant-loop-j : goal.invariant-loop-j
invariant-loop-j l = Painted l.line l.start l.t l.j l.letter l.initial.out l.out
