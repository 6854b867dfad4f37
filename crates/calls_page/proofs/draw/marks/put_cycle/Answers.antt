-- `put_cycle` meets its contract: the cycle is before the page, on it, or after it.
use Prim.Native.Nat.{◌+◌, ◌-◌, ◌*◌}
use native.Mathlib.Omega.{arith}
use Rattle.calls_page.proofs.draw.PaintLaws.{paint-past, paint-one, paint-late}
use Rattle.calls_page.proofs.draw.marks.put_cycle.Goals as goal

pub returns-then-t-start : goal.returns-then-t-start
returns-then-t-start c =
    let a = c.args in
    paint-past a.line a.start a.t a.letter a.out.now (omega arith)

pub returns-then-k-lt64 : goal.returns-then-k-lt64
returns-then-k-lt64 c =
    let a = c.args in
    paint-one a.line a.start a.t a.letter a.out.now (73 * a.line + 8 + (a.t - (c.from-start.result + 4))) (omega arith) (omega arith) (omega arith) (omega arith) (omega arith)

pub returns-else-k-lt64 : goal.returns-else-k-lt64
returns-else-k-lt64 c =
    let a = c.args in
    paint-late a.line a.start a.t a.letter a.out.now (omega arith)
