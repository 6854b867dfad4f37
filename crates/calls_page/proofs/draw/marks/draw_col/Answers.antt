-- `draw_col` meets its contract: the packet is marked, and of an RD its data.
use Rattle.calls_page.proofs.draw.PaintLaws.{nocop-drawn, write-drawn, read-drawn}
use Rattle.calls_page.proofs.draw.marks.draw_col.Goals as goal

pub returns-in-Nocop : goal.returns-in-Nocop
returns-in-Nocop c =
    λ rs e.
    let a = c.args in
    rw c.in-Nocop.is
    (nocop-drawn a.s rs a.start a.out.now _ e a.t _
    (rw (c.from.ensures, c.col_letter.ensures, c.in-Nocop.is) at c.put_mark.ensures))

pub returns-in-Wr : goal.returns-in-Wr
returns-in-Wr c =
    λ rs e.
    let a = c.args in
    rw c.in-Wr.is
    (write-drawn a.s rs a.start a.out.now _ e a.t _ _ _ _
    (rw (c.from.ensures, c.col_letter.ensures, c.in-Wr.is) at c.put_mark.ensures))

pub returns-in-Rd : goal.returns-in-Rd
returns-in-Rd c =
    λ rs e.
    let a = c.args in
    let told = c.in-Rd.is in
    rw told
    (read-drawn a.s rs a.start a.out.now _ e a.t _ _ _ _ _
    (rw (c.from.ensures, c.col_letter.ensures, told) at c.put_mark.ensures)
    (rw (c.from-in-Rd.ensures, c.from-in-Rd-2.ensures) at c.put_mark-in-Rd.ensures))
