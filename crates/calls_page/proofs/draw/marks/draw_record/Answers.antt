-- `draw_record` meets its contract: each arm is a case of the definition.
use Rattle.calls_page.proofs.draw.PaintLaws.{row-drawn, data-drawn}
use Rattle.calls_page.proofs.draw.marks.draw_record.Goals as goal

pub returns-in-RowAt : goal.returns-in-RowAt
returns-in-RowAt c =
    λ rs e.
    let a = c.args in
    rw c.in-RowAt.is
    (row-drawn a.s rs a.start a.out.now _ e _ _ (rw (c.from.ensures, c.row_letter.ensures) at c.put_mark.ensures))

pub returns-in-ColAt : goal.returns-in-ColAt
returns-in-ColAt c = λ rs e. rw c.in-ColAt.is (c.draw_col.ensures rs e)

pub returns-in-DataOf : goal.returns-in-DataOf
returns-in-DataOf c =
    λ rs e.
    let a = c.args in
    rw c.in-DataOf.is
    (data-drawn a.s rs a.start a.out.now _ e _ _ (rw c.from-in-DataOf.ensures at c.put_mark-in-DataOf.ensures))
