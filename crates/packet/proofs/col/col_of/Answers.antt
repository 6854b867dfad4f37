-- `col_of` meets its contract: the opcodes and the column are tested in the definition's order.
use borrow.Author.Tests.{eq-eqb, ne_eqb, lt-ltb, le-ltb}
use Rattle.packet.specs.Col.{col_of}
use Rattle.packet.proofs.col.col_of.Goals as goal

pub returns-then-cop : goal.returns-then-cop
unfolding col_of
returns-then-cop c = simp (eq-eqb _ _ c.if-cop.true) c.nocop_of.ensures

pub returns-then-column-columns : goal.returns-then-column-columns
unfolding col_of
returns-then-column-columns c = simp (ne_eqb _ _ c.if-cop.false, le-ltb _ _ c.if-column-columns.true)

pub returns-then-cop-2 : goal.returns-then-cop-2
unfolding col_of
returns-then-cop-2 c = simp (ne_eqb _ _ c.if-cop.false, lt-ltb _ _ c.if-column-columns.false, eq-eqb _ _ c.if-cop-2.true) c.wr_of.ensures

pub returns-then-cop-3 : goal.returns-then-cop-3
unfolding col_of
returns-then-cop-3 c =
    simp (
      ne_eqb _ _ c.if-cop.false,
      lt-ltb _ _ c.if-column-columns.false,
      ne_eqb _ _ c.if-cop-2.false,
      eq-eqb _ _ c.if-cop-3.true,
    ) c.wr_of-then-cop-3.ensures

pub returns-then-cop-4 : goal.returns-then-cop-4
unfolding col_of
returns-then-cop-4 c =
    simp (
      ne_eqb _ _ c.if-cop.false,
      lt-ltb _ _ c.if-column-columns.false,
      ne_eqb _ _ c.if-cop-2.false,
      ne_eqb _ _ c.if-cop-3.false,
      eq-eqb _ _ c.if-cop-4.true,
    ) c.rd_of.ensures

pub returns-then-cop-5 : goal.returns-then-cop-5
unfolding col_of
returns-then-cop-5 c =
    simp (
      ne_eqb _ _ c.if-cop.false,
      lt-ltb _ _ c.if-column-columns.false,
      ne_eqb _ _ c.if-cop-2.false,
      ne_eqb _ _ c.if-cop-3.false,
      ne_eqb _ _ c.if-cop-4.false,
      eq-eqb _ _ c.if-cop-5.true,
    ) c.rd_of-then-cop-5.ensures

pub returns : goal.returns
unfolding col_of
returns c =
    simp (
      ne_eqb _ _ c.if-cop.false,
      lt-ltb _ _ c.if-column-columns.false,
      ne_eqb _ _ c.if-cop-2.false,
      ne_eqb _ _ c.if-cop-3.false,
      ne_eqb _ _ c.if-cop-4.false,
      ne_eqb _ _ c.if-cop-5.false,
    )
