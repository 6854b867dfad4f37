-- `row_of` meets its contract: the opcodes are tested in the definition's order.
use borrow.Author.Tests.{eq-eqb, ne_eqb}
use Rattle.packet.specs.Row.{row_of}
use Rattle.packet.proofs.row.row_of.Goals as goal

pub returns-then-rop : goal.returns-then-rop
unfolding row_of
returns-then-rop c = simp (eq-eqb _ _ c.if-rop.true)

pub returns-then-rop-2 : goal.returns-then-rop-2
unfolding row_of
returns-then-rop-2 c = simp (ne_eqb _ _ c.if-rop.false, eq-eqb _ _ c.if-rop-2.true)

pub returns-then-rop-3 : goal.returns-then-rop-3
unfolding row_of
returns-then-rop-3 c = simp (ne_eqb _ _ c.if-rop.false, ne_eqb _ _ c.if-rop-2.false, eq-eqb _ _ c.if-rop-3.true)

pub returns : goal.returns
unfolding row_of
returns c = simp (ne_eqb _ _ c.if-rop.false, ne_eqb _ _ c.if-rop-2.false, ne_eqb _ _ c.if-rop-3.false)
