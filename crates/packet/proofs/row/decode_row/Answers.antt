-- `decode_row` meets its contract: each return rewrites the definition with the tests that led to it.
use mathlib.Core.Path.{sym, ◌∙◌}
use borrow.Author.Tests.{eq-eqb, ne_eqb, lt-ltb, le-ltb}
use Rattle.packet.specs.Row.{row_decoded}
use Rattle.packet.proofs.row.decode_row.Goals as goal

pub returns-then-w-device_head : goal.returns-then-w-device_head
unfolding row_decoded
returns-then-w-device_head c = simp (ne_eqb _ _ (λ e. c.if-w-device_head.true (e ∙ sym c.device_head.ensures.0)))

pub returns-then-w-ne1 : goal.returns-then-w-ne1
unfolding row_decoded
returns-then-w-ne1 c = simp (eq-eqb _ _ (c.if-w-device_head.false ∙ c.device_head.ensures.0), ne_eqb _ _ c.if-w-ne1.true) c.row_of.ensures

pub returns-then-low-rows : goal.returns-then-low-rows
unfolding row_decoded
returns-then-low-rows c = simp (eq-eqb _ _ (c.if-w-device_head.false ∙ c.device_head.ensures.0), eq-eqb _ _ c.if-w-ne1.false, lt-ltb _ _ c.if-low-rows.true)

pub returns : goal.returns
unfolding row_decoded
returns c = simp (eq-eqb _ _ (c.if-w-device_head.false ∙ c.device_head.ensures.0), eq-eqb _ _ c.if-w-ne1.false, le-ltb _ _ c.if-low-rows.false)
