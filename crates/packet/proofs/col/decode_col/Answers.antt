-- `decode_col` meets its contract: each return rewrites the definition with the tests that led to it.
use mathlib.Core.Path.{sym, ◌∙◌}
use Rattle.packet.specs.Col.{col_decoded}
use Rattle.packet.proofs.col.decode_col.Goals as goal

pub returns-then-not-head_fits : goal.returns-then-not-head_fits
unfolding col_decoded
returns-then-not-head_fits c = simp (sym c.head_fits.ensures ∙ c.if-not-head_fits.true)

pub returns-then-not-mask_said : goal.returns-then-not-mask_said
unfolding col_decoded
returns-then-not-mask_said c =
    let h = sym c.head_fits.ensures ∙ c.if-not-head_fits.false in
    let m = sym c.mask_said.ensures ∙ c.if-not-mask_said.true in
    simp (h, m)

pub returns : goal.returns
unfolding col_decoded
returns c =
    let h = sym c.head_fits.ensures ∙ c.if-not-head_fits.false in
    let m = sym c.mask_said.ensures ∙ c.if-not-mask_said.false in
    simp (h, m) (rw c.mask_of.ensures at c.col_of.ensures)
