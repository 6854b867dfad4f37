-- `encode_col` meets its contract: the test and the word are those of the definition.
use mathlib.Core.Bool.{true, false}
use mathlib.Core.Path.{◌≡◌, sym, ◌∙◌}
use Rattle.packet.specs.Col.{col_fits, col_coded}
use Rattle.packet.proofs.col.encode_col.Goals as goal

pub returns-then-col_fits : goal.returns-then-col_fits
unfolding col_coded
returns-then-col_fits c =
    let a = c.args in
    let fits : col_fits a.columns a.p ≡ true = sym c.col_fits.ensures ∙ c.if-col_fits.true in
    rw (fits, c.col_word.ensures)

pub returns-else-col_fits : goal.returns-else-col_fits
unfolding col_coded
returns-else-col_fits c =
    let a = c.args in
    let fits : col_fits a.columns a.p ≡ false = sym c.col_fits.ensures ∙ c.if-col_fits.false in
    rw fits
