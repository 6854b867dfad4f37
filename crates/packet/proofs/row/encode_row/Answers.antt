-- `encode_row` meets its contract: the test and the word are those of the definition.
use mathlib.Core.Bool.{true, false}
use mathlib.Core.Path.{◌≡◌, sym, ◌∙◌}
use Rattle.packet.specs.Row.{row_fits, row_coded}
use Rattle.packet.proofs.row.encode_row.Goals as goal

pub returns-then-row_fits : goal.returns-then-row_fits
unfolding row_coded
returns-then-row_fits c =
    let a = c.args in
    let fits : row_fits a.rows a.p ≡ true = sym c.row_fits.ensures ∙ c.if-row_fits.true in
    rw (fits, c.row_word.ensures)

pub returns-else-row_fits : goal.returns-else-row_fits
unfolding row_coded
returns-else-row_fits c =
    let a = c.args in
    let fits : row_fits a.rows a.p ≡ false = sym c.row_fits.ensures ∙ c.if-row_fits.false in
    rw fits
