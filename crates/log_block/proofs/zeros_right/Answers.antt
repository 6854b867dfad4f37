-- `log_block::zeros_right` meets its contract: the unused records are tested where the zeros are right.
use Rattle.std.proofs.Common.{◌≡◌, true, false, sym, ◌∙◌}
use Rattle.log_block.specs.Block.{all_zero}
use Rattle.log_block.proofs.zeros_right.Goals as goal

pub returns-then-all_zero : goal.returns-then-all_zero
returns-then-all_zero c =
    let b = c.args.b.now in
    let z : all_zero b 488 20 ≡ true = sym c.all_zero.ensures ∙ c.if-all_zero.true in
    rw (z, c.all_zero-then-all_zero.ensures, c.u32_at.ensures)

pub returns : goal.returns
returns c =
    let z : all_zero c.args.b.now 488 20 ≡ false = sym c.all_zero.ensures ∙ c.if-all_zero.false in
    rw z
