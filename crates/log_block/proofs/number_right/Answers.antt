-- `log_block::number_right` meets its contract: one comparison.
use Rattle.log_block.proofs.number_right.Goals as goal

pub returns : goal.returns
returns c = rw (c.from.ensures, c.u32_at.ensures)
