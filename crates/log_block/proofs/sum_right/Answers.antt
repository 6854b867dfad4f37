-- `log_block::sum_right` meets its contract: one comparison.
use Rattle.log_block.proofs.sum_right.Goals as goal

pub returns : goal.returns
returns c = rw c.word_sum.ensures
