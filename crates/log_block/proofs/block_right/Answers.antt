-- `log_block::block_right` meets its contract: each way out decides one of the four tests.
use Rattle.std.proofs.Common.{sym, ◌∙◌, rules}
use Rattle.log_block.specs.Block.{block_right}
use Rattle.log_block.proofs.OneBlock.{count-says}
use Rattle.log_block.proofs.block_right.Goals as goal

pub returns-then-not-number_right : goal.returns-then-not-number_right
unfolding block_right
returns-then-not-number_right c = rw (sym c.number_right.ensures ∙ c.if-not-number_right.true)

pub returns-then-not-count_right : goal.returns-then-not-count_right
unfolding block_right
returns-then-not-count_right c = rw (sym c.number_right.ensures ∙ c.if-not-number_right.false, sym c.count_right.ensures ∙ c.if-not-count_right.true)

pub zeros_right-requires : goal.zeros_right-requires
zeros_right-requires c =
    let a = c.args in (count-says a.per.records a.last a.b.now (sym c.count_right.ensures ∙ c.if-not-count_right.false)).1

pub returns-then-not-zeros_right : goal.returns-then-not-zeros_right
unfolding block_right
returns-then-not-zeros_right c = rw (sym c.number_right.ensures ∙ c.if-not-number_right.false, sym c.count_right.ensures ∙ c.if-not-count_right.false, sym c.zeros_right.ensures ∙ c.if-not-zeros_right.true)

pub returns : goal.returns
unfolding block_right
returns c = rw (sym c.number_right.ensures ∙ c.if-not-number_right.false, sym c.count_right.ensures ∙ c.if-not-count_right.false, sym c.zeros_right.ensures ∙ c.if-not-zeros_right.false, c.sum_right.ensures)
