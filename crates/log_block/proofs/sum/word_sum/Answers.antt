-- `log_block::sum::word_sum` meets its contract: after k turns the sum is that of the first k words, modulo 2^32.
use Rattle.std.proofs.Common.{◌≡◌, arith, rules}
use Rattle.log_block.specs.Block.{word_sum}
use Rattle.log_block.proofs.BlockLaws.{sum-next}
use Rattle.log_block.proofs.sum.word_sum.Goals as goal

pub loop-k-preserved : goal.loop-k-preserved
loop-k-preserved c = omega (arith, sum-next c.args.b.now c.loop-k.k)

pub returns : goal.returns
returns c =
    let e : c.loop-k.k ≡ c.args.n = omega arith in rw e at c.loop-k.invariant

pub loop-k-init : goal.loop-k-init
unfolding word_sum
loop-k-init c = search rules
