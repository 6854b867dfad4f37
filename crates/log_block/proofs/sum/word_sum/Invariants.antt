-- `log_block::sum::word_sum` meets its contract: after k turns the sum is that of the first k words, modulo 2^32.
use Rattle.std.proofs.Common.{◌≡◌, ◌%◌, ◌^◌}
use Rattle.log_block.specs.Block.{word_sum}
use Rattle.log_block.proofs.sum.word_sum.Given as goal

abbrev pub invariant-loop-k : goal.invariant-loop-k
invariant-loop-k l = l.s ≡ word_sum l.b l.k % 2 ^ 32
