-- `log_block::read::read_list` meets its contract: after k turns the records of the first k blocks are copied.
use Rattle.std.proofs.Common.{◌≡◌}
use Rattle.num.specs.Bytes.{splice}
use Rattle.log_block.specs.Block.{list_up_to}
use Rattle.log_block.proofs.read.read_list.Given as goal

abbrev pub invariant-loop-k : goal.invariant-loop-k
invariant-loop-k l = l.list ≡ splice l.initial.list 0 (list_up_to l.log l.k)
