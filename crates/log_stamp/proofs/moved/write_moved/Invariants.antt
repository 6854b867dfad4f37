-- `write_moved` meets its contract: after k turns the first k blocks are written.
use mathlib.Core.Path.{◌≡◌}
use Rattle.num.specs.Bytes.{splice}
use Rattle.log_block.specs.Block.{log_up_to, list_of}
use Rattle.log_stamp.proofs.moved.write_moved.Given as goal

abbrev pub invariant-loop-k : goal.invariant-loop-k
invariant-loop-k l = l.out ≡ splice l.initial.out 0 (log_up_to l.next.per l.next.stamp.now (list_of l.log) l.k)
