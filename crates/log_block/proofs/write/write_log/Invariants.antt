-- `log_block::write::write_log` meets its contract: after k turns the first k blocks are written.
use Rattle.std.proofs.Common.{◌≡◌}
use Rattle.num.specs.Bytes.{splice}
use Rattle.log_block.specs.Block.{log_up_to}
use Rattle.log_block.proofs.write.write_log.Given as goal

abbrev pub invariant-loop-k : goal.invariant-loop-k
invariant-loop-k l = l.log ≡ splice l.initial.log 0 (log_up_to l.form.per l.form.stamp.now l.list l.k)
