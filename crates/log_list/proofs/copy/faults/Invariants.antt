-- `faults` meets its contract: the blocks before block k are right in every turn, and the first bad record of theirs is known.
use Prim.Native.Nat.{ℕ, ◌<◌}
use mathlib.Core.Path.{◌≡◌}
use mathlib.Core.Bool.{true}
use Rattle.record.specs.Record.{first_bad}
use Rattle.log_block.specs.Block.{list_up_to}
use Rattle.log_block.proofs.BlockLaws.{right_at}
use Rattle.log_list.proofs.copy.faults.Given as goal

abbrev pub invariant-loop-k : goal.invariant-loop-k
invariant-loop-k l = ((i : ℕ) → i < l.k → right_at l.per.records l.log i ≡ true) × (l.bad ≡ first_bad l.s (list_up_to l.log l.k))
