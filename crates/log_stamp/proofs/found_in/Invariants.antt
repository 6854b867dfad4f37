-- `found_in` meets its contract: the blocks before block k are right in every turn, the first bad record of theirs is known, and where
-- their stamps were the same so far they are.
use Prim.Native.Nat.{ℕ, ◌<◌}
use mathlib.Core.List.{List}
use mathlib.Core.Path.{◌≡◌}
use mathlib.Core.Bool.{Bool, true}
use Rattle.record.specs.Record.{first_bad}
use Rattle.log_block.specs.Block.{list_up_to}
use Rattle.log_block.proofs.BlockLaws.{right_at}
use Rattle.log_stamp.specs.Stamp.{stamp_at, same_stamp}
use Rattle.log_stamp.proofs.found_in.Given as goal

-- whether block k has the stamp of block 0
abbrev same_at : List ℕ → ℕ → Bool
same_at log k = same_stamp (stamp_at log k) (stamp_at log 0)

abbrev pub invariant-loop-k : goal.invariant-loop-k
invariant-loop-k l = ((i : ℕ) → i < l.k → right_at 14 l.log i ≡ true) × (l.bad ≡ first_bad l.s (list_up_to l.log l.k)) × (l.same ≡ true → (i : ℕ) → i < l.k → same_at l.log i ≡ true)
