-- `first_other` meets its contract: the stamps of the blocks before block k are that of block 0 in every turn.
use mathlib.Core.List.{List}
use mathlib.Core.Path.{◌≡◌}
use mathlib.Core.Bool.{Bool, true}
use Prim.Native.Nat.{ℕ, ◌<◌}
use Rattle.log_stamp.specs.Stamp.{stamp_at, same_stamp}
use Rattle.log_stamp.proofs.first_other.Given as goal

-- whether block k has the stamp of block 0
abbrev same_at : List ℕ → ℕ → Bool
same_at log k = same_stamp (stamp_at log k) (stamp_at log 0)

abbrev pub invariant-loop-k : goal.invariant-loop-k
invariant-loop-k l = (i : ℕ) → i < l.k → same_at l.log i ≡ true
