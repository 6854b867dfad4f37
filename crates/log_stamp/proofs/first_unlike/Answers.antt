-- `first_unlike` meets its contract.
use mathlib.Core.List.{List}
use mathlib.Core.Path.{sym}
use mathlib.Core.Bool.{Bool}
use Prim.Native.Nat.{ℕ}
use Rattle.num.proofs.SearchLaws.{first-none}
use Rattle.log_block.specs.Block.{blocks_in}
use Rattle.log_stamp.specs.Stamp.{stamp_at, same_stamp}
use Rattle.log_stamp.proofs.first_unlike.Goals as goal

abbrev same_at : List ℕ → ℕ → Bool
same_at log k = same_stamp (stamp_at log k) (stamp_at log 0)

pub returns-then-same : goal.returns-then-same
returns-then-same c = sym (first-none (same_at c.args.log.now) (blocks_in c.args.log.now) (c.requires c.if-same.true))
