-- `first_other` meets its contract: the stamps of the blocks before block k are that of block 0 in every turn.
use mathlib.Core.List.{List}
use mathlib.Core.Path.{◌≡◌, sym, ◌∙◌}
use mathlib.Core.Bool.{Bool}
use Prim.Native.Nat.{ℕ}
use native.Mathlib.Omega.{arith}
use borrow.Author.Count.{below_more}
use Rattle.num.proofs.SearchLaws.{first-at, first-none}
use Rattle.log_block.specs.Block.{blocks_in}
use Rattle.log_stamp.specs.Stamp.{stamp_at, same_stamp}
use Rattle.log_stamp.proofs.first_other.Goals as goal

abbrev same_at : List ℕ → ℕ → Bool
same_at log k = same_stamp (stamp_at log k) (stamp_at log 0)

pub loop-k-init : goal.loop-k-init
loop-k-init c = λ i h. absurd (omega arith)

pub returns-then-not-same_at : goal.returns-then-not-same_at
returns-then-not-same_at c =
    let log = c.args.log.now in
    sym (first-at (same_at log) (blocks_in log) c.loop-k.k c.loop-k.invariant (omega arith) (sym c.same_at.ensures ∙ c.if-not-same_at.true))

pub loop-k-preserved : goal.loop-k-preserved
loop-k-preserved c = below_more _ _ c.loop-k.invariant (sym c.same_at.ensures ∙ c.if-not-same_at.false)

pub returns : goal.returns
returns c =
    let log = c.args.log.now in
    let e : c.loop-k.k ≡ blocks_in log = omega arith in
    sym (first-none (same_at log) (blocks_in log) (rw e at c.loop-k.invariant))
