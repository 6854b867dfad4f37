-- `found_in` meets its contract: the blocks before block k are right in every turn, the first bad record of theirs is known, and where
-- their stamps were the same so far they are.
use Prim.Native.Nat.{ℕ, ◌+◌, ◌≤◌}
use mathlib.Core.List.{List}
use mathlib.Core.Path.{◌≡◌, refl, sym, ◌∙◌}
use mathlib.Core.Bool.{Bool}
use native.Mathlib.Omega.{arith}
use lib.Dec.{eqb}
use borrow.Author.Count.{below_more}
use Rattle.num.specs.Search.{first_false}
use Rattle.num.proofs.SearchLaws.{first-at, first-none}
use Rattle.settings.proofs.SettingsLaws.{both_true}
use Rattle.record.specs.Record.{first_bad}
use Rattle.log_block.specs.Block.{blocks_in, block_at, first_bad_block, list_up_to}
use Rattle.log_block.proofs.BlockLaws.{right_at}
use Rattle.log_block.proofs.OneBlock.{right_of}
use Rattle.log_list.proofs.BadLaws.{bad-next}
use Rattle.log_stamp.specs.Stamp.{stamp_at, same_stamp}
use Rattle.log_stamp.proofs.found_in.Goals as goal

abbrev same_at : List ℕ → ℕ → Bool
same_at log k = same_stamp (stamp_at log k) (stamp_at log 0)

pub loop-k-init : goal.loop-k-init
unfolding first_bad first_false list_up_to
loop-k-init c = (λ i h. absurd (omega arith), refl, λ e i h. absurd (omega arith))

pub returns-then-not-right_at : goal.returns-then-not-right_at
unfolding first_bad_block
returns-then-not-right_at c =
    let log = c.args.log.now in
    let bad = first-at (right_at 14 log) (blocks_in log) c.loop-k.k c.loop-k.invariant.0 (omega arith) (sym c.right_at.ensures ∙ c.if-not-right_at.true) in
    record {
      block_value = (sym bad, rw bad c.loop-k.invariant.1);
      log_value = c.loop-k.invariant.2;
    }

pub bad_up_to-bad-requires : goal.bad_up_to-bad-requires
bad_up_to-bad-requires c =
    let log = c.args.log.now in
    let k = c.loop-k.k in
    let t = eqb (k + 1) (blocks_in log) in
    (omega arith, (right_of 14 k t (block_at log k) (sym c.right_at.ensures ∙ c.if-not-right_at.false)).used-most)

pub loop-k-preserved : goal.loop-k-preserved
loop-k-preserved c =
    let a = c.args in
    let k = c.loop-k.k in
    let most : 14 ≤ 15 = omega arith in (
      below_more _ _ c.loop-k.invariant.0 (sym c.right_at.ensures ∙ c.if-not-right_at.false),
      rw (c.bad_up_to-bad.ensures, c.loop-k.invariant.1) (sym (bad-next a.s 14 most a.log.now k c.loop-k.invariant.0 (omega arith))),
      λ e. let w = both_true {a = c.loop-k.same} e in below_more _ _ (c.loop-k.invariant.2 w.0) (sym c.same_at-same.ensures ∙ w.1),
    )

pub returns : goal.returns
unfolding first_bad_block
returns c =
    let log = c.args.log.now in
    let e : c.loop-k.k ≡ blocks_in log = omega arith in
    let good = first-none (right_at 14 log) (blocks_in log) (rw e at c.loop-k.invariant.0) in
    record {
      block_value = (omega (arith, good), rw (good, ← e) c.loop-k.invariant.1);
      log_value = λ h i l. c.loop-k.invariant.2 h i (omega arith);
    }
