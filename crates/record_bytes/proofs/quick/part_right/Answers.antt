-- `record_bytes::quick::part_right` meets its contract: after k turns the first k records of the part, where all passed, are records.
use Rattle.std.proofs.Common.{◌≡◌, ◌+◌, refl, arith}
use Rattle.num.specs.Search.{all_up_to}
use Rattle.record.specs.Record.{well_formed, record_at}
use Rattle.record_bytes.proofs.quick.QuickLaws.{one_more_lem}
use Rattle.record_bytes.proofs.quick.part_right.Goals as goal

pub loop-k-init : goal.loop-k-init
unfolding all_up_to
loop-k-init c = λ e. refl

pub loop-k-preserved : goal.loop-k-preserved
loop-k-preserved c =
    let a = c.args in
    let l = c.loop-k in
    one_more_lem (λ j. well_formed a.s (record_at a.list.now (a.i + j))) l.k l.right c.record_right-right.result l.invariant c.record_right-right.ensures

pub returns : goal.returns
returns c =
    let e : c.loop-k.k ≡ c.args.n = omega arith in rw e at c.loop-k.invariant
