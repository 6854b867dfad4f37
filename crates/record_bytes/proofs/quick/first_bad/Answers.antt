-- `record_bytes::quick::first_bad` meets its contract: every record of the parts passed so far is well formed.
use Rattle.std.proofs.Common.{sym, arith}
use Rattle.num.proofs.SearchLaws.{first-none}
use Rattle.record.specs.Record.{first_bad}
use Rattle.record_bytes.proofs.quick.QuickLaws.{part-more}
use Rattle.record_bytes.proofs.quick.first_bad.Goals as goal

pub loop-i-init : goal.loop-i-init
loop-i-init c = (omega arith, λ k l. absurd (omega arith))

pub loop-i-smaller : goal.loop-i-smaller
loop-i-smaller c = omega (arith, c.min-m.ensures, c.loop-i-test.true)

pub loop-i-preserved : goal.loop-i-preserved
loop-i-preserved c =
    let l = c.loop-i in
    let a = c.args in
    (omega (arith, c.min-m.ensures), part-more a.s a.list.now l.i c.min-m.result l.invariant.1 (c.part_right.ensures c.if-part_right.true))

pub returns : goal.returns
unfolding first_bad
returns c =
    let k = c.loop-i in
    sym (first-none _ _ (λ i h. k.invariant.1 i (omega arith)))
