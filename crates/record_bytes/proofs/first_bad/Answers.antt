-- `first_bad` meets its contract: every record passed so far is well formed.
use Rattle.std.proofs.Common.{sym, ◌∙◌, arith, below_more}
use Rattle.num.proofs.SearchLaws.{first-at, first-none}
use Rattle.record.specs.Record.{first_bad}
use Rattle.record_bytes.proofs.first_bad.Goals as goal

pub loop-i-init : goal.loop-i-init
loop-i-init c = λ k l. absurd (omega arith)

pub loop-i-preserved : goal.loop-i-preserved
loop-i-preserved c = below_more _ _ c.loop-i.invariant (sym c.well_formed-in-loop-i.ensures ∙ c.if-not-well_formed.false)

pub returns-then-not-well_formed : goal.returns-then-not-well_formed
unfolding first_bad
returns-then-not-well_formed c = sym (first-at _ _ _ c.loop-i.invariant (omega arith) (sym c.well_formed-in-loop-i.ensures ∙ c.if-not-well_formed.true))

pub returns : goal.returns
unfolding first_bad
returns c =
    let k = c.loop-i in
    sym (first-none _ _ (λ i h. k.invariant i (omega arith)))
