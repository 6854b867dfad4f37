-- `plan_by_value::steps::loaded` meets its contract: where the data are in time, one record more.
use mathlib.Core.Path.{◌≡◌, sym, ◌∙◌}
use mathlib.Core.Bool.{cond}
use lib.ListN.{length}
use Rattle.chan_view.proofs.PlaceLaws.{length-of-map}
use Rattle.plan_by_value.proofs.StepLaws.{arrival-in, draws-unloaded, draws-loaded}
use native.Mathlib.Omega.{arith}
use Rattle.spec_rules.specs.Packets.{instant}
use Rattle.plan_by_value.proofs.steps.loaded.Goals as goal
use Rattle.plan_by_value.proofs.steps.loaded.Goals.{then-beside, else-beside, then-beside-2, else-beside-2}

pub returns-in_default : goal.returns-in_default
returns-in_default c p e k = rw c.moved.ensures (draws-unloaded c.args.s p c.args.d e c.args.mask c.args.bytes k (sym c.write_arrival.ensures.value ∙ c.in_default.is))

pub after-requires : goal.after-requires
unfolding instant
after-requires c = omega (arith, arrival-in c.args.d.planner.now c.args.s.cwd _ (sym c.write_arrival.ensures.value ∙ c.in-Some.is), c.requires)

pub returns : goal.returns
returns c p e k =
    let long : length c.args.d.list ≡ 32 = search (length-of-map, c.well_formed.1.1.1.0) in
    let older : c.if-beside.planner ≡ cond c.two-beside.result c.args.d.planner.mask c.args.mask =
    elim c.if-beside.branch [ then-beside w ↦ rw w.if-beside.true w.planner-is | else-beside w ↦ rw w.if-beside.false w.planner-is ]
    in
    let newer : c.if-beside-2.planner ≡ cond c.two-beside.result c.args.mask c.args.d.planner.second =
    elim c.if-beside-2.branch [ then-beside-2 w ↦ rw w.if-beside-2.true w.planner-is | else-beside-2 w ↦ rw w.if-beside-2.false w.planner-is ]
    in
    rw (c.added.ensures, newer, older, c.after.ensures, c.two-beside.ensures)
    (draws-loaded c.args.s p c.args.d e c.args.mask c.args.bytes _ (long) k (sym c.write_arrival.ensures.value ∙ c.in-Some.is))
