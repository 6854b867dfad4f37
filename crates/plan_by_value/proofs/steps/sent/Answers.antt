-- `plan_by_value::steps::sent` meets its contract: the packet in its place, and the state after it.
use mathlib.Core.Path.{◌≡◌}
use lib.ListN.{length}
use Rattle.chan_view.proofs.PlaceLaws.{length-of-map}
use Rattle.spec_plan.specs.Plan.{slot}
use Rattle.plan_by_value.specs.Form.Drawn.{packet_of}
use Rattle.plan_by_value.proofs.StepLaws.{placed-in-range, unplaced, draws-sent}
use native.Mathlib.Omega.{arith}
use Rattle.plan_by_value.proofs.steps.sent.Goals as goal

pub after-next-requires : goal.after-next-requires
after-next-requires c = rw (c.placed_in-q.ensures, c.clipped-at.ensures) (omega (arith, placed-in-range c.args.s c.args.d.planner c.least_from-slot.result c.args.c, c.requires))

pub returns : goal.returns
unfolding slot
returns c p e k =
    let long : length c.args.d.list ≡ 32 = search (length-of-map, c.well_formed.1.1.0) in
    rw (
      c.added.ensures,
      c.is_late.ensures,
      c.max-delay.ensures,
      c.implied_delay.ensures,
      c.record_at-3.ensures,
      c.data_delay.ensures,
      c.shifted.ensures,
      c.record_at-2.ensures,
      c.after-next.ensures,
      c.placed_in-q.ensures,
      c.clipped-at.ensures,
      c.least_from-slot.ensures,
      c.record_at.ensures,
      unplaced c.args.c,
    )
    (draws-sent c.args.s p c.args.d e (packet_of c.args.c) (long) k)
