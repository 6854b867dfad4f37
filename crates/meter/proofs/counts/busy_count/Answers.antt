-- `meter::counts::busy_count` meets its contract: four for each mark, less those that the window cuts off.
use Prim.Native.Nat.{◌+◌, ◌*◌}
use mathlib.Core.Path.{◌≡◌}
use native.Mathlib.Omega.{arith}
use Rattle.meter.specs.Meter.{meter_of, busy_count}
use Rattle.meter.proofs.ValidLaws.{valid-in}
use Rattle.meter.proofs.CycleLaws.{busy-form}
use Rattle.meter.proofs.RunLaws.{most-busy}
use Rattle.meter.proofs.counts.busy_count.Goals as goal

pub overflow_sub-result : goal.overflow_sub-result
overflow_sub-result c =
    let counted : 4 * c.count-n.result ≡ busy_count (meter_of c.args.marks.now c.args.newest) + (c.one.result + 2 * c.one-2.result + 3 * c.one-3.result) = let m = meter_of c.args.marks.now c.args.newest in
    rw (c.count-n.ensures.0, c.one.ensures.0, c.one-2.ensures.0, c.one-3.ensures.0)
    (busy-form m.marks m.newest (valid-in m (omega arith) c.requires.newest_value)) in
    omega (arith, counted)

pub returns : goal.returns
returns c =
    let counted : 4 * c.count-n.result ≡ busy_count (meter_of c.args.marks.now c.args.newest) + (c.one.result + 2 * c.one-2.result + 3 * c.one-3.result) = let m = meter_of c.args.marks.now c.args.newest in
    rw (c.count-n.ensures.0, c.one.ensures.0, c.one-2.ensures.0, c.one-3.ensures.0)
    (busy-form m.marks m.newest (valid-in m (omega arith) c.requires.newest_value)) in
    let b = most-busy (meter_of c.args.marks.now c.args.newest) in
    (omega (arith, counted), omega (arith, counted, b))
