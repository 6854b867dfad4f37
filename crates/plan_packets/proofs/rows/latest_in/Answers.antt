-- `plan_packets::rows::latest_in` meets its contract.
use Prim.Native.Nat.{◌*◌}
use mathlib.Core.Path.{◌≡◌, refl}
use native.Mathlib.Omega.{arith}
use Rattle.spec_rules.specs.Checks.{max_up_to}
use Rattle.plan_bytes.specs.Form.Numbers.{word}
use Rattle.plan_packets.specs.Form.RowSlots.{latest_in}
use Rattle.plan_bytes.proofs.Wholes.{max-step}
use Rattle.plan_packets.proofs.rows.latest_in.Goals as goal

pub loop-i-init : goal.loop-i-init
unfolding max_up_to
loop-i-init c = refl

pub loop-i-preserved : goal.loop-i-preserved
loop-i-preserved c = max-step (λ y. word c.args.b.now (4 * y)) c.loop-i.i c.loop-i.invariant c.u32_at.ensures c.max-m.ensures

pub returns : goal.returns
unfolding latest_in
returns c =
    let e : c.loop-i.i ≡ 32 = omega arith in rw e at c.loop-i.invariant
