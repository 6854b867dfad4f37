-- `plan_bytes::calm::banks_top` meets its contract.
use Prim.Native.Nat.{◌*◌}
use mathlib.Core.Path.{refl}
use native.Mathlib.Omega.{arith}
use Rattle.spec_rules.specs.Checks.{max_up_to}
use Rattle.plan_bytes.specs.Form.Numbers.{word}
use Rattle.plan_bytes.proofs.calm.CalmLaws.{or_step}
use Rattle.plan_bytes.proofs.calm.banks_top.Goals as goal

pub loop-i-init : goal.loop-i-init
unfolding max_up_to
loop-i-init c = omega arith

pub loop-i-preserved : goal.loop-i-preserved
loop-i-preserved c = or_step (λ k. word c.args.b.now (4 * k)) c.loop-i.i c.loop-i.invariant c.u32_at-top.ensures refl
