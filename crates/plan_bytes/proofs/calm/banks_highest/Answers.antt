-- `plan_bytes::calm::banks_highest` meets its contract.
use Prim.Native.Nat.{◌*◌}
use mathlib.Core.Path.{refl}
use Rattle.spec_rules.specs.Checks.{max_up_to}
use Rattle.plan_bytes.specs.Form.Numbers.{word}
use Rattle.plan_bytes.proofs.Wholes.{max-step}
use Rattle.plan_bytes.proofs.calm.banks_highest.Goals as goal

pub loop-i-init : goal.loop-i-init
unfolding max_up_to
loop-i-init c = refl

pub loop-i-preserved : goal.loop-i-preserved
loop-i-preserved c = max-step (λ k. word c.args.b.now (4 * k)) c.loop-i.i c.loop-i.invariant c.u32_at.ensures c.max-high.ensures
