-- `plan_bytes::calm::banks_top` meets its contract.
use Prim.Native.Nat.{◌*◌, ◌≤◌}
use Rattle.spec_rules.specs.Checks.{max_up_to}
use Rattle.plan_bytes.specs.Form.Numbers.{word}
use Rattle.plan_bytes.proofs.calm.banks_top.Given as goal

abbrev pub invariant-loop-i : goal.invariant-loop-i
invariant-loop-i l = max_up_to (λ k. word l.b (4 * k)) l.i ≤ l.top
