-- `plan_packets::rows::latest_in` meets its contract.
use Prim.Native.Nat.{◌*◌}
use mathlib.Core.Path.{◌≡◌}
use Rattle.spec_rules.specs.Checks.{max_up_to}
use Rattle.plan_bytes.specs.Form.Numbers.{word}
use Rattle.plan_packets.proofs.rows.latest_in.Given as goal

abbrev pub invariant-loop-i : goal.invariant-loop-i
invariant-loop-i l = l.m ≡ max_up_to (λ y. word l.b (4 * y)) l.i
