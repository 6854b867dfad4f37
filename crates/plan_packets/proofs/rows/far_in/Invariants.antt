-- `plan_packets::rows::far_in` meets its contract.
use Prim.Native.Nat.{◌*◌}
use mathlib.Core.Path.{◌≡◌}
use mathlib.Core.Bool.{cond}
use Rattle.spec_rules.specs.Neighbour.{context_of, near}
use Rattle.spec_rules.specs.Checks.{max_up_to}
use Rattle.plan_bytes.specs.Form.Numbers.{word}
use Rattle.plan_packets.proofs.rows.far_in.Given as goal

abbrev pub invariant-loop-i : goal.invariant-loop-i
invariant-loop-i l = l.m ≡ max_up_to (λ y. cond (near (context_of l.s) l.x y) 0 (word l.b (4 * y))) l.i
