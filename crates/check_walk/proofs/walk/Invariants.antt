-- `walk` meets its contract: the state is that after the records passed, each of which is one and breaks no rule.
use Prim.Native.Nat.{ℕ, ◌-◌, ◌<◌, ◌≤◌}
use mathlib.Core.Path.{◌≡◌}
use mathlib.Core.Bool.{true}
use lib.ListN.{length}
use Rattle.spec_rules.specs.Neighbour.{context_of}
use Rattle.spec_rules.specs.Checks.{channel_after}
use Rattle.check_walk.specs.Form.Turn.{channel_of}
use Rattle.check_walk.specs.Form.Walk.{records_via}
use Rattle.check_walk.proofs.StopLaws.{holds}
use Rattle.check_walk.proofs.StoreLaws.{Within, Opened}
use Rattle.check_walk.proofs.walk.Given as goal

abbrev pub invariant-loop-i : goal.invariant-loop-i
invariant-loop-i l = (l.i ≤ l.n) × (channel_of l.banks l.l l.buffer l.latest.due ≡ channel_after (context_of l.s) (records_via (context_of l.s).settings l.per l.b l.n) l.i) × (length l.banks ≡ 32) × Opened l.latest.opened l.banks × Within l.buffer
    × ((j : ℕ) → j < l.i → holds (context_of l.s) l.per l.b l.n j ≡ true)

abbrev pub decreases-loop-i : goal.decreases-loop-i
decreases-loop-i l = l.n - l.i
