-- `record_bytes::quick::all_right` meets its contract: after each turn the first k records, where all passed, are records, or all of them.
use Rattle.std.proofs.Common.{◌≡◌, ℕ, ◌+◌, ◌-◌, ◌<◌, ◌≤◌, true}
use Rattle.record.specs.Record.{well_formed, record_at}
use Rattle.record_bytes.proofs.quick.all_right.Given as goal

abbrev pub invariant-loop-k : goal.invariant-loop-k
invariant-loop-k l = (l.k ≤ l.n + 3) × (l.right ≡ true → (j : ℕ) → j < l.k → j < l.n → well_formed l.s (record_at l.b j) ≡ true)

abbrev pub decreases-loop-k : goal.decreases-loop-k
decreases-loop-k l = l.n + 3 - l.k
