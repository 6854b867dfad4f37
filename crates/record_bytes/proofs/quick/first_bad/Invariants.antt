-- `record_bytes::quick::first_bad` meets its contract: every record of the parts passed so far is well formed.
use Rattle.std.proofs.Common.{◌≡◌, ℕ, ◌-◌, ◌<◌, ◌≤◌, true}
use Rattle.record.specs.Record.{well_formed, record_at}
use Rattle.record_bytes.proofs.quick.first_bad.Given as goal

abbrev pub invariant-loop-i : goal.invariant-loop-i
invariant-loop-i l = (l.i ≤ l.n) × ((k : ℕ) → k < l.i → well_formed l.s (record_at l.list k) ≡ true)

abbrev pub decreases-loop-i : goal.decreases-loop-i
decreases-loop-i l = l.n - l.i
