-- `first_bad` meets its contract: every record passed so far is well formed.
use Rattle.std.proofs.Common.{◌≡◌, ℕ, ◌<◌, true}
use Rattle.record.specs.Record.{well_formed, record_at}
use Rattle.record_bytes.proofs.first_bad.Given as goal

abbrev pub invariant-loop-i : goal.invariant-loop-i
invariant-loop-i l = (k : ℕ) → k < l.i → well_formed l.s (record_at l.list k) ≡ true
