-- `state_bytes::tested::tops` meets its contract: top is no less than each instant passed so far.
use Prim.Native.Nat.{ℕ, ◌+◌, ◌*◌, ◌≤◌, ◌<◌}
use Rattle.num.specs.Bytes.{number, part}
use Rattle.state_bytes.proofs.tested.tops.Given as goal

abbrev pub invariant-loop-i : goal.invariant-loop-i
invariant-loop-i l = (k : ℕ) → k < l.i → number (part l.b (l.at + 4 * k) 4) ≤ l.top
