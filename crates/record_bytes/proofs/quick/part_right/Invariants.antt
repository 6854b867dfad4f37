-- `record_bytes::quick::part_right` meets its contract: after k turns the first k records of the part, where all passed, are records.
use Rattle.std.proofs.Common.{◌≡◌, ◌+◌, true}
use Rattle.num.specs.Search.{all_up_to}
use Rattle.record.specs.Record.{well_formed, record_at}
use Rattle.record_bytes.proofs.quick.part_right.Given as goal

abbrev pub invariant-loop-k : goal.invariant-loop-k
invariant-loop-k l = l.right ≡ true → all_up_to (λ j. well_formed l.s (record_at l.list (l.i + j))) l.k ≡ true
