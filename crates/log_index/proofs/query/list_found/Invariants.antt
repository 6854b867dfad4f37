-- `list_found` meets its contract: after k turns the blocks below k are listed.
use mathlib.Core.Path.{◌≡◌}
use Rattle.num.specs.Bytes.{splice}
use Rattle.num.specs.Marks.{count_up_to}
use Rattle.spec_index.specs.Query.{has_bit, numbers_where}
use Rattle.log_index.proofs.query.list_found.Given as goal

abbrev pub invariant-loop-k : goal.invariant-loop-k
invariant-loop-k l = (l.n ≡ count_up_to (has_bit l.index l.bank) l.k) × (l.out ≡ splice l.initial.out 0 (numbers_where (has_bit l.index l.bank) l.k))
