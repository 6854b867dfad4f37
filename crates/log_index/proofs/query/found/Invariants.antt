-- `found` meets its contract: n is the count of the words passed so far.
use mathlib.Core.Path.{◌≡◌}
use Rattle.num.specs.Marks.{count_up_to}
use Rattle.spec_index.specs.Query.{has_bit}
use Rattle.log_index.proofs.query.found.Given as goal

abbrev pub invariant-loop-k : goal.invariant-loop-k
invariant-loop-k l = l.n ≡ count_up_to (has_bit l.index l.bank) l.k
