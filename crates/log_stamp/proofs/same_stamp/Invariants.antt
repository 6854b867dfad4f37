-- `same_stamp` meets its contract: the bytes before index i are compared in every turn.
use mathlib.Core.Path.{◌≡◌}
use lib.Dec.{eqb}
use lib.ListN.{get_or}
use Rattle.num.specs.Search.{all_up_to}
use Rattle.log_stamp.proofs.same_stamp.Given as goal

abbrev pub invariant-loop-i : goal.invariant-loop-i
invariant-loop-i l = l.same ≡ all_up_to (λ j. eqb (get_or l.a j 0) (get_or l.b j 0)) l.i
