-- `same_stamp` meets its contract: the bytes before index i are compared in every turn.
use mathlib.Core.Path.{◌≡◌}
use native.Mathlib.Omega.{arith}
use lib.Dec.{eqb}
use lib.ListN.{get_or}
use Rattle.num.specs.Search.{all_up_to}
use Rattle.num.proofs.SearchLaws.{all-next}
use borrow.Author.Rules.{rules}
use Rattle.log_stamp.proofs.same_stamp.Goals as goal

pub loop-i-preserved : goal.loop-i-preserved
loop-i-preserved c =
    let a = c.args in
    rw (all-next (λ j. eqb (get_or a.a.now j 0) (get_or a.b.now j 0)) c.loop-i.i, c.loop-i.invariant)

pub returns : goal.returns
returns c =
    let e : c.loop-i.i ≡ 32 = omega arith in rw e at c.loop-i.invariant

pub loop-i-init : goal.loop-i-init
unfolding all_up_to
loop-i-init c = search rules
