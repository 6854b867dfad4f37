-- `first_wrong` meets its contract: the words before word k are right in every turn.
use mathlib.Core.Path.{◌≡◌, sym, ◌∙◌}
use native.Mathlib.Omega.{arith}
use borrow.Author.Count.{below_more}
use Rattle.num.proofs.SearchLaws.{first-at, first-none}
use Rattle.log_index.proofs.make.first_wrong.Goals as goal

pub loop-k-init : goal.loop-k-init
loop-k-init c = λ i h. absurd (omega arith)

pub returns-then-not-word_right : goal.returns-then-not-word_right
returns-then-not-word_right c = sym (first-at _ _ c.loop-k.k c.loop-k.invariant (omega arith) (sym c.word_right.ensures ∙ c.if-not-word_right.true))

pub loop-k-preserved : goal.loop-k-preserved
loop-k-preserved c = below_more _ _ c.loop-k.invariant (sym c.word_right.ensures ∙ c.if-not-word_right.false)

pub returns : goal.returns
returns c =
    let n = c.args.n in
    let e : c.loop-k.k ≡ n = omega arith in
    sym (first-none _ n (rw e at c.loop-k.invariant))
