-- `meter::feeds::from_4` meets its contract.
use Prim.Native.Nat.{◌-◌}
use mathlib.Core.Path.{◌≡◌, sym, ◌∙◌, ap}
use mathlib.Core.Bool.{not, or-true}
use native.Mathlib.Omega.{arith}
use borrow.Author.Tests.{lt-ltb}
use Rattle.num.proofs.SearchLaws.{all-intro}
use Rattle.num.specs.Marks.{mark, aged, below}
use Rattle.meter.proofs.feeds.from_4.Goals as goal

pub returns-then-newest-lt3 : goal.returns-then-newest-lt3
returns-then-newest-lt3 c =
    let z : c.args.newest - 3 ≡ 0 = omega arith in
    c.below.ensures ∙ ap (below c.args.marks.now) (sym z)

pub returns : goal.returns
unfolding below aged
returns c =
    let ws = c.args.marks.now in
    sym (all-intro (aged ws (c.args.newest - 3)) 1024 (λ i l. rw (lt-ltb i (c.args.newest - 3) (omega (arith, c.if-newest-lt1027.false))) (or-true (not (mark ws i)))))
