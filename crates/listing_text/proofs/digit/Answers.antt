-- `digit` meets its contract: both branches are the definition's.
use Prim.Native.Nat.{◌≤◌}
use borrow.Author.Tests.{lt-ltb, le-ltb}
use native.Mathlib.Omega.{arith}
use Rattle.listing_text.specs.Text.{digit}
use Rattle.listing_text.proofs.digit.Goals as goal

pub returns-then-d-lt10 : goal.returns-then-d-lt10
unfolding digit
returns-then-d-lt10 c = rw (lt-ltb _ 10 c.if-d-lt10.true)

pub returns-else-d-lt10 : goal.returns-else-d-lt10
unfolding digit
returns-else-d-lt10 c =
    let h : 10 ≤ c.args.d = omega (arith, c.if-d-lt10.false) in rw (le-ltb _ 10 h)
