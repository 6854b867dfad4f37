-- `length_right` meets its contract: a length above the limit, and the test of the others.
use Prim.Native.Nat.{◌<◌, ◌≤◌}
use native.Mathlib.Omega.{arith}
use borrow.Author.Tests.{le-leb, lt-leb}
use Rattle.listing.specs.Entries.{longest_input}
use Rattle.listing.specs.Listing.{length_right}
use Rattle.listing.proofs.length_right.Goals as goal

pub returns-then-n-gt-LONGEST : goal.returns-then-n-gt-LONGEST
unfolding length_right
returns-then-n-gt-LONGEST c =
    let h : longest_input < c.args.n = omega (arith, c.if-n-gt-LONGEST.true) in rw (lt-leb _ longest_input h)

pub returns : goal.returns
unfolding length_right
returns c =
    let h : c.args.n ≤ longest_input = omega (arith, c.if-n-gt-LONGEST.false) in rw (le-leb _ longest_input h)
