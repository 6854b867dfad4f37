-- `place_of` meets its contract: each arm is a case of the definition.
use native.Mathlib.Omega.{arith}
use mathlib.Core.Path.{◌≡◌}
use Rattle.check_walk.specs.Form.Walk.{place_in}
use Rattle.check_walk.proofs.place_of.Goals as goal

pub returns-then-per-eq0 : goal.returns-then-per-eq0
unfolding place_in
returns-then-per-eq0 c = rw c.if-per-eq0.true

pub returns-then-per-eq15 : goal.returns-then-per-eq15
unfolding place_in
returns-then-per-eq15 c = rw c.if-per-eq15.true

pub returns : goal.returns
unfolding place_in
returns c =
    let e : c.args.per ≡ 14 = let m = c.requires.2 (omega arith) in omega arith in
    rw e
