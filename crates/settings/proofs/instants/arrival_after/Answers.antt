-- `settings::arrival_after` meets its contract: the sum is that of the naturals, and the test is the definition's.
use mathlib.Core.Path.{refl}
use native.Mathlib.Omega.{arith}
use borrow.Author.Tests.{le-leb, lt-leb}
use Rattle.settings.specs.Instants.{arrival, arrival_number}
use Prim.Native.Nat.{◌+◌, ◌≤◌, ◌<◌}
use Rattle.settings.proofs.instants.arrival_after.Goals as goal

pub returns-then-sum-le-HORIZON_WIDE : goal.returns-then-sum-le-HORIZON_WIDE
unfolding arrival arrival_number
returns-then-sum-le-HORIZON_WIDE c =
    let a = c.args in
    let e : a.t.0 + a.delay ≤ 1000000000 = omega arith in
    record {
      value = rw (le-leb _ _ e, c.from-2.ensures, c.from.ensures) refl;
      result_value = rw (le-leb _ _ e) refl;
    }

pub returns-else-sum-le-HORIZON_WIDE : goal.returns-else-sum-le-HORIZON_WIDE
unfolding arrival arrival_number
returns-else-sum-le-HORIZON_WIDE c =
    let a = c.args in
    let e : 1000000000 < a.t.0 + a.delay = omega arith in
    record {
      value = rw (lt-leb _ _ e) refl;
      result_value = rw (lt-leb _ _ e) refl;
    }
