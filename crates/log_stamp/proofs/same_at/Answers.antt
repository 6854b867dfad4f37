-- `same_at` meets its contract: the parts that are lent are the two stamps.
use Prim.Native.Nat.{◌+◌, ◌-◌, ◌*◌}
use mathlib.Core.Path.{◌≡◌}
use native.Mathlib.Omega.{arith}
use Rattle.log_stamp.proofs.StampLaws.{stamp-bytes}
use Rattle.log_stamp.proofs.same_at.Goals as goal

pub returns : goal.returns
returns c =
    let a = c.args in
    let e : 512 * a.k + 448 + 32 - (512 * a.k + 448) ≡ 32 = omega arith in
    rw (e, stamp-bytes a.log.now a.k, stamp-bytes a.log.now 0) at c.same_stamp.ensures
