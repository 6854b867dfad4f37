-- `copy_records` meets its contract: the part of the log that is lent is those records.
use mathlib.Core.Path.{◌≡◌}
use Prim.Native.Nat.{◌+◌, ◌-◌, ◌*◌}
use native.Mathlib.Omega.{arith}
use Rattle.log_stamp.proofs.moved.copy_records.Goals as goal

pub returns : goal.returns
returns c =
    let a = c.args in
    let at = 512 * a.k + 32 * a.j in
    let e : at + 32 * a.m - at ≡ 32 * a.m = omega arith in
    rw e at c.put_bytes.ensures
