-- `check_walk::short::is_data` meets its contract: what passes is data.
use Prim.Native.Nat.{◌+◌}
use native.Mathlib.Omega.{arith}
use Rattle.check_walk.proofs.ShortLaws.{data-found}
use Rattle.check_walk.proofs.short.is_data.Goals as goal

pub returns : goal.returns
returns c =
    let a = c.args in
    data-found a.s a.b.now a.at c.requires (omega (arith, c.shared_slice_known-1.given (a.at + 4))) c.u32_at-head.result c.u64_at-word.result c.u32_at-head.ensures c.u64_at-word.ensures
