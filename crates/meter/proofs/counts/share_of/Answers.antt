-- `meter::counts::share_of` meets its contract: the cast and the quotient lose no digit.
use native.Mathlib.Omega.{arith}
use mathlib.Core.Path.{sym, subst}
use mathlib.Core.Bool.{false}
use lib.Dec.{le→leb}
use Prim.Native.Nat.{◌^◌}
use lib.Ieee.{Float, in_float, of_bits}
use lib.Ieee.Exact.{HasValue}
use Rattle.meter.proofs.ShareLaws.{share-exact, machine-share}
use Rattle.meter.proofs.counts.share_of.Goals as goal

pub int_to_float-result : goal.int_to_float-result
unfolding in_float
int_to_float-result c = le→leb c.args.count (2 ^ 24) (omega arith)

pub returns : goal.returns
unfolding of_bits
returns c =
    let n = c.args.count in
    let e = machine-share n c.requires in
    (e, subst (λ (x : Float). HasValue x false n 1024) (sym e) (share-exact n c.requires))
