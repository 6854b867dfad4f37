-- `num::put_u16` meets its contract: two stores side by side are one splice.
use Prim.Native.Nat.{◌/◌, ◌%◌}
use native.Mathlib.Omega.{arith}
use lib.ListN.{length-set}
use Rattle.num.specs.Bytes.{bytes}
use Rattle.num.proofs.SpliceLaws.{splice-two}
use Rattle.num.proofs.put.put_u16.Goals as goal

pub bounds-b-at-2 : goal.bounds-b-at-2
bounds-b-at-2 c = simp length-set (omega arith)

pub returns : goal.returns
unfolding bytes
returns c =
    let x = c.args.x in splice-two c.args.b.now c.args.at (x % 256) (x / 256 % 256) (omega arith)
