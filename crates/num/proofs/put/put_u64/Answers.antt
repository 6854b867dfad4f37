-- `num::put_u64` meets its contract: the low bytes and the further ones are two splices side by side.
use Prim.Native.Nat.{◌/◌}
use native.Mathlib.Omega.{arith}
use Rattle.num.specs.Bytes.{bytes}
use Rattle.num.proofs.ByteLaws.{length-bytes, bytes-append}
use Rattle.num.proofs.SpliceLaws.{splice-more}
use Rattle.num.proofs.put.put_u64.Goals as goal

pub returns : goal.returns
returns c =
    let x = c.args.x in
    rw (c.put_u32-2.ensures, c.put_u32.ensures, bytes-append 4 4 x)
    (splice-more c.args.b.now c.args.at (bytes 4 x) (bytes 4 (x / 4294967296)) 4 (length-bytes 4 x) (omega arith))
