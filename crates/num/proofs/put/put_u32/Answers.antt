-- `num::put_u32` meets its contract: the low bytes and the further ones are two splices side by side.
use Prim.Native.Nat.{◌/◌}
use native.Mathlib.Omega.{arith}
use Rattle.num.specs.Bytes.{bytes}
use Rattle.num.proofs.ByteLaws.{length-bytes, bytes-append}
use Rattle.num.proofs.SpliceLaws.{splice-more}
use Rattle.num.proofs.put.put_u32.Goals as goal

pub returns : goal.returns
returns c =
    let x = c.args.x in
    rw (c.put_u16-2.ensures, c.put_u16.ensures, bytes-append 2 2 x)
    (splice-more c.args.b.now c.args.at (bytes 2 x) (bytes 2 (x / 65536)) 2 (length-bytes 2 x) (omega arith))
