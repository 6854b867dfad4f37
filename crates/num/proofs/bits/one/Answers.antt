-- `num::bits::one` meets its contract.
use Prim.Native.Nat.{◌/◌, ◌%◌, ◌^◌}
use mathlib.Core.Path.{sym}
use native.Mathlib.Omega.{arith}
use Rattle.num.specs.Marks.{bit}
use Rattle.num.proofs.bits.CountLaws.{bit_is}
use Rattle.num.proofs.bits.one.Goals as goal

pub returns : goal.returns
unfolding bit
returns c = (sym (bit_is (c.args.w / 2 ^ c.args.j % 2) (omega arith)), omega arith)
