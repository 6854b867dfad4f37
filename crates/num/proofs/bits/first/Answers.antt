-- `num::bits::first` meets its contract.
use native.Mathlib.Nat.{div-one}
use Rattle.num.specs.Marks.{bit, mark}
use Rattle.num.proofs.bits.first.Goals as goal

pub returns : goal.returns
unfolding mark bit
returns c = rw div-one
