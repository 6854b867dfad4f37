-- `bad_in_block` meets its contract: the part that is lent is the used records of block k.
use Prim.Native.Nat.{◌+◌, ◌-◌, ◌*◌}
use mathlib.Core.Path.{◌≡◌}
use native.Mathlib.Omega.{arith}
use Rattle.log_block.specs.Block.{used, block_at}
use Rattle.log_block.proofs.ReadLaws.{used-part}
use Rattle.log_list.proofs.copy.bad_in_block.Goals as goal

pub returns : goal.returns
returns c =
    let log = c.args.log.now in
    let k = c.args.k in
    let e : 512 * k + 32 * used (block_at log k) - 512 * k ≡ 32 * used (block_at log k) = omega arith in
    rw (c.used_at.ensures, e, used-part log k (omega arith)) at c.first_bad_of_few.ensures
