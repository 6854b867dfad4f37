-- `log_block::right_at` meets its contract: the lent part is the block.
use Rattle.std.proofs.Common.{◌≡◌, ◌+◌, ◌-◌, ◌*◌, arith}
use Rattle.log_block.proofs.right_at.Goals as goal

pub returns : goal.returns
returns c =
    let k = c.args.k in
    let e : 512 * k + 512 - 512 * k ≡ 512 = omega arith in
    let whole = rw c.unwrap-b.ensures at c.as_array.ensures.cases in
    rw (whole.same, e) at c.block_right.ensures
