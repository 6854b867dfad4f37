-- `log_block::read::read_at` meets its contract: the lent part of the log is the used records of the block.
use Rattle.std.proofs.Common.{◌≡◌, ◌+◌, ◌-◌, ◌*◌, arith}
use Rattle.log_block.specs.Block.{used, block_at}
use Rattle.log_block.proofs.ListThenLog.{some-records, used-few}
use Rattle.log_block.proofs.ReadLaws.{used-part}
use Rattle.log_block.proofs.read.read_at.Goals as goal

pub slice_bounds-put_bytes-end : goal.slice_bounds-put_bytes-end
slice_bounds-put_bytes-end c =
    let a = c.args in
    let b = c.requires.k_bound in
    omega (arith, used-few a.per.records (some-records _ a.per.few _ b.1 a.k b.0) a.log.now b.1 a.k b.0)

pub returns : goal.returns
returns c =
    let a = c.args in
    let log = a.log.now in
    let k = a.k in
    let b = c.requires.k_bound in
    let e : 512 * k + 32 * used (block_at log k) - 512 * k ≡ 32 * used (block_at log k) = omega arith in
    rw (c.used_of.ensures, e, used-part log k (used-few a.per.records (some-records _ a.per.few _ b.1 k b.0) log b.1 k b.0)) at c.put_bytes.ensures
