-- `log_block::read::records_in` meets its contract: every block but the last is full.
use Rattle.std.proofs.Common.{◌≡◌, ◌-◌, ◌*◌, ◌≤◌, length, ap, mul-le-mul_right, arith}
use Rattle.log_block.specs.Block.{blocks_in, list_of}
use Rattle.log_block.proofs.ListThenLog.{some-records, used-most, length-list, list-none}
use Rattle.log_block.proofs.read.records_in.Goals as goal

pub returns-then-n-eq0 : goal.returns-then-n-eq0
returns-then-n-eq0 c =
    let log = c.args.log.now in
    let e : length (list_of log) ≡ 0 = ap length (list-none log (omega arith)) in
    omega arith

pub overflow_mul-result : goal.overflow_mul-result
overflow_mul-result c =
    let m = mul-le-mul_right (blocks_in c.args.log.now - 1) c.args.per.few in
    omega arith

pub overflow_add-result : goal.overflow_add-result
overflow_add-result c =
    let per = c.args.per in
    let log = c.args.log.now in
    let g = c.requires.log_value in
    let last = blocks_in log - 1 in
    let m = mul-le-mul_right last per.few in
    omega (arith, used-most per.records (some-records _ per.few log g last (omega arith)) log g last (omega arith))

pub returns : goal.returns
returns c =
    let per = c.args.per in
    let log = c.args.log.now in
    let g = c.requires.log_value in
    let last = blocks_in log - 1 in
    omega (arith, length-list per.records (some-records _ per.few log g last (omega arith)) log g last (omega arith))
