-- `record_bytes::quick::row_right` meets its contract: a word that passes is that of a packet.
use Rattle.std.proofs.Common.{ℕ, ◌+◌, ◌-◌, ◌*◌, ◌/◌, ◌%◌, ◌^◌, arith}
use Rattle.record_bytes.proofs.quick.QuickLaws.{head-range, row-says}
use Rattle.record_bytes.proofs.quick.row_right.Goals as goal

pub overflow_cast-head : goal.overflow_cast-head
overflow_cast-head c = omega (arith, c.row_word-head.ensures, head-range c.args.device)

pub overflow_mul-low-2 : goal.overflow_mul-low-2
overflow_mul-low-2 c = omega (arith, c.row_word-head.ensures, head-range c.args.device)

pub returns : goal.returns
returns c =
    let head = c.row_word-head in
    let a = c.args in
    let y : ℕ = (a.w / 2 ^ 18 * 2 ^ 18 + a.w % 2 ^ 13 + (2 ^ 32 - head.result / 2 ^ 18 * 2 ^ 18)) % 2 ^ 32 in
    row-says a.device a.rows a.w head.result y ((y + (2 ^ 32 - 4096)) % 2 ^ 32) head.ensures
    (omega (arith, head.ensures, head-range a.device)) (omega arith)
