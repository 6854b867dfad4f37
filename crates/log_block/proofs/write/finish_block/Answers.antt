-- `log_block::write::finish_block` meets its contract: the wrapping negative of the sum of the other words is the check word.
use Rattle.std.proofs.Common.{◌≡◌, length, take, arith, length-take-le, rules}
use Rattle.log_block.proofs.WriteLaws.{check-store}
use Rattle.log_block.proofs.write.finish_block.Goals as goal

pub returns : goal.returns
returns c =
    let a = c.args in
    let s = rw c.write_fields.ensures at c.word_sum-s.ensures in
    let recs = take a.n a.b.now in
    let m : length recs ≡ a.n = length-take-le a.n a.b.now (omega arith) in
    rw (c.put_u32.ensures, c.from.ensures, c.write_fields.ensures)
    (check-store a.b.now a.stamp.now a.k recs _ (omega arith) (omega arith) (search rules) (omega (arith, s)))
