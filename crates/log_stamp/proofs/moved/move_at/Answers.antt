-- `move_at` meets its contract: the lent part of the new log comes back as the block of its records.
use mathlib.Core.Path.{◌≡◌, ◌∙◌}
use Prim.Native.Nat.{◌+◌, ◌-◌, ◌*◌}
use native.Mathlib.Omega.{arith}
use lib.ListN.{length}
use Rattle.num.specs.Bytes.{part}
use Rattle.log_block.specs.Block.{block, list_of}
use Rattle.log_block.proofs.CountLaws.{Records}
use Rattle.log_block.proofs.BlockLaws.{length-block, part-fits}
use Rattle.log_block.proofs.WriteLaws.{part-back}
use Rattle.log_block.proofs.ListThenLog.{list-whole}
use Rattle.log_stamp.proofs.moved.ChunkLaws.{part-least}
use Rattle.log_stamp.proofs.moved.move_at.Goals as goal

pub returns : goal.returns
returns c =
    let a = c.args in
    let k = a.k in
    let l = list_of a.log.now in
    let st = a.next.stamp.now in
    let first = a.next.per * k in
    let recs = part l (32 * first) (32 * a.next.per) in
    let form : Records a.per.records = (omega arith, a.per.few) in
    let whole = list-whole a.per.records form a.log.now c.requires.log_value.0 in
    let long : length l ≡ 32 * a.n = omega arith in
    let e = rw (c.min-m.ensures, part-least l first a.next.per a.n long (omega arith)) at c.move_block.ensures in
    rw e (part-back a.out.now (512 * k) (512 * k + 512 - 512 * k) (block st k recs) (length-block st k recs (part-fits a.next.per st l k a.next.fits) ∙ omega arith))
