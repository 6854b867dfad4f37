-- `move_block` meets its contract: the records that were gathered are those that stand at the start.
use Prim.Native.Nat.{◌+◌, ◌*◌}
use mathlib.Core.Path.{◌≡◌, ap}
use native.Mathlib.Omega.{arith}
use lib.ListN.{length, drop}
use lib.Seq.{take_at}
use Rattle.num.specs.Bytes.{part}
use Rattle.num.proofs.PartLaws.{length_part}
use Rattle.log_block.specs.Block.{block, list_of}
use Rattle.log_stamp.proofs.moved.move_block.Goals as goal

pub returns : goal.returns
returns c =
    let a = c.args in
    let recs = part (list_of a.log.now) (32 * a.first) (32 * a.n) in
    let l : length recs ≡ 32 * a.n = length_part (list_of a.log.now) (32 * a.first) (32 * a.n) (omega arith) in
    rw (c.finish_block.ensures, c.gather.ensures)
    (ap (block a.stamp.now a.k) (take_at recs (drop (0 + length recs) a.b.now) (32 * a.n) l))
