-- `log_block::write::write_block` meets its contract: the records that were copied are those that stand at the start.
use Rattle.std.proofs.Common.{◌+◌, length, drop, refl, ap, take_at}
use Rattle.log_block.specs.Block.{block}
use Rattle.log_block.proofs.write.write_block.Goals as goal

pub returns : goal.returns
returns c =
    let a = c.args in
    let recs = a.recs.now in
    rw (c.finish_block.ensures, c.put_bytes.ensures)
    (ap (block a.stamp.now a.k) (take_at recs (drop (0 + length recs) a.b.now) (length recs) refl))
