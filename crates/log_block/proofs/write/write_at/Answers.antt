-- `log_block::write::write_at` meets its contract: the lent part of the log comes back as the block of the lent part of the list.
use Rattle.std.proofs.Common.{◌+◌, ◌-◌, ◌*◌, ◌∙◌, arith}
use Rattle.num.specs.Bytes.{part}
use Rattle.log_block.specs.Block.{block}
use Rattle.log_block.proofs.BlockLaws.{length-block, part-fits}
use Rattle.log_block.proofs.WriteLaws.{part-back, part-within}
use Rattle.log_block.proofs.write.write_at.Goals as goal

pub returns : goal.returns
returns c =
    let k = c.args.k in
    let per = c.args.form.per in
    let l = c.args.list.now in
    let st = c.args.form.stamp.now in
    let from = 32 * (per * k) in
    let recs = part l from (32 * per) in
    let e = rw (c.min-end.ensures, part-within l from (32 * per)) at c.write_block.ensures in
    rw e (part-back c.args.log.now (512 * k) (512 * k + 512 - 512 * k) (block st k recs) (length-block st k recs (part-fits per st l k c.args.form.fits) ∙ omega arith))
