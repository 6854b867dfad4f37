-- `log_block::write::write_log` meets its contract: after k turns the first k blocks are written.
use Rattle.std.proofs.Common.{◌≡◌, ◌/◌, length, arith}
use Rattle.num.proofs.SpliceLaws.{splice-none}
use Rattle.log_block.specs.Block.{block_count, log_up_to, log_of}
use Rattle.log_block.proofs.WriteLaws.{log-turn, starts-within}
use Rattle.log_block.proofs.write.write_log.Goals as goal

pub loop-k-init : goal.loop-k-init
unfolding log_up_to
loop-k-init c = splice-none c.args.log.now 0

pub write_at-requires : goal.write_at-requires
write_at-requires c =
    let w = starts-within c.args.form.per (length c.args.list.now) c.loop-k.k (omega arith) (omega arith) in
    record { k_in_bounds = (omega arith, omega arith, omega arith) }

pub loop-k-preserved : goal.loop-k-preserved
loop-k-preserved c =
    let a = c.args in
    rw (c.write_at.ensures, c.loop-k.invariant)
    (log-turn a.form.per a.form.stamp.now c.args.form.fits a.log.now a.list.now c.loop-k.k (omega arith))

pub returns : goal.returns
unfolding log_of
returns c =
    let a = c.args in
    let e : c.loop-k.k ≡ block_count a.form.per (length a.list.now / 32) = omega arith in
    rw e at c.loop-k.invariant
