-- `write_moved` meets its contract: after k turns the first k blocks are written.
use mathlib.Core.Path.{◌≡◌, ap}
use native.Mathlib.Omega.{arith}
use Rattle.num.proofs.SpliceLaws.{splice-none}
use Rattle.record.specs.Record.{records_in}
use Rattle.log_block.specs.Block.{block_count, log_up_to, log_of, list_of}
use Rattle.log_block.proofs.CountLaws.{count-start}
use Rattle.log_block.proofs.WriteLaws.{log-turn}
use Rattle.log_stamp.proofs.moved.ChunkLaws.{records-few}
use Rattle.log_stamp.proofs.moved.write_moved.Goals as goal

pub overflow_add-blocks : goal.overflow_add-blocks
overflow_add-blocks c = omega (arith, records-few c.args.per.records (omega arith, c.args.per.few) c.args.log.now c.requires.log_value)

pub loop-k-init : goal.loop-k-init
unfolding log_up_to
loop-k-init c = splice-none c.args.out.now 0

pub move_at-requires : goal.move_at-requires
move_at-requires c =
    let a = c.args in
    let n = c.records_in-n.ensures in
    let e = ap (block_count a.next.per) n in
    let w = count-start a.next.per (records_in (list_of a.log.now)) c.loop-k.k (omega arith) (omega arith) in
    record {
      le_per = c.requires.le_per;
      log_value = (c.requires.log_value, n);
      k_bound = (omega arith, omega arith, omega arith);
    }

pub loop-k-preserved : goal.loop-k-preserved
loop-k-preserved c =
    let a = c.args in
    let e = ap (block_count a.next.per) c.records_in-n.ensures in
    rw (c.move_at.ensures, c.loop-k.invariant)
    (log-turn a.next.per a.next.stamp.now a.next.fits a.out.now (list_of a.log.now) c.loop-k.k (omega arith))

pub returns : goal.returns
unfolding log_of
returns c =
    let a = c.args in
    let b = ap (block_count a.next.per) c.records_in-n.ensures in
    let e : c.loop-k.k ≡ block_count a.next.per (records_in (list_of a.log.now)) = omega arith in
    rw e at c.loop-k.invariant
