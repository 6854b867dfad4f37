-- `log_block::read::read_list` meets its contract: after k turns the records of the first k blocks are copied.
use Rattle.std.proofs.Common.{◌≡◌, ◌+◌, ◌*◌, arith}
use Rattle.num.proofs.SpliceLaws.{splice-none}
use Rattle.log_block.specs.Block.{blocks_in, list_up_to, list_of}
use Rattle.log_block.proofs.ListThenLog.{some-records, length-up_to, length-next}
use Rattle.log_block.proofs.ReadLaws.{list-within, list-turn}
use Rattle.log_block.proofs.read.read_list.Goals as goal

pub loop-k-init : goal.loop-k-init
unfolding list_up_to
loop-k-init c = splice-none c.args.list.now 0

pub read_at-requires : goal.read_at-requires
read_at-requires c =
    let per = c.args.per in
    let log = c.args.log.now in
    let k = c.loop-k.k in
    let e = c.requires.log_value in
    let n = length-next per.records (some-records _ per.few log e k (omega arith)) log e k (omega arith) in
    let w = list-within log (k + 1) (omega arith) in
    record {
      k_bound = (omega arith, e);
      k_in_bounds = omega arith;
    }

pub loop-k-preserved : goal.loop-k-preserved
loop-k-preserved c =
    let per = c.args.per in
    let log = c.args.log.now in
    let k = c.loop-k.k in
    let e = c.requires.log_value in
    let n = length-up_to per.records (some-records _ per.few log e k (omega arith)) log e k (omega arith) in
    rw (c.read_at.ensures, c.loop-k.invariant)
    (list-turn log c.args.list.now (32 * (per.records * k)) (omega arith) k (omega arith) n)

pub returns : goal.returns
unfolding list_of
returns c =
    let e : c.loop-k.k ≡ blocks_in c.args.log.now = omega arith in
    rw e at c.loop-k.invariant
