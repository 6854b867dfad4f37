-- `plan_bytes::put_record` meets its contract.
use Rattle.plan_bytes.proofs.Wholes.{record-put}
use Rattle.plan_bytes.proofs.put_record.Goals as goal

pub returns : goal.returns
returns c = record-put c.args.out.now c.args.at c.args.t c.args.kind c.args.word c.args.dqa c.args.dqb c.requires.at_in_bounds c.requires.t_bound c.requires.kind_bound c.put_u64.ensures c.put_u64-2.ensures c.put_u64-3.ensures c.put_u64-4.ensures
