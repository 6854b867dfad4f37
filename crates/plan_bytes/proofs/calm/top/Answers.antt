-- `plan_bytes::calm::top` meets its contract.
use Rattle.plan_bytes.proofs.calm.CalmLaws.{or-highest}
use Rattle.plan_bytes.proofs.calm.top.Goals as goal

pub returns : goal.returns
returns c = or-highest c.args.b.now _ _ _ _ _ _ _ _ _ _ c.banks_top.ensures c.u32_at.ensures c.u32_at-2.ensures c.u32_at-3.ensures c.u32_at-4.ensures c.u32_at-5.ensures c.u32_at-6.ensures c.u32_at-7.ensures c.u32_at-8.ensures c.u32_at-9.ensures
