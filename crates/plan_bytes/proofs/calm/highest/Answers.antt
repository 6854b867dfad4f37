-- `plan_bytes::calm::highest` meets its contract.
use Rattle.plan_bytes.specs.Form.Calm.{highest_in}
use Rattle.plan_bytes.proofs.calm.highest.Goals as goal

pub returns : goal.returns
unfolding highest_in
returns c = rw (c.max-6.ensures, c.max-5.ensures, c.max-4.ensures, c.max-cols.ensures, c.max-3.ensures, c.max-late.ensures, c.max-2.ensures, c.max-last.ensures, c.max.ensures, c.banks_highest.ensures, c.u32_at-9.ensures, c.u32_at-8.ensures, c.u32_at-7.ensures, c.u32_at-6.ensures, c.u32_at-5.ensures, c.u32_at-4.ensures, c.u32_at-3.ensures, c.u32_at-2.ensures, c.u32_at.ensures)
