-- `plan_steps::on_row_lem` meets its contract.
use Rattle.plan_steps.proofs.Tested.{row_is}
use Rattle.plan_steps.proofs.on_row.Goals as goal

pub returns : goal.returns
returns c = rw c.tag.ensures (row_is c.args.b.now c.args.bank c.args.row c.requires.bank_bound c.requires.row_bound)
