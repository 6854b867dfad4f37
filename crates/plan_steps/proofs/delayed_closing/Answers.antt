-- `plan_steps::delayed_closing` meets its contract.
use Rattle.spec_rules.specs.Neighbour.{context_of}
use Rattle.plan_steps.proofs.Tested.{closing-is}
use Rattle.plan_steps.proofs.delayed_closing.Goals as goal

pub returns : goal.returns
returns c = rw (c.delayed.ensures, c.loses.ensures) (closing-is c.args.b.now (context_of c.args.s) c.args.at)
