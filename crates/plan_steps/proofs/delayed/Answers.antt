-- `plan_steps::delayed` meets its contract.
use Rattle.spec_rules.specs.Neighbour.{context_of}
use Rattle.plan_steps.proofs.Tested.{delays-is}
use Rattle.plan_steps.proofs.delayed.Goals as goal

pub returns : goal.returns
returns c = rw (c.waits.ensures, c.two.ensures, c.held_bank.ensures.0, c.from.ensures) (delays-is c.args.b.now (context_of c.args.s) c.args.at)
