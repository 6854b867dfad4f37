-- `plan_in_place::requests::wait` meets its contract.
use Rattle.plan_bytes.proofs.ReadyLaws.{ready}
use Rattle.plan_in_place.proofs.Called.{wait-stored}
use Rattle.plan_in_place.proofs.requests.wait.Goals as goal

pub returns : goal.returns
returns c = wait-stored _ _ (ready _ _ _ c.requires.rested) c.args.cycles _ (rw c.after-now.ensures at c.put_u32.ensures)
