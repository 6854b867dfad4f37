-- `plan_by_value::drafts::waited` meets its contract: the sum in 64 bits, clipped.
use Rattle.plan_by_value.proofs.StepLaws.{draws-waited}
use Rattle.plan_by_value.proofs.drafts.waited.Goals as goal

pub returns : goal.returns
returns c s p e k =
    rw (c.moved.ensures, c.is_late.ensures, c.clipped.ensures, c.from.ensures, c.from-slot.ensures)
    (draws-waited s p c.args.d e c.args.cycles k)
