-- `plan_by_value::drafts::start` meets its contract: no record, and now in time.
use mathlib.Core.Path.{refl}
use Rattle.plan_by_value.proofs.DrawLaws.{draws-start}
use Rattle.plan_by_value.proofs.drafts.start.Goals as goal

pub returns : goal.returns
returns c s h = draws-start s c.args.p _ refl refl refl h
