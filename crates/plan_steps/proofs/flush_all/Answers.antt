-- `plan_steps::flush_all` meets its contract.
use mathlib.Core.Path.{◌≡◌, refl, ◌∙◌}
use borrow.Author.Rules.{rules}
use Rattle.spec_plan.specs.Plan.{any_waits}
use Rattle.plan_bytes.specs.Form.Numbers.{waits_in}
use Rattle.plan_steps.proofs.Tested.{waits-is}
use Rattle.plan_steps.proofs.flush_all.Goals as goal

pub flush_while-requires-clause-fits : goal.flush_while-requires-clause-fits
flush_while-requires-clause-fits c = (
  any_waits,
  record { told = λ y r k keep w. let e : r ≡ waits_in y = search rules in e ∙ waits-is y; quiet = refl },
  c.requires.fits,
)

pub returns : goal.returns
returns c =
    c.flush_while.ensures any_waits
    (record { told = λ y r k keep w. let e : r ≡ waits_in y = search rules in e ∙ waits-is y; quiet = refl })
    c.requires.fits
