-- `page_by` meets its contract: each arm is a case of the definition.
use mathlib.Core.Path.{◌∙◌, sym}
use Rattle.spec_calls.specs.Settings.{under_settings}
use Rattle.calls_page.specs.Results.{page_lent, page_call}
use Rattle.calls_page.proofs.page_by.Goals as goal

pub returns-in_default : goal.returns-in_default
unfolding under_settings page_call page_lent
returns-in_default c =
    let e = sym c.read_settings.ensures ∙ c.in_default.is in
    (rw e c.from.ensures, rw e)

pub returns : goal.returns
unfolding under_settings page_call
returns c =
    let e = sym c.read_settings.ensures ∙ c.in-Some.is in
    (rw e (rw c.put_page.ensures.0 at c.from-2.ensures), rw e (rw c.put_page.ensures.0 at c.put_page.ensures.1))
