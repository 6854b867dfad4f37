-- `query_by` meets its contract: each way out is a case of the definition.
use mathlib.Core.Path.{◌∙◌, sym}
use Rattle.spec_index.specs.Answers.{lent_after}
use Rattle.spec_calls.specs.Settings.{under_settings}
use Rattle.calls_index.specs.Results.{index_query_call}
use Rattle.calls_index.proofs.query_by.Goals as goal

pub returns-in_default : goal.returns-in_default
unfolding lent_after under_settings index_query_call
returns-in_default c =
    let e = sym c.read_settings.ensures ∙ c.in_default.is in
    (rw e c.from.ensures, rw e)

pub returns : goal.returns
unfolding lent_after under_settings index_query_call
returns c =
    let e = sym c.read_settings.ensures ∙ c.in-Some.is in
    (rw e (rw c.query.ensures.0 at c.from-2.ensures), rw e c.query.ensures.1)
