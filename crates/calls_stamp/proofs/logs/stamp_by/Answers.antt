-- `stamp_by` meets its contract: each way out is a case of the definition.
use mathlib.Core.Path.{◌∙◌, sym}
use Rattle.log_list.specs.Log.{copied}
use Rattle.spec_calls.specs.Settings.{under_settings}
use Rattle.spec_calls.specs.Logs.{copy_call}
use Rattle.calls_stamp.specs.Results.{stamp_call}
use Rattle.calls_stamp.proofs.TripLaws.{accepted-is}
use Rattle.calls_stamp.proofs.logs.stamp_by.Goals as goal

pub stamp-requires : goal.stamp-requires
stamp-requires c = (accepted-is _ _ (sym c.read_settings.ensures ∙ c.in-Some.is)).0

pub returns-in_default : goal.returns-in_default
unfolding copied under_settings copy_call stamp_call
returns-in_default c =
    let e = sym c.read_settings.ensures ∙ c.in_default.is in
    (rw e c.from.ensures, rw e)

pub returns : goal.returns
unfolding copied under_settings copy_call stamp_call
returns c =
    let e = sym c.read_settings.ensures ∙ c.in-Some.is in
    (rw e (rw c.stamp.ensures.0 at c.from-2.ensures), rw e c.stamp.ensures.1)
