-- `encode_by` meets its contract: each way out is a case of the definition.
use mathlib.Core.Path.{◌∙◌, sym}
use native.Mathlib.Omega.{arith}
use Rattle.log_list.specs.Log.{copied, encode_log}
use Rattle.spec_calls.specs.Settings.{under_settings}
use Rattle.spec_calls.specs.Logs.{copy_call}
use Rattle.calls_stamp.specs.Results.{stamped_encode_call}
use Rattle.calls_stamp.proofs.TripLaws.{accepted-is}
use Rattle.calls_stamp.proofs.logs.encode_by.Goals as goal

pub stamped-requires : goal.stamped-requires
stamped-requires c = (accepted-is _ _ (sym c.read_settings.ensures ∙ c.in-Some.is)).0

pub returns-in_default : goal.returns-in_default
unfolding copied under_settings copy_call stamped_encode_call
returns-in_default c =
    let e = sym c.read_settings.ensures ∙ c.in_default.is in
    (rw e c.from.ensures, rw e)

pub returns : goal.returns
unfolding copied encode_log under_settings copy_call stamped_encode_call
returns c =
    let e = sym c.read_settings.ensures ∙ c.in-Some.is in
    (rw e (rw (c.encode.ensures.0, c.stamped.ensures.0) at c.from-2.ensures), rw e (rw (c.stamped.ensures.0, c.stamped.ensures.1) at c.encode.ensures.1))
