-- `decode_by` meets its contract: each way out is a case of the definition.
use mathlib.Core.Path.{◌∙◌, sym}
use Rattle.log_list.specs.Log.{copied, decode_log}
use Rattle.spec_calls.specs.Settings.{under_settings}
use Rattle.spec_calls.specs.Logs.{copy_call, log_decode_call}
use Rattle.calls_list.proofs.logs.decode_by.Goals as goal

pub returns-in_default : goal.returns-in_default
unfolding copied decode_log under_settings copy_call log_decode_call
returns-in_default c =
    let e = sym c.read_settings.ensures ∙ c.in_default.is in
    (rw e c.from.ensures, rw e)

pub returns : goal.returns
unfolding copied decode_log under_settings copy_call log_decode_call
returns c =
    let e = sym c.read_settings.ensures ∙ c.in-Some.is in
    (rw e (rw c.decode-read.ensures.0 at c.from-2.ensures), rw e c.decode-read.ensures.1)
