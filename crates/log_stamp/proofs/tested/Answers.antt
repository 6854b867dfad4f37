-- `tested` meets its contract: block 0 says no settings, and 12 or 17 is answered, or the log is tested under them.
use mathlib.Core.Path.{◌∙◌, sym}
use Rattle.log_stamp.proofs.StampLaws.{said-range, said-is, none-answer}
use Rattle.log_stamp.proofs.tested.Goals as goal

pub tested_under-requires : goal.tested_under-requires
tested_under-requires c =
    let log = c.args.log.now in
    let e = sym c.settings_of.ensures ∙ c.in-Some.is in
    record {
      log_value = said-range log _ e;
      s_value = said-is log _ e;
    }

pub returns-in-None : goal.returns-in-None
returns-in-None c =
    let log = c.args.log.now in
    none-answer log (sym c.settings_of.ensures ∙ c.in-None.is) _ c.unstamped.ensures
