-- `encode_by` meets its contract: each arm is a case of the definition; accepted settings have a device below 32.
use mathlib.Core.Path.{◌∙◌, sym}
use native.Mathlib.Omega.{arith}
use Rattle.settings.proofs.SettingsLaws.{bounds, accepted-valid}
use Rattle.spec_calls.specs.Settings.{under_settings}
use Rattle.calls_word.specs.Words.{word_encode_call}
use Rattle.calls_word.proofs.encode_by.Goals as goal

pub command_coded-requires : goal.command_coded-requires
command_coded-requires c =
    let e = sym c.read_settings.ensures ∙ c.in-Some.is in
    let b = bounds _ (accepted-valid _ _ e) in
    omega arith

pub returns-in_default : goal.returns-in_default
unfolding under_settings word_encode_call
returns-in_default c = rw (sym c.read_settings.ensures ∙ c.in_default.is) c.from.ensures

pub returns : goal.returns
unfolding under_settings word_encode_call
returns c = rw (sym c.read_settings.ensures ∙ c.in-Some.is, ← c.command_coded.ensures, ← c.why_no_word-why.ensures) c.word_answer.ensures
