-- `decode_by` meets its contract: each arm is a case of the definition.
use mathlib.Core.Path.{◌∙◌, sym}
use Rattle.spec_calls.specs.Settings.{under_settings}
use Rattle.calls_word.specs.Words.{word_decode_call}
use Rattle.calls_word.proofs.decode_by.Goals as goal

pub returns-in_default : goal.returns-in_default
unfolding under_settings word_decode_call
returns-in_default c = rw (sym c.read_settings.ensures ∙ c.in_default.is) c.from.ensures

pub returns : goal.returns
unfolding under_settings word_decode_call
returns c = rw (sym c.read_settings.ensures ∙ c.in-Some.is) c.packet_answer.ensures
