-- What code tests of two neighbours: each bank with the one below it.
-- Assumes nothing.
use Rattle.std.specs.Prelude.{ℕ, Bool, ◌||◌}
use Rattle.settings.specs.declared.Settings.{Settings}
use Rattle.spec_rules.specs.declared.Channel.{Channel}
use Rattle.spec_rules.specs.History.{is_closed}
use Rattle.spec_rules.specs.Channel.{state_of}
use Rattle.chan_view.specs.Form.Beside.{low_of}

abbrev pub low_apart : Settings → Channel → ℕ → Bool
low_apart s ch x = is_closed (state_of ch (low_of s x)) || is_closed (state_of ch x)
