-- What the banks below x and bank x ask of an ACT by rule 5.
-- Assumes nothing.
use Prim.Native.Nat.{ℕ, ◌+◌, max}
use mathlib.Core.Path.{◌≡◌}
use mathlib.Core.List.{List}
use native.Mathlib.Numerals.{add-one}
use Rattle.settings.specs.declared.Settings.{Settings}
use Rattle.spec_rules.specs.declared.BankTrack.{BankTrack}
use Rattle.spec_rules.specs.Checks.{max_up_to}
use Rattle.chan_judge.specs.Form.Tests.{act_term}

pub acts-next : (s : Settings) (l : List BankTrack) (b x : ℕ) → max_up_to (act_term s l b) (x + 1) ≡ max (max_up_to (act_term s l b) x) (act_term s l b x)
unfolding max_up_to
acts-next s l b x = rw add-one
