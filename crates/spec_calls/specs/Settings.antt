-- Every call reads its settings first: "1 settings: a figure outside its range".
-- Assumes nothing.
use Rattle.std.specs.Prelude.{ℕ, List, None, Option, Some}
use Rattle.settings.specs.declared.Settings.{Settings}
use Rattle.settings.specs.Settings.{settings_read}
use Rattle.record.specs.declared.Refusal.{Refusal}
use Rattle.record.specs.declared.Refusal.TheVariants as refusal

module _ {R : Type 0} where
  -- what a call does whose settings bytes say this: it is refused by 1, or has a result under the settings
  abbrev pub by_settings : Option Settings → (Refusal → R) → (Settings → R) → R
  by_settings None refused under = refused refusal.Settings
  by_settings (Some s) refused under = under s

  unfoldable pub under_settings : List ℕ → (Refusal → R) → (Settings → R) → R
  under_settings settings refused under = by_settings (settings_read settings) refused under
