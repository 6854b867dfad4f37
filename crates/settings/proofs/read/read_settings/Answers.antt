-- `settings::read_settings` meets its contract: the settings are those of the sixteen numbers, and the tests are the definition's.
use Rattle.std.specs.Prelude.{Some}
use mathlib.Core.Path.{◌≡◌, sym, ◌∙◌, ap}
use mathlib.Core.Bool.{Bool, true, false, ◌&&◌}
use borrow.Author.Tests.{eqb-true}
use lib.Dec.{eqb}
use lib.ListN.{length}
use Rattle.settings.specs.declared.Settings.{Settings}
use Rattle.settings.specs.Settings.{half, settings_in}
use Rattle.settings.specs.Form.Numbers.{numbers_right, rest_right}
use Rattle.settings.proofs.SettingsLaws.{settings_of, settings-same, both_true}
use Rattle.settings.proofs.NumberLaws.{read-numbers}
use Rattle.settings.proofs.read.read_settings.Goals as goal

abbrev rest_of : Settings → Bool
rest_of s = rest_right s.cac s.cwd s.device s.core

pub returns-then-not-numbers_right : goal.returns-then-not-numbers_right
returns-then-not-numbers_right c =
    let b = c.args.b.now in
    let e : eqb (length b) 32 && numbers_right (half b) 15 ≡ false = sym c.numbers_right.ensures ∙ c.if-not-numbers_right.true in
    rw (read-numbers b, e)

pub halves_in-h-requires : goal.halves_in-h-requires
halves_in-h-requires c =
    let b = c.args.b.now in
    eqb-true (length b) 32 (both_true {a = eqb (length b) 32} (sym c.numbers_right.ensures ∙ c.if-not-numbers_right.false)).0

pub returns-then-rest_right : goal.returns-then-rest_right
returns-then-rest_right c =
    let b = c.args.b.now in
    let h = c.halves_in-h in
    let e : settings_of h.result ≡ settings_in b = settings-same h.result b h.ensures in
    let n : eqb (length b) 32 && numbers_right (half b) 15 ≡ true = sym c.numbers_right.ensures ∙ c.if-not-numbers_right.false in
    let r : rest_of (settings_in b) ≡ true = ap rest_of (sym e) ∙ sym c.rest_right.ensures ∙ c.if-rest_right.true in
    rw (read-numbers b, n, r) (ap Some e)

pub returns-else-rest_right : goal.returns-else-rest_right
returns-else-rest_right c =
    let b = c.args.b.now in
    let h = c.halves_in-h in
    let e : settings_of h.result ≡ settings_in b = settings-same h.result b h.ensures in
    let n : eqb (length b) 32 && numbers_right (half b) 15 ≡ true = sym c.numbers_right.ensures ∙ c.if-not-numbers_right.false in
    let r : rest_of (settings_in b) ≡ false = ap rest_of (sym e) ∙ sym c.rest_right.ensures ∙ c.if-rest_right.false in
    rw (read-numbers b, n, r)
