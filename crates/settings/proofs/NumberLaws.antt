-- The tests of numbers in two tables are those of the settings.
-- Assumes nothing.
use Rattle.std.specs.Prelude.{None, Some}
use Prim.Native.Nat.{ℕ, ◌<◌}
use mathlib.Core.Path.{◌≡◌, refl, ◌∙◌}
use mathlib.Core.Bool.{Bool, true, false, cond, ◌&&◌, and_assoc, and-true}
use mathlib.Core.List.{List}
use native.Mathlib.Omega.{arith}
use borrow.Author.Tests.{le-leb, ltb-true}
use lib.Dec.{eqb, leb, ltb}
use lib.ListN.{length, get_or}
use Rattle.num.specs.Bytes.{Bytes}
use Rattle.num.specs.Search.{all_up_to}
use Rattle.num.proofs.SearchLaws.{all-at, all-next}
use Rattle.num.proofs.PartLaws.{number_fits}
use Rattle.settings.specs.declared.Settings.{Settings}
use Rattle.settings.specs.Settings.{timings, lows, highs, between, timings_right, valid, half, settings_in, settings_read}
use Rattle.settings.specs.Form.Numbers.{leasts, mosts, number_right, numbers_right, figures, rest_right}

-- ---- the tables

pub least_fits : (i : ℕ) → i < 16 → get_or leasts i 0 < 0x10000
unfolding all_up_to leasts lows
least_fits i l = ltb-true _ _ (all-at (λ k. ltb (get_or leasts k 0) 0x10000) 16 i refl l)

pub most-fits : (i : ℕ) → i < 16 → get_or mosts i 0 < 0x10000
unfolding all_up_to mosts highs
most-fits i l = ltb-true _ _ (all-at (λ k. ltb (get_or mosts k 0) 0x10000) 16 i refl l)

-- ---- the tests

-- the last number of a record is below 2 ^ 16
pub last-right : (b : List ℕ) → Bytes b → length b ≡ 32 → numbers_right (half b) 16 ≡ numbers_right (half b) 15
unfolding leasts mosts lows highs
last-right b w l =
    let m = number_fits b 30 2 w (omega arith) in
    let e : number_right 15 (half b 15) ≡ true = rw (le-leb 0 (half b 15) (omega arith), le-leb (half b 15) 0xFFFF (omega arith)) in
    all-next (λ i. number_right i (half b i)) 15 ∙ rw e (and-true (numbers_right (half b) 15))

-- timings, rows, columns, delays, device, core form: in the order of the tables, and in that of the definition
order : (t r c d v k : Bool) → ((t && r) && c) && ((d && v) && k) ≡ t && (d && (r && (c && (v && k))))
order false r c d v k = refl
order true false c false v k = refl
order true false c true v k = refl
order true true false false v k = refl
order true true false true v k = refl
order true true true d v k = and_assoc d v k

pub valid-numbers : (s : Settings) → numbers_right (λ i. get_or (figures s) i 0) 15 && rest_right s.cac s.cwd s.device s.core ≡ valid s
unfolding all_up_to leasts mosts lows highs valid
valid-numbers s =
    order (timings_right (timings s)) (between 1 s.rows 512) (between 1 s.columns 128) (ltb s.cwd s.cac) (leb s.device 31) (leb s.core 2)

module _ (b : List ℕ) where
  abbrev pub said : Settings
  said = settings_in b

  abbrev rest : Bool
  rest = rest_right said.cac said.cwd said.device said.core

  record-numbers : numbers_right (half b) 15 && rest ≡ valid said
  unfolding all_up_to leasts mosts lows highs valid
  record-numbers =
      order (timings_right (timings said)) (between 1 said.rows 512) (between 1 said.columns 128) (ltb said.cwd said.cac) (leb said.device 31) (leb said.core 2)

  pub read-numbers : settings_read b ≡ cond ((eqb (length b) 32 && numbers_right (half b) 15) && rest) (Some said) None
  unfolding settings_read
  read-numbers = rw (and_assoc (eqb (length b) 32) (numbers_right (half b) 15) rest, record-numbers)
