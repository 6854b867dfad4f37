-- Places of dualocts stay in the numbers of the machine; dualocts in bytes.
-- Assumes nothing.
use Prim.Native.Nat.{ℕ, ◌+◌, ◌*◌, ◌≤◌}
use mathlib.Core.Path.{◌≡◌, sym}
use mathlib.Core.Bool.{true}
use mathlib.Core.List.{List}
use native.Mathlib.Omega.{arith}
use native.Mathlib.Nat.{mul-le-mul}
use lib.ListN.{length}
use Rattle.num.specs.Bytes.{part, Bytes}
use Rattle.num.proofs.PartLaws.{bytes-part, part_join}
use Rattle.settings.specs.Settings.{valid}
use Rattle.settings.proofs.SettingsLaws.{bounds}
use Rattle.record.specs.declared.Place.{Place}
use Rattle.spec_rules.specs.Neighbour.{Context}
use Rattle.spec_model.specs.Store.{store_length, dualoct_bytes}
use Rattle.spec_model.proofs.StoreLaws.{dualoct-in}
use Rattle.model_store.specs.Form.Touch.{PlaceIn, place_at, dualoct_in}

module _ (cx : Context) where
  pub area : valid cx.settings ≡ true → cx.settings.rows * cx.settings.columns ≤ 65536
  area v = let b = bounds cx.settings v in mul-le-mul b.rows-most b.columns-most

  pub store-most : valid cx.settings ≡ true → store_length cx ≤ 33554432
  unfolding store_length
  store-most v = let a = area v in omega arith

  pub place_in : (p : Place) → PlaceIn cx p → 16 * place_at cx p + 16 ≤ store_length cx
  unfolding PlaceIn
  place_in p i = dualoct-in cx p.bank p.row p.column i.0 i.1 i.2

-- a dualoct that is read has the bytes that were read
pub dualoct-back : (b : List ℕ) (at : ℕ) → Bytes b → at + 16 ≤ length b → dualoct_bytes (dualoct_in b at) ≡ part b at 16
unfolding dualoct_bytes dualoct_in
dualoct-back b at w h = rw (bytes-part b at 8 w (omega arith), bytes-part b (at + 8) 8 w (omega arith)) (sym (part_join b at 8 8))
