-- `model_store::number_of` meets its contract: a place in range is a place of the store.
use mathlib.Core.Path.{refl}
use native.Mathlib.Nat.{mul-le-mul}
use native.Mathlib.Omega.{arith}
use Rattle.settings.proofs.SettingsLaws.{bounds}
use Rattle.spec_rules.specs.Neighbour.{context_of}
use Rattle.spec_model.specs.Store.{dualoct_at}
use Rattle.model_store.specs.Form.Touch.{PlaceIn}
use Rattle.model_store.proofs.PlaceLaws.{store-most, place_in}
use Rattle.model_store.proofs.number_of.Goals as goal

pub overflow_mul-row : goal.overflow_mul-row
unfolding PlaceIn context_of
overflow_mul-row c =
    let m = mul-le-mul {n₁ = c.args.p.bank} {m₁ = c.args.s.rows} {n₂ = 32} {m₂ = 512} (omega (arith, c.requires.place_in.0)) (bounds c.args.s c.requires.s_value).rows-most in
    omega (arith, m)

pub overflow_add-row : goal.overflow_add-row
unfolding PlaceIn context_of
overflow_add-row c =
    let m = mul-le-mul {n₁ = c.args.p.bank} {m₁ = c.args.s.rows} {n₂ = 32} {m₂ = 512} (omega (arith, c.requires.place_in.0)) (bounds c.args.s c.requires.s_value).rows-most in
    omega (arith, m)

pub overflow_mul-result : goal.overflow_mul-result
unfolding dualoct_at context_of
overflow_mul-result c =
    let i = place_in (context_of c.args.s) c.args.p c.requires.place_in in
    let m = store-most (context_of c.args.s) c.requires.s_value in
    omega arith

pub overflow_add-result : goal.overflow_add-result
unfolding dualoct_at context_of
overflow_add-result c =
    let i = place_in (context_of c.args.s) c.args.p c.requires.place_in in
    let m = store-most (context_of c.args.s) c.requires.s_value in
    omega arith

pub returns : goal.returns
unfolding dualoct_at context_of
returns c = refl
