-- `model_store::store_length` meets its contract.
use mathlib.Core.Path.{refl}
use native.Mathlib.Omega.{arith}
use Rattle.spec_rules.specs.Neighbour.{context_of}
use Rattle.spec_model.specs.Store.{store_length}
use Rattle.model_store.proofs.PlaceLaws.{area}
use Rattle.model_store.proofs.store_length.Goals as goal

pub overflow_mul-result : goal.overflow_mul-result
unfolding context_of
overflow_mul-result c =
    let a = area (context_of c.args.s) c.requires in
    omega arith

pub overflow_mul-result-2 : goal.overflow_mul-result-2
unfolding context_of
overflow_mul-result-2 c =
    let a = area (context_of c.args.s) c.requires in
    omega arith

pub returns : goal.returns
unfolding store_length context_of
returns c = refl
