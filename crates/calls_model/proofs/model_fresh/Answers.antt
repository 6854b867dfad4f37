-- `calls_model::model_fresh` meets its contract: another length, or the fresh model's bytes.
use Prim.Native.Nat.{ℕ}
use mathlib.Core.Path.{◌≡◌, refl}
use native.Mathlib.Omega.{arith}
use borrow.Author.Tests.{eq-eqb, ne_eqb}
use lib.ListN.{length}
use Rattle.record.specs.Refusal.{answer_of}
use Rattle.spec_model.specs.ModelBytes.{model_length}
use Rattle.spec_calls.specs.Models.{model_fresh}
use Rattle.calls_model.proofs.model_fresh.Goals as goal

pub returns-in_default : goal.returns-in_default
unfolding model_fresh model_length answer_of
returns-in_default c =
    let ne = ne_eqb (length c.args.model.now) 792 c.in_default.ensures.cases in
    record { value = rw ne; model_after = rw ne }

pub returns : goal.returns
unfolding model_fresh model_length
returns c =
    let e = eq-eqb (length c.args.model.now) 792 (omega (arith, c.in-Some.ensures.cases)) in
    record { value = rw e; model_after = rw e c.put_fresh_model.ensures }
