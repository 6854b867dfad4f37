-- `plan_steps::holds` meets its contract.
use Prim.Native.Nat.{ℕ}
use mathlib.Core.Path.{◌∙◌, ap, ap₂}
use mathlib.Core.Bool.{Bool, ◌&&◌, ◌||◌}
use lib.Dec.{eqb}
use Rattle.plan_steps.proofs.Tested.{any-is}
use Rattle.plan_steps.proofs.holds.Goals as goal

pub returns : goal.returns
returns c =
    let test : ℕ → Bool = λ y. eqb y c.args.bank in
    let older = ap₂ ◌&&◌ c.waits.ensures (ap test c.held_bank.ensures.0) in
    let newer = ap₂ ◌&&◌ c.two.ensures (ap test c.next_bank.ensures.0) in
    ap₂ ◌||◌ older newer ∙ any-is c.args.b.now (λ w. test w.bank)
