-- `plan_steps::loses` meets its contract.
use Prim.Native.Nat.{ℕ}
use mathlib.Core.Path.{◌∙◌, ap, ap₂}
use mathlib.Core.Bool.{Bool, ◌&&◌, ◌||◌}
use Rattle.spec_rules.specs.Neighbour.{context_of, near}
use Rattle.plan_steps.proofs.Tested.{any-is}
use Rattle.plan_steps.proofs.loses.Goals as goal

pub returns : goal.returns
returns c =
    let test : ℕ → Bool = near (context_of c.args.s) c.args.bank in
    let older = ap₂ ◌&&◌ c.waits.ensures (c.is_near.ensures ∙ ap test c.held_bank.ensures.0) in
    let newer = ap₂ ◌&&◌ c.two.ensures (c.is_near-2.ensures ∙ ap test c.next_bank.ensures.0) in
    ap₂ ◌||◌ older newer ∙ any-is c.args.b.now (λ w. test w.bank)
