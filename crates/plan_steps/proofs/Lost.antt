-- The writes that a PRER to an open bank would lose wait in that bank: their banks are open too, and of two neighbours one is closed.
-- Assumes nothing.
use Prim.Native.Nat.{ℕ, ◌<◌}
use mathlib.Core.Path.{◌≡◌, refl, sym, ap₂}
use mathlib.Core.Bool.{Bool, true, false, ◌||◌, or-false}
use mathlib.Core.List.{List, [], ◌∷◌}
use lib.Dec.{eqb}
use Rattle.settings.specs.declared.Settings.{Settings}
use Rattle.spec_rules.specs.declared.Bank.{Bank}
use Rattle.spec_rules.specs.declared.Write.{Write}
use Rattle.spec_rules.specs.Neighbour.{bank_count, Context, context_of, near}
use Rattle.spec_rules.specs.History.{is_open, is_closed, any_write}
use Rattle.spec_rules.proofs.Bools.{and_left, and_right, not-both}
use Rattle.spec_state.proofs.NextValid.{open-not-closed}
use Rattle.spec_state.proofs.RoundTrip.{WritesIn}
use Rattle.spec_plan.specs.Plan.{waiting, state_in}
use Rattle.spec_plan.proofs.Invariant.{Inv, all_open}
use Rattle.spec_plan.specs.PlannerBytes.{planner_in}
use Rattle.plan_bytes.specs.Form.Drawn.{drafted, Rested, OpenAt}
use Rattle.plan_bytes.proofs.ReadyLaws.{inv, ready}

module _ (s : Settings) (top : ℕ) (b : List ℕ) (k : Rested s top b) (x : ℕ) (l : x < 32) (o : OpenAt b x) where
  abbrev cx : Context
  cx = context_of s

  abbrev state : ℕ → Bank
  state = state_in (drafted b)

  kept : Inv cx (planner_in b)
  kept = inv s top b (ready s top b k)

  own : (y : ℕ) → y < bank_count → is_open (state y) ≡ true → eqb y x ≡ near cx x y
  unfolding bank_count
  own y m e = go (cx.nbr x y) refl
    where
      go : (q : Bool) → cx.nbr x y ≡ q → eqb y x ≡ (eqb y x || q)
      go true f = not-both (is_closed (state x) || is_closed (state y)) (kept.banked.one-closed x y l m f) (rw (o, open-not-closed (state y) e) refl)
      go false f = sym (or-false (eqb y x))

  pub lost-is : any_write (λ w. eqb w.bank x) (waiting (drafted b)) ≡ any_write (λ w. near cx x w.bank) (waiting (drafted b))
  lost-is = go (waiting (drafted b)) kept.held.write-in kept.held.opened
    where
      go : (ws : List Write) → WritesIn cx ws → all_open state ws ≡ true → any_write (λ w. eqb w.bank x) ws ≡ any_write (λ w. near cx x w.bank) ws
      go [] i e = refl
      go (w ∷ ws) i e = ap₂ ◌||◌ (own w.bank i.0.0 (and_left (is_open (state w.bank)) _ e)) (go ws i.1 (and_right (is_open (state w.bank)) _ e))
