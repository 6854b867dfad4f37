-- One turn of a walk over banks: a bank that is not closed is closed.
-- Assumes nothing.
use Prim.Native.Nat.{ℕ, ◌+◌, ◌*◌, ◌<◌}
use mathlib.Core.Path.{◌≡◌, refl, sym, ◌∙◌}
use mathlib.Core.Bool.{not}
use mathlib.Core.List.{List}
use borrow.Author.Tests.{eq-eqb, ne_eqb}
use Rattle.settings.specs.declared.Settings.{Settings}
use Rattle.spec_rules.specs.Neighbour.{context_of}
use Rattle.spec_rules.specs.History.{is_closed}
use Rattle.spec_plan.specs.Plan.{Draft, when, state_in, closed}
use Rattle.plan_bytes.specs.Form.Numbers.{half}
use Rattle.plan_bytes.specs.Form.Drawn.{drafted, Rested, OpenAt, Fits, Drawn}
use Rattle.plan_bytes.proofs.ReadyLaws.{readies, ready}
use Rattle.plan_bytes.proofs.Compose.{drawn-none}
use Rattle.plan_steps.specs.Form.Opened.{opened}
use Rattle.plan_steps.proofs.Tested.{shut-is}

module _ (s : Settings) (top : ℕ) (b : List ℕ) (k : Rested s top b) (x : ℕ) (l : x < 32) (tag : ℕ) (e : tag ≡ half b (640 + 2 * x)) (room : List ℕ) (to : ℕ) where
  -- what a turn makes of the bytes
  abbrev pub turned : Draft
  turned = when (not (is_closed (state_in (drafted b) x))) (closed (context_of s) x) (drafted b)

  pub turn-shut : tag ≡ 0 → Drawn s turned room to b room to
  turn-shut z = rw (sym (shut-is b x l) ∙ eq-eqb (half b (640 + 2 * x)) 0 (sym e ∙ z)) (drawn-none s b room to (readies s top b (ready s top b k)).exact)

  -- how many open banks it leaves fewer
  pub opened-none : tag ≡ 0 → 0 ≡ opened (state_in (drafted b) x)
  opened-none z = rw (sym (shut-is b x l) ∙ eq-eqb (half b (640 + 2 * x)) 0 (sym e ∙ z)) refl

  module _ (n : tag ≡ 0 → ⊥) where
    pub tag_open : OpenAt b x
    tag_open = sym (shut-is b x l) ∙ ne_eqb _ _ (λ z. n (e ∙ z))

    pub turn-first : Fits turned room to → Fits (closed (context_of s) x (drafted b)) room to
    turn-first f = rw tag_open at f

    pub turn-open : (b1 room1 : List ℕ) (to1 : ℕ) → Drawn s (closed (context_of s) x (drafted b)) room to b1 room1 to1 → Drawn s turned room to b1 room1 to1
    turn-open b1 room1 to1 w = rw tag_open w

    pub opened_one : 1 ≡ opened (state_in (drafted b) x)
    opened_one = rw tag_open refl
