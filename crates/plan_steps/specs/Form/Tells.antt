-- What a test on the bytes of a planner tells of the writes that wait, where NOCOP is sent while it passes.
-- Assumes nothing.
use Rattle.std.specs.Prelude.{ℕ, ◌≡◌, ◌<◌, Bool, false, List, []}
use Rattle.settings.specs.declared.Settings.{Settings}
use Rattle.spec_rules.specs.declared.Write.{Write}
use Rattle.spec_plan.specs.Plan.{waiting}
use Rattle.plan_bytes.specs.Form.Drawn.{drafted, Rested, OpenAt}

-- each bank that is open in the first bytes is open in the second
abbrev pub KeepsOpen : List ℕ → List ℕ → Type 0
KeepsOpen b y = (x : ℕ) → x < 32 → OpenAt b x → OpenAt y x

-- a test gives of bytes, between the steps from b on, what `asks` says of their waiting writes, and no empty buffer passes; NOCOP leaves
-- each bank open that is open in b
pub record Tells (s : Settings) (gives : List ℕ → Bool → Type 0) (b : List ℕ) (asks : List Write → Bool) : Type 0 where
  pub told : (y : List ℕ) (r : Bool) → Rested s 1000012000 y → KeepsOpen b y → gives y r → r ≡ asks (waiting (drafted y))
  pub quiet : asks [] ≡ false
