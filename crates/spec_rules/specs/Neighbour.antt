-- What every definition of rules, plan, model and runs takes first: the settings, and which banks share sense amps (document 01,
-- "Banks").
-- Assumes nothing.
use Rattle.std.specs.Prelude.{ℕ, ◌+◌, ◌/◌, ◌≡◌, Bool, false, cond, ◌&&◌, ◌||◌, eqb}
use Rattle.settings.specs.declared.Settings.{Settings}

-- "banks always 32"
unfoldable pub bank_count : ℕ
bank_count = 32

-- nbr: whether two banks are neighbours
pub record Context : Type 0 where
  pub settings : Settings
  pub nbr : ℕ → ℕ → Bool

-- what laws may use of the relation: it is symmetric, and no bank is its own neighbour
pub record Neighbours (cx : Context) : Type 0 where
  pub symmetric : (x y : ℕ) → cx.nbr x y ≡ cx.nbr y x
  pub irreflexive : (x : ℕ) → cx.nbr x x ≡ false

-- "Settings gain a core form: 0 split (as now), 1 one run of 32 dependent banks, 2 no dependency." The banks of a run by the form, of
-- which 0 is document 01's: "The sheet counts 34 sense amps, two runs of 17, so banks 0–15 and 16–31 are two halves"
unfoldable pub run_of : ℕ → ℕ
run_of core = cond (eqb core 0) 16 (cond (eqb core 1) 32 1)

-- neighbours follow each other in one run, "and 15 and 16 are not neighbours" where a run has 16 banks
unfoldable pub in_runs : ℕ → ℕ → ℕ → Bool
in_runs run x y = (eqb (x + 1) y || eqb (y + 1) x) && eqb (x / run) (y / run)

-- the context of settings
unfoldable pub context_of : Settings → Context
context_of s = record { settings = s; nbr = in_runs (run_of s.core) }

-- "same or neighbour"
abbrev pub near : Context → ℕ → ℕ → Bool
near cx x y = eqb y x || cx.nbr x y
