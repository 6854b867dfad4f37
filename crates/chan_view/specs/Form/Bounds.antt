-- Bounds as code computes them.
-- Assumes nothing.
use Rattle.std.specs.Prelude.{ℕ, max, Bool, cond}
use Rattle.spec_rules.specs.Checks.{since}

-- a bound where it applies
abbrev pub bound_if : Bool → ℕ → ℕ
bound_if applies bound = cond applies bound 0

-- the latest that three last instants and one distance ask
abbrev pub three : ℕ → ℕ → ℕ → ℕ → ℕ
three a b c gap = max (max (since a gap) (since b gap)) (since c gap)
