-- How many banks are open: what the walk of close counts down.
-- Assumes nothing.
use Rattle.std.specs.Prelude.{ℕ, zero, suc, ◌+◌, cond}
use Rattle.spec_rules.specs.declared.Bank.{Bank}
use Rattle.spec_rules.specs.History.{is_closed}

-- one for a bank that is open
abbrev pub opened : Bank → ℕ
opened k = cond (is_closed k) 0 1

-- how many of the banks below n
unfoldable pub open_up_to : (ℕ → Bank) → ℕ → ℕ
open_up_to state zero = 0
open_up_to state (suc n) = open_up_to state n + opened (state n)
