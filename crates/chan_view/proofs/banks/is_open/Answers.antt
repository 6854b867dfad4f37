-- `chan_view::banks::is_open` meets its contract: by the state.
use Prim.Native.Nat.{ℕ}
use mathlib.Core.Path.{◌≡◌, refl}
use mathlib.Core.Bool.{false}
use Rattle.spec_rules.specs.declared.Bank.{Bank}
use Rattle.spec_rules.specs.declared.Bank.TheVariants.{Closed, Open, Refresh}
use Rattle.spec_rules.specs.History.{is_open}
use Rattle.chan_view.proofs.banks.is_open.Goals as goal

other : (b : Bank) → ((row : ℕ) → b ≡ Open row → ⊥) → false ≡ is_open b
unfolding is_open
other Closed ne = refl
other (Open row) ne = absurd (ne row refl)
other Refresh ne = refl

pub returns-in-Open : goal.returns-in-Open
unfolding is_open
returns-in-Open c = rw c.in-Open.is

pub returns-in_default : goal.returns-in_default
returns-in_default c = other _ c.in_default.not-Open
