-- `chan_view::banks::is_closed` meets its contract: by the state.
use mathlib.Core.Path.{◌≡◌, refl}
use mathlib.Core.Bool.{false}
use Rattle.spec_rules.specs.declared.Bank.{Bank}
use Rattle.spec_rules.specs.declared.Bank.TheVariants.{Closed, Open, Refresh}
use Rattle.spec_rules.specs.History.{is_closed}
use Rattle.chan_view.proofs.banks.is_closed.Goals as goal

other : (b : Bank) → (b ≡ Closed → ⊥) → false ≡ is_closed b
unfolding is_closed
other Closed ne = absurd (ne refl)
other (Open row) ne = refl
other Refresh ne = refl

pub returns-in-Closed : goal.returns-in-Closed
unfolding is_closed
returns-in-Closed c = rw c.in-Closed.is

pub returns-in_default : goal.returns-in_default
returns-in_default c = other _ c.in_default.not-Closed
