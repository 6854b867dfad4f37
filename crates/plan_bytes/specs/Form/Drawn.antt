-- What a step on the bytes of a planner makes: the bytes and the records of the plan's draft.
-- Assumes nothing.
use Rattle.std.specs.Prelude.{ℕ, ◌+◌, ◌*◌, ◌<◌, ◌≤◌, ◌≡◌, true, false, List, [], length}
use Rattle.num.specs.Bytes.{splice}
use Rattle.settings.specs.declared.Settings.{Settings}
use Rattle.settings.specs.Settings.{valid}
use Rattle.spec_rules.specs.Neighbour.{context_of, near}
use Rattle.spec_rules.specs.History.{is_closed}
use Rattle.spec_state.proofs.EachInstant.{All}
use Rattle.spec_state.proofs.RoundTrip.{Back, SomeBack}
use Rattle.spec_plan.specs.declared.PlannerState.{PlannerState}
use Rattle.spec_plan.specs.Plan.{Draft, waiting, state_in, any_closes}
use Rattle.spec_plan.specs.Call.{list_bytes}
use Rattle.spec_plan.specs.PlannerBytes.{planner_bytes, planner_in}
use Rattle.spec_plan.proofs.Invariant.{Inv}
use Rattle.plan_bytes.specs.Form.Numbers.{Below}

-- a planner before the first record of a step, and the one that bytes say
abbrev pub bare : PlannerState → Draft
bare p = record { planner = p; records = [] }

abbrev pub drafted : List ℕ → Draft
drafted b = bare (planner_in b)

-- bytes that are a planner's between its steps, with no stored instant above a top; the settings are in range. The top may be past
-- the last instant: between the steps of a request that comes to be refused under 7 it is.
pub record Readies (s : Settings) (top : ℕ) (b : List ℕ) : Type 0 where
  pub figures : valid s ≡ true
  pub exact : planner_bytes (planner_in b) ≡ b
  pub inv : Inv (context_of s) (planner_in b)
  pub instants : All Back SomeBack (planner_in b).channel
  pub below : Below top b

-- the same, shut
unfoldable pub Ready : Settings → ℕ → List ℕ → Type 0
Ready s top b = Readies s top b

-- the same between the steps of a request that has sent no WRA: no write that waits closes its bank
pub record Rests (s : Settings) (top : ℕ) (b : List ℕ) : Type 0 where
  pub ready : Ready s top b
  pub plain : any_closes (waiting (drafted b)) ≡ false

unfoldable pub Rested : Settings → ℕ → List ℕ → Type 0
Rested s top b = Rests s top b

-- bank x is not closed; it is closed with its neighbours
abbrev pub OpenAt : List ℕ → ℕ → Type 0
OpenAt b x = is_closed (state_in (drafted b) x) ≡ false

unfoldable pub NearShut : Settings → List ℕ → ℕ → Type 0
NearShut s b x = (y : ℕ) → y < 32 → near (context_of s) x y ≡ true → is_closed (state_in (drafted b) y) ≡ true

-- there is room from a place on for the records of a draft
abbrev pub Fits : Draft → List ℕ → ℕ → Type 0
Fits d room at = at + 32 * length d.records ≤ length room

-- a step from a place of the room on left these bytes, this room and this place for the next record: those of a draft
pub record Drawn (s : Settings) (d : Draft) (room : List ℕ) (at : ℕ) (left room' : List ℕ) (to : ℕ) : Type 0 where
  pub planner : left ≡ planner_bytes d.planner
  pub records : room' ≡ splice room at (list_bytes s d.records)
  pub next : to ≡ at + 32 * length d.records
