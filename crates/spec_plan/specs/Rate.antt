-- Writes at full rate (document 02 a): "a WR every tCC, as the sheet's write examples show".
-- Assumes nothing.
use Rattle.std.specs.Prelude.{ℕ, ◌+◌, ◌*◌, ◌≤◌, ◌<◌, ◌≡◌, true, false, List, [], ◌∷◌}
use Rattle.settings.specs.declared.Settings.{Settings}
use Rattle.packet.specs.declared.ColPacket.TheVariants.{Wr}
use Rattle.record.specs.declared.Dualoct.{Dualoct}
use Rattle.record.specs.declared.Place.{Place}
use Rattle.record.specs.declared.Record.{Record}
use Rattle.record.specs.declared.Record.TheVariants.{ColAt, DataOf}
use Rattle.record.specs.declared.Request.TheVariants.{Write}
use Rattle.spec_rules.specs.Neighbour.{bank_count, Context}
use Rattle.spec_rules.specs.Channel.{state_of}
use Rattle.spec_plan.specs.declared.PlannerState.{PlannerState}
use Rattle.spec_plan.specs.Plan.{Draft, open_on, planned}

-- settings in which no rule asks more of a stream of WR than rule 3: the older of two waiting writes is due when the third WR comes
-- (rule 12), and an ACT that came with a WR allows the next WR to its bank (rule 10)
abbrev pub FullRate : Settings → Type 0
FullRate s = (s.rtr ≤ 2 * s.cc) × (s.rcd ≤ s.rtr + s.cc)

-- the records of a write to an open row: WR at t, under some mask, and its D
pub record Hit (cx : Context) (at : Place) (t : ℕ) (bytes : Dualoct) (l : List Record) : Type 0 where
  pub mask : ℕ
  pub made : l ≡ ColAt (record { 0 = t }) (Wr at.bank at.column mask false) ∷ DataOf (record { 0 = t + cx.settings.cwd }) bytes ∷ []

-- of two writes in a row to open rows the second WR comes exactly tCC after the first
abbrev pub AtFullRate : Context → PlannerState → Type 0
AtFullRate cx p =
    (a b : Place) → a.bank < bank_count → b.bank < bank_count
    → open_on (state_of p.channel a.bank) a.row ≡ true → open_on (state_of p.channel b.bank) b.row ≡ true → (m n : ℕ) (d e : Dualoct) →
    let first : Draft = planned cx (Write a m d false) p in
    let second : Draft = planned cx (Write b n e false) first.planner in
    let t : ℕ = first.planner.now.0 in
    Hit cx a t d first.records × Hit cx b (t + cx.settings.cc) e second.records
