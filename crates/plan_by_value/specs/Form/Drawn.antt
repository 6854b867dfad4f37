-- What a draft in code says of a draft of the plan's definition.
-- Assumes nothing.
use Rattle.std.specs.Prelude.{ℕ, zero, suc, ◌+◌, ◌≤◌, ◌≡◌, Bool, false, not, cond, ◌||◌, List, [], ◌∷◌, ◌++◌, leb, ltb, get_or, set, length}
use Rattle.settings.specs.declared.Settings.{Settings}
use Rattle.settings.specs.Instants.{horizon}
use Rattle.packet.specs.declared.RowPacket.TheVariants.{Act}
use Rattle.record.specs.declared.Record.{Record}
use Rattle.record.specs.declared.Record.TheVariants.{RowAt}
use Rattle.spec_rules.specs.Neighbour.{context_of}
use Rattle.spec_rules.specs.Channel.{never, leaving_of}
use Rattle.spec_rules.specs.Earliest.{placed_at, under}
use Rattle.spec_plan.specs.declared.PlannerState.{PlannerState}
use Rattle.spec_plan.specs.Plan.{Draft, row_packet, col_packet, carried}
use Rattle.spec_plan.specs.Call.{timely}
use Rattle.spec_plan.proofs.Timely.{Walked}
use Rattle.plan_by_value.specs.declared.Command.{Command}
use Rattle.plan_by_value.specs.declared.Command.TheVariants.{Row, Col}
use Rattle.plan_by_value.specs.declared.Entry.{Entry}
use Rattle.plan_by_value.specs.declared.Draft.{Draft as Drawn}

-- ---- what the steps are given

abbrev pub packet_of : Command → Record
packet_of (Row p) = row_packet p
packet_of (Col p) = col_packet p

-- ---- a packet in its place

-- an instant, or the last one where it would pass that
abbrev pub clip : ℕ → ℕ
clip t = cond (leb t horizon) t horizon

-- a packet at instant t, under the mask of the write that it retires there
abbrev pub placed_by : Settings → PlannerState → ℕ → Record → Record
placed_by s p t r = placed_at t (under (carried (leaving_of (context_of s) p.channel (placed_at t r)) p.mask) r)

-- ---- drafts

-- what stands in a list where no record was put
abbrev pub blank : Entry
blank = record { made = RowAt never (Act 0 0) }

-- the first n records of a list
unfoldable pub records_of : List Entry → ℕ → List Record
records_of l zero = []
records_of l (suc n) = records_of l n ++ ((get_or l n blank).made ∷ [])

-- a draft of a request to this planner: late where an instant passes the last one; otherwise the same planner, and the same records
-- while they are at most 32
pub record Draws (s : Settings) (p : PlannerState) (d : Drawn) (e : Draft) : Type 0 where
  pub walked : Walked (context_of s) p e
  pub late : d.late ≡ not (timely (context_of s) p e)
  pub planner : d.late ≡ false → d.planner ≡ e.planner
  pub records : d.late ≡ false → length e.records ≤ 32 → records_of d.list d.count ≡ e.records

-- a draft with one record more, while there is a place for it
unfoldable pub added_to : Drawn → PlannerState → Record → Bool → Drawn
added_to d p q late =
    record {
      planner = p;
      list = cond (ltb d.count 32) (set d.list d.count (record { made = q })) d.list;
      count = cond (ltb d.count 32) (d.count + 1) d.count;
      late = d.late || late;
    }

-- a draft with another planner and the same records
abbrev pub moved_to : Drawn → PlannerState → Bool → Drawn
moved_to d p late = record { planner = p; list = d.list; count = d.count; late = d.late || late }
