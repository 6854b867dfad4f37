-- The plan of a request (document 01, "Planner"): the order of its commands, and each packet at the least instant.
-- Assumes nothing.
use Rattle.std.specs.Prelude.{ℕ, zero, suc, ◌+◌, ◌%◌, Bool, true, false, not, ◌&&◌, ◌||◌, cond, List, [], ◌∷◌, ◌++◌, eqb, Option, None, Some}
use Rattle.packet.specs.declared.RowPacket.{RowPacket}
use Rattle.packet.specs.declared.RowPacket.TheVariants.{Act, Prer, Refa, Refp}
use Rattle.packet.specs.declared.ColPacket.{ColPacket}
use Rattle.packet.specs.declared.ColPacket.TheVariants.{Nocop, Wr, Rd}
use Rattle.record.specs.declared.Dualoct.{Dualoct}
use Rattle.record.specs.declared.Record.{Record}
use Rattle.record.specs.declared.Record.TheVariants.{RowAt, ColAt, DataOf}
use Rattle.record.specs.declared.Place.{Place}
use Rattle.record.specs.declared.Request.{Request}
use Rattle.record.specs.declared.Request.TheVariants.{Read, Write as WriteTo, Refresh as RefreshBank, Wait, Flush, Close}
use Rattle.spec_rules.specs.declared.Bank.{Bank}
use Rattle.spec_rules.specs.declared.Bank.TheVariants.{Closed, Open, Refresh}
use Rattle.spec_rules.specs.declared.Write.{Write}
use Rattle.spec_rules.specs.Neighbour.{bank_count, Context, near}
use Rattle.spec_rules.specs.History.{is_closed, any_write, two}
use Rattle.spec_rules.specs.Channel.{never, state_of, waiting_of, leaving_of, after}
use Rattle.spec_rules.specs.Earliest.{placed_at, under, least_from}
use Rattle.spec_plan.specs.declared.PlannerState.{PlannerState}

-- a planner with the records that it has made for a request so far, oldest first
pub record Draft : Type 0 where
  pub planner : PlannerState
  pub records : List Record

-- packets that have no instant yet
abbrev pub row_packet : RowPacket → Record
row_packet p = RowAt never p

abbrev pub col_packet : ColPacket → Record
col_packet p = ColAt never p

-- a step where a test passes
abbrev pub when : Bool → (Draft → Draft) → Draft → Draft
when true step d = step d
when false step d = d

-- the writes that wait, oldest first
abbrev pub waiting : Draft → List Write
waiting d = waiting_of d.planner.channel.buffer

abbrev pub state_in : Draft → ℕ → Bank
state_in d x = state_of d.planner.channel x

-- the mask that a packet carries for the write that it retires; a packet that retires none has M = 0, as a full mask has
abbrev pub carried : Option Write → ℕ → ℕ
carried None mask = 0xFFFF
carried (Some w) mask = mask

-- the mask of the older write after a packet that retires this one: the newer write moves up
abbrev pub shifted : Option Write → ℕ → ℕ → ℕ
shifted None mask second = mask
shifted (Some w) mask second = second

abbrev pub open_on : Bank → ℕ → Bool
open_on Closed row = false
open_on (Open r) row = eqb r row
open_on Refresh row = false

-- whether a write has that bank and column
abbrev pub hits : ℕ → ℕ → Write → Bool
hits bank column w = eqb w.bank bank && eqb w.column column

abbrev pub any_waits : List Write → Bool
any_waits ws = any_write (λ w. true) ws

-- a WRA waits
abbrev pub any_closes : List Write → Bool
any_closes ws = any_write (λ w. w.close) ws

module _ (cx : Context) where
  -- "Each ROW or COL packet takes the least instant, not before now, that the rules allow." (the theorem that joins this to the
  -- rules: proofs/Least.antt)
  unfoldable pub slot : PlannerState → Record → ℕ
  slot p r = least_from cx p.channel r p.now.0

  -- the write that the packet retires at its instant
  abbrev pub leaver : PlannerState → Record → Option Write
  leaver p r = leaving_of cx p.channel (placed_at (slot p r) r)

  -- a packet in its place, under the mask of the write that it retires
  abbrev pub placed_in : PlannerState → Record → Record
  placed_in p r = placed_at (slot p r) (under (carried (leaver p r) p.mask) r)

  -- a packet sent; "Now is the latest ROW or COL instant"
  unfoldable pub sent : Record → Draft → Draft
  sent r d =
      let p : PlannerState = d.planner in
      record {
        planner = record {
          channel = after cx p.channel (placed_in p r);
          now = record { 0 = slot p r };
          refresh = p.refresh;
          mask = shifted (leaver p r) p.mask p.second;
          second = p.second;
        };
        records = d.records ++ (placed_in p r ∷ []);
      }

  -- NOCOP, which retires the older write
  unfoldable pub flushed : Draft → Draft
  flushed d = sent (col_packet (Nocop 0xFFFF)) d

  -- NOCOP while the waiting writes pass a test; two wait at most
  unfoldable pub flushed_while : (List Write → Bool) → Draft → Draft
  flushed_while test d = let z : Draft = when (test (waiting d)) flushed d in when (test (waiting z)) flushed z

  -- a PRER to bank x closes the bank of a write that waits
  abbrev pub loses : ℕ → List Write → Bool
  loses x ws = any_write (λ w. near cx x w.bank) ws

  -- "each by PRER"; "The planner sends NOCOP [..] before a read or a PRER until the write concerned has retired" (document 02 a)
  unfoldable pub closed : ℕ → Draft → Draft
  closed x d = sent (row_packet (Prer x)) (flushed_while (loses x) d)

  -- of the banks below n that a test picks, "close the open ones in rising order"
  unfoldable pub closed_up_to : (ℕ → Bool) → ℕ → Draft → Draft
  closed_up_to pick zero d = d
  closed_up_to pick (suc n) d = let z : Draft = closed_up_to pick n d in when (pick n && not (is_closed (state_in z n))) (closed n) z

  -- "of the bank and its neighbours, close the open ones in rising order"
  abbrev pub cleared : ℕ → Draft → Draft
  cleared bank d = closed_up_to (near cx bank) bank_count d

  -- "To reach a row that is not open: [..] Then ACT."
  unfoldable pub reached : ℕ → ℕ → Draft → Draft
  reached bank row d = when (not (open_on (state_in d bank) row)) (λ d. sent (row_packet (Act bank row)) (cleared bank d)) d

  -- "The planner sends NOCOP before an RD while two wait, and before a read [..] until the write concerned has retired" (document
  -- 02 a); "an RDA with a write waiting in its bank breaks 14. The planner sends NOCOPs before such an RDA." (f)
  abbrev pub delays : Bool → Place → List Write → Bool
  delays close at ws = two ws || (any_write (hits at.bank at.column) ws || (close && loses at.bank ws))

  -- "then RD.", or RDA
  unfoldable pub planned_read : Bool → Place → Draft → Draft
  planned_read close at d =
      sent (col_packet (Rd at.bank at.column 0xFFFF close))
      (flushed_while (delays close at) (reached at.bank at.row d))

  -- D after a WR, which now waits with its own mask, behind an older write or alone: "Each WR is followed in the list by its data
  -- record D, at WR + tCWD"
  unfoldable pub loaded : ℕ → Dualoct → Draft → Draft
  loaded mask bytes d =
      let p : PlannerState = d.planner in
      let q : Record = DataOf (record { 0 = p.now.0 + cx.settings.cwd }) bytes in
      record {
        planner = record {
          channel = after cx p.channel q;
          now = p.now;
          refresh = p.refresh;
          mask = cond (two (waiting d)) p.mask mask;
          second = cond (two (waiting d)) mask p.second;
        };
        records = d.records ++ (q ∷ []);
      }

  -- WR, or WRA, carries the mask of the write that it retires, and never its own
  unfoldable pub written : Bool → Place → ℕ → Dualoct → Draft → Draft
  written close at mask bytes d = loaded mask bytes (sent (col_packet (Wr at.bank at.column 0xFFFF close)) d)

  -- "Write: WR, then D."; of a WRA "the planner sends the NOCOPs for it in the same request"
  unfoldable pub planned_write : Bool → Place → ℕ → Dualoct → Draft → Draft
  planned_write close at mask bytes d = flushed_while any_closes (written close at mask bytes (reached at.bank at.row d))

  -- the next bank's turn
  unfoldable pub turned : Draft → Draft
  turned d =
      let p : PlannerState = d.planner in
      record { planner = record { channel = p.channel; now = p.now; refresh = (p.refresh + 1) % bank_count; mask = p.mask; second = p.second }; records = d.records }

  -- "Refresh: close as above, REFA, REFP, next bank modulo 32."
  unfoldable pub planned_refresh : Draft → Draft
  planned_refresh d =
      let bank : ℕ = d.planner.refresh in
      turned (sent (row_packet (Refp bank)) (sent (row_packet (Refa bank)) (cleared bank d)))

  -- "wait adds to" now
  unfoldable pub planned_wait : ℕ → Draft → Draft
  planned_wait cycles d =
      let p : PlannerState = d.planner in
      record { planner = record { channel = p.channel; now = record { 0 = p.now.0 + cycles }; refresh = p.refresh; mask = p.mask; second = p.second }; records = d.records }

  -- "Kind 4 is now flush: NOCOPs until no write waits."
  unfoldable pub planned_flush : Draft → Draft
  planned_flush d = flushed_while any_waits d

  -- "Kind 5 is close: PRER to each open bank in rising order."
  unfoldable pub planned_close : Draft → Draft
  planned_close d = closed_up_to (λ x. true) bank_count d

  unfoldable pub steps_of : Request → Draft → Draft
  steps_of (Read at close) d = planned_read close at d
  steps_of (WriteTo at mask bytes close) d = planned_write close at mask bytes d
  steps_of RefreshBank d = planned_refresh d
  steps_of (Wait cycles) d = planned_wait cycles d
  steps_of Flush d = planned_flush d
  steps_of Close d = planned_close d

  -- what a request makes of a planner, with its records
  unfoldable pub planned : Request → PlannerState → Draft
  planned q p = steps_of q (record { planner = p; records = [] })
