-- "a WR every tCC" (document 02 a): after any run, of two writes in a row to open rows the second WR comes exactly tCC after the
-- first, where no other rule asks more.
-- Assumes nothing.
use Prim.Native.Nat.{ℕ, ◌+◌, ◌-◌, max, ◌≤◌, ◌<◌}
use mathlib.Core.Path.{◌≡◌, refl, sym, ap, ◌∙◌}
use mathlib.Core.Bool.{Bool, true, false, cond, ◌||◌, or-true}
use mathlib.Core.List.{List, [], ◌∷◌, reverse}
use lib.Dec.{leb}
use lib.ListN.{length}
use borrow.Author.Tests.{ne_eqb, leb-true}
use native.Mathlib.Omega.{arith}
use Rattle.settings.specs.Bench.{set_of}
use Rattle.packet.specs.declared.ColPacket.TheVariants.{Wr}
use Rattle.record.specs.declared.Dualoct.{Dualoct}
use Rattle.record.specs.declared.Place.{Place}
use Rattle.record.specs.declared.Record.{Record}
use Rattle.record.specs.declared.Record.TheVariants.{ColAt}
use Rattle.record.specs.declared.Request.TheVariants.{Write as WriteTo}
use Rattle.spec_rules.specs.declared.LastInstants.{LastInstants}
use Rattle.spec_rules.specs.declared.Write.{Write}
use Rattle.spec_rules.specs.declared.Channel.{Channel}
use Rattle.spec_rules.specs.Neighbour.{bank_count, Context, Neighbours, context_of}
use Rattle.spec_rules.specs.Packets.{traits, col_traits, implied_traits, instant}
use Rattle.spec_rules.specs.History.{left, queued, loads, waiting_next, events}
use Rattle.spec_rules.specs.Distances.{only_act}
use Rattle.spec_rules.specs.Channel.{never, track_of, state_of, waiting_of, in_bank, after_packet, after_implied, leaving_of, after, after_data}
use Rattle.spec_rules.specs.Checks.{since, bounds}
use Rattle.spec_rules.specs.Earliest.{placed_at, under, earliest, retire_bound, slot_from, soonest, least_from}
use Rattle.spec_rules.proofs.Bools.{neither}
use Rattle.spec_rules.proofs.NeighbourLaws.{core-neighbours}
use Rattle.spec_rules.proofs.ByCommand.{wr-bounds, retire-bounds}
use Rattle.spec_rules.proofs.TrackLaws.{Tracks, up-to-timed, after-waits}
use Rattle.spec_rules.proofs.EarliestLaws.{picked-late}
use Rattle.spec_rules.proofs.LeavingLaws.{slot-wr-one, slot-wr-two}
use Rattle.spec_state.proofs.AfterLaws.{state_by, after-state}
use Rattle.spec_plan.specs.declared.PlannerState.{PlannerState}
use Rattle.spec_plan.specs.Planner.{fresh_planner}
use Rattle.spec_plan.specs.Plan.{Draft, any_closes, col_packet, open_on, carried, slot, leaver, sent, reached, loaded, written, planned_write, steps_of, planned}
use Rattle.spec_plan.specs.Runs.{Call, OfBytes, planner_after, listed}
use Rattle.spec_plan.specs.Rate.{FullRate, Hit, AtFullRate}
use Rattle.spec_plan.proofs.Invariant.{leaving-plain, left-plain, queued-plain}
use Rattle.spec_plan.proofs.SentLaws.{Plain, while-idle}
use Rattle.spec_plan.proofs.Legal.{Run, run-made}
use Rattle.spec_plan.proofs.Early.{own, own-most, since-most, since-last, Early, AllEarly, data-early, retired-lasts, col-asks, left-early, wr-col, wr-act, wr-next-early, run-early}

-- the older of two is due tCC after t
abbrev OlderDue : Context → ℕ → List Write → Type 0
OlderDue cx t [] = Unit {0}
OlderDue cx t (w ∷ []) = Unit {0}
OlderDue cx t (w ∷ v ∷ ws) = w.at.0 + cx.settings.rtr ≤ t + cx.settings.cc

-- ---- one channel: the least instant of a WR, where the last COL packet came at t and no other rule asks more

module _ (cx : Context) (ch : Channel) (t b c : ℕ) (first : 4 ≤ t) (packet : ch.lasts.packet.0 ≡ t) (col : ch.lasts.col.0 ≡ t)
    (rd : since ch.lasts.rd.0 (cx.settings.cc + cx.settings.cac - cx.settings.cwd) ≤ t + cx.settings.cc)
    (act : since (track_of ch b).act.0 (cx.settings.rcd - cx.settings.rtr) ≤ t + cx.settings.cc) where
  abbrev x : Record
  x = col_packet (Wr b c 0xFFFF false)

  -- it implies no PRER
  own-earliest : earliest cx ch x ≡ max 4 (bounds cx ch (col_traits (Wr b c 0xFFFF false)))
  unfolding earliest traits col_traits
  own-earliest = omega arith

  -- the table
  by-col : soonest cx ch x t ≡ t + cx.settings.cc
  by-col =
      let here : (gap : ℕ) → since t gap ≡ t + gap = λ gap. rw (ne_eqb t 0 (λ e. omega arith)) in
      let most : own cx ch only_act (cx.settings.rcd - cx.settings.rtr) b ≤ t + cx.settings.cc = own-most cx ch only_act _ b _ act in
      rw (own-earliest, wr-bounds cx ch b c 0xFFFF false, packet, col, here 0, here cx.settings.cc) (omega arith)

  -- a retire of a waiting write that is due then
  retire-most : (w : Write) → Early cx ch w → w.close ≡ false → w.at.0 + cx.settings.rtr ≤ t + cx.settings.cc → retire_bound cx ch x w ≤ t + cx.settings.cc
  retire-most w e z h = rw (retire-bounds cx ch w.bank, z) (omega (arith, own-most cx ch only_act cx.settings.rcd w.bank _ e.3))

  by-waiting : (ws : List Write) → AllEarly cx ch ws → any_closes ws ≡ false → OlderDue cx t ws → slot_from cx ch x (t + cx.settings.cc) ws ≡ t + cx.settings.cc
  by-waiting [] e z h = refl
  by-waiting (w ∷ []) e z h =
      let plain : w.close ≡ false = (neither w.close _ z).0 in
      slot-wr-one cx ch never (t + cx.settings.cc) b c 0xFFFF false w ∙ go plain (leb (w.at.0 + cx.settings.rtr) (t + cx.settings.cc)) refl
    where
      go : w.close ≡ false → (q : Bool) → leb (w.at.0 + cx.settings.rtr) (t + cx.settings.cc) ≡ q
          → cond (w.close || q) (max (t + cx.settings.cc) (retire_bound cx ch x w)) (t + cx.settings.cc) ≡ t + cx.settings.cc
      go plain true q = let m = retire-most w e.0 plain (leb-true _ _ q) in rw (or-true w.close) (omega (arith, m))
      go plain false q = rw plain
  by-waiting (w ∷ v ∷ ws) e z h =
      slot-wr-two cx ch never (t + cx.settings.cc) b c 0xFFFF false w v ws ∙ omega (arith, retire-most w e.0 (neither w.close _ z).0 h)

  pub next-wr : AllEarly cx ch (waiting_of ch.buffer) → any_closes (waiting_of ch.buffer) ≡ false → OlderDue cx t (waiting_of ch.buffer) → least_from cx ch x t ≡ t + cx.settings.cc
  unfolding least_from
  next-wr e z h = rw by-col (by-waiting (waiting_of ch.buffer) e z h)

-- ---- a write to an open row

module _ (cx : Context) (p : PlannerState) (at : Place) (m : ℕ) (bytes : Dualoct) where
  abbrev wr : Record
  wr = col_packet (Wr at.bank at.column 0xFFFF false)

  abbrev t : ℕ
  t = slot cx p wr

  abbrev mask : ℕ
  mask = carried (leaver cx p wr) p.mask

  abbrev here : Record
  here = ColAt (record { 0 = t }) (Wr at.bank at.column mask false)

  abbrev draft : Draft
  draft = written cx false at m bytes (record { planner = p; records = [] })

  abbrev ch : Channel
  ch = p.channel

  hit-records : Hit cx at t bytes draft.records
  unfolding written loaded sent placed_at under
  hit-records = record { mask = mask; made = refl }

  hit-now : draft.planner.now.0 ≡ t
  unfolding written loaded sent
  hit-now = refl

  hit-channel : draft.planner.channel ≡ after_data (after cx ch here)
  unfolding written loaded sent placed_at under after
  hit-channel = refl

  late : max 4 (bounds cx ch (col_traits (Wr at.bank at.column mask false))) ≤ t
  unfolding slot least_from earliest traits
  late =
      let same : bounds cx ch (col_traits (Wr at.bank at.column mask false)) ≡ bounds cx ch (col_traits (Wr at.bank at.column 0xFFFF false)) = wr-bounds cx ch _ _ mask false ∙ sym (wr-bounds cx ch _ _ 0xFFFF false) in
      rw same (omega (arith, picked-late cx ch wr (soonest cx ch wr p.now.0) (waiting_of ch.buffer)))

  abbrev then : Channel
  then = after cx ch here

  waits : waiting_of then.buffer ≡ queued (left (leaving_of cx ch here) (waiting_of ch.buffer)) (record { bank = at.bank; column = at.column; at = record { 0 = t }; close = false })
  unfolding waiting_next loads
  waits = after-waits cx ch here

  then-packet : then.lasts.packet.0 ≡ t
  unfolding after after_packet after_implied traits col_traits instant
  then-packet = refl

  -- where no write that waits closes its bank
  module _ (plain : any_closes (waiting_of ch.buffer) ≡ false) where
    then-plain : any_closes (waiting_of then.buffer) ≡ false
    then-plain = rw waits (queued-plain (left (leaving_of cx ch here) (waiting_of ch.buffer)) _ (left-plain (leaving_of cx ch here) (waiting_of ch.buffer) plain) refl)

    hit-plain : Plain cx draft
    unfolding after_data
    hit-plain = rw hit-channel then-plain

    hit-made : open_on (state_of ch at.bank) at.row ≡ true → planned cx (WriteTo at m bytes false) p ≡ draft
    unfolding planned steps_of planned_write reached
    hit-made o = rw o (while-idle cx any_closes draft hit-plain)

    still-state : length ch.banks ≡ bank_count → (y : ℕ) → y < bank_count → state_of draft.planner.channel y ≡ state_of ch y
    unfolding after_data state_by traits col_traits
    still-state n y l = rw hit-channel (after-state cx ch here y n l ∙ rw (leaving-plain cx (waiting_of ch.buffer) here plain))

    then-rd : length ch.banks ≡ bank_count → then.lasts.rd.0 ≡ ch.lasts.rd.0
    unfolding after after_packet after_implied traits col_traits
    then-rd n = rw (leaving-plain cx (waiting_of ch.buffer) here plain) (ap (λ (l : LastInstants). l.rd.0) (retired-lasts cx ch n t (leaving_of cx ch here)))

  module _ (plain : any_closes (waiting_of ch.buffer) ≡ false) (full : FullRate cx.settings) (n : length ch.banks ≡ bank_count) (i : at.bank < bank_count) (early : AllEarly cx ch (waiting_of ch.buffer)) where
    -- rule 11 held of this WR
    rd-most : since ch.lasts.rd.0 (cx.settings.cc + cx.settings.cac - cx.settings.cwd) ≤ t
    rd-most = let l = rw (wr-bounds cx ch at.bank at.column mask false) at late in omega arith

    -- a write that waited before this WR came tCC before it at least, by rule 3
    due-behind : (ws : List Write) (new : Write) → AllEarly cx ch ws → OlderDue cx t (queued ws new)
    due-behind [] new e = tt
    due-behind (w ∷ ws) new e =
        let last : since ch.lasts.col.0 cx.settings.cc ≤ t = omega (arith, col-asks cx ch (Wr at.bank at.column mask false), late) in
        let col : ch.lasts.col.0 + cx.settings.cc ≤ t = rw (ne_eqb ch.lasts.col.0 0 (λ z. omega (arith, e.0.0, e.0.1))) at last in
        omega (arith, e.0.1, full.0)

    older-due : OlderDue cx t (waiting_of then.buffer)
    older-due = rw waits (due-behind (left (leaving_of cx ch here) (waiting_of ch.buffer)) _ (left-early cx ch (leaving_of cx ch here) (waiting_of ch.buffer) early))

    -- the next WR to an open row
    pub next-hit : ((y : ℕ) → y < bank_count → (track_of ch y).act.0 ≤ t) → (b c : ℕ) → b < bank_count → slot cx draft.planner (col_packet (Wr b c 0xFFFF false)) ≡ t + cx.settings.cc
    unfolding slot after_data
    next-hit acts b c l =
        let act : (track_of then b).act ≡ (track_of ch b).act = wr-act cx ch n (record { 0 = t }) at.bank at.column mask false i late b l in
        rw (hit-now, hit-channel)
        (next-wr cx (after_data then) t b c (omega (arith, late)) then-packet (wr-col cx ch n (record { 0 = t }) at.bank at.column mask false i late)
        (rw (then-rd plain n) (omega (arith, rd-most)))
        (rw act (omega (arith, since-most (track_of ch b).act.0 (cx.settings.rcd - cx.settings.rtr) t (acts b l), full.1)))
        (data-early cx then (waiting_of then.buffer) (wr-next-early cx ch n (record { 0 = t }) at.bank at.column mask false i late early)) (then-plain plain) older-due)

-- ---- after any run

-- an ACT is not after the last packet, nor after the next
acts-first : (cx : Context) (p : PlannerState) (es : List Record) → Tracks cx p.channel es → (at : Place) (y : ℕ) → y < bank_count
    → (track_of p.channel y).act.0 ≤ slot cx p (col_packet (Wr at.bank at.column 0xFFFF false))
unfolding implied_traits
acts-first cx p es k at y m =
    let ch : Channel = p.channel in
    let packet : ch.lasts.packet.0 ≤ slot cx p (col_packet (Wr at.bank at.column 0xFFFF false)) =
    since-last ch.lasts.packet.0 0 _ (let l = rw (wr-bounds cx ch at.bank at.column (mask cx p at 0 (record { dqa = 0; dqb = 0 })) false) at (late cx p at 0 (record { dqa = 0; dqb = 0 })) in omega arith) in
    omega (arith, k.lasts.acts y m, up-to-timed cx ch (events cx es) k.lasts (λ z. in_bank z.acts y) (λ b. refl), k.capped, packet)

pub write-rate : (cx : Context) → Neighbours cx → FullRate cx.settings → (calls : List Call) → OfBytes calls → AtFullRate cx (planner_after cx fresh_planner calls)
write-rate cx ns full calls bytes a b ia ib oa ob m n d e =
    let p : PlannerState = planner_after cx fresh_planner calls in
    let k : Run cx (listed cx fresh_planner calls) p = run-made cx ns calls bytes in
    let early : AllEarly cx p.channel (waiting_of p.channel.buffer) = rw k.channel (run-early cx ns (reverse (listed cx fresh_planner calls)) k.each).2 in
    let size : length p.channel.banks ≡ bank_count = k.tracks.lasts.size in
    let next = next-hit cx p a m d k.rest.plain full size ia early (acts-first cx p _ k.tracks a) b.bank b.column ib in
    let open-still : open_on (state_of (written cx false a m d (record { planner = p; records = [] })).planner.channel b.bank) b.row ≡ true = rw (still-state cx p a m d k.rest.plain size b.bank ib) ob in
    rw (hit-made cx p a m d k.rest.plain oa, hit-made cx (written cx false a m d (record { planner = p; records = [] })).planner b n e (hit-plain cx p a m d k.rest.plain) open-still, hit-now cx p a m d)
    (hit-records cx p a m d, rw next at (hit-records cx (written cx false a m d (record { planner = p; records = [] })).planner b n e))

-- set H's timings ask no more
pub full-rate-h : (rows columns core : ℕ) → FullRate (set_of rows columns core)
unfolding set_of
full-rate-h rows columns core = (omega arith, omega arith)

pub write-rate-h : (rows columns core : ℕ) (calls : List Call) → OfBytes calls →
    let cx : Context = context_of (set_of rows columns core) in
    AtFullRate cx (planner_after cx fresh_planner calls)
unfolding context_of
write-rate-h rows columns core calls bytes =
    write-rate (context_of (set_of rows columns core)) (core-neighbours (set_of rows columns core)) (full-rate-h rows columns core) calls bytes
