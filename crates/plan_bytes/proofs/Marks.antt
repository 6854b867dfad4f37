-- Every step of the plan keeps all instants below a top that rises by at most 288 with each bank closed: a packet stands at most 64
-- after it, and the PRER that it implies 32 later.
-- Assumes nothing.
use Prim.Native.Nat.{ℕ, zero, suc, ◌+◌, ◌*◌, ◌≤◌, max}
use mathlib.Core.Path.{◌≡◌}
use mathlib.Core.Bool.{Bool, true, not, ◌&&◌}
use mathlib.Core.List.{List}
use native.Mathlib.Omega.{arith}
use Rattle.settings.specs.declared.Settings.{Settings}
use Rattle.settings.specs.Settings.{valid}
use Rattle.settings.proofs.SettingsLaws.{bounds}
use Rattle.packet.specs.declared.RowPacket.TheVariants.{Act, Prer, Refa, Refp}
use Rattle.packet.specs.declared.ColPacket.TheVariants.{Nocop, Wr, Rd}
use Rattle.record.specs.declared.Dualoct.{Dualoct}
use Rattle.record.specs.declared.Place.{Place}
use Rattle.record.specs.declared.Record.{Record}
use Rattle.record.specs.declared.Record.TheVariants.{DataOf}
use Rattle.spec_rules.specs.declared.Write.{Write}
use Rattle.spec_rules.specs.Neighbour.{bank_count, Context, context_of, near}
use Rattle.spec_rules.specs.Packets.{instant}
use Rattle.spec_rules.specs.History.{is_closed}
use Rattle.spec_rules.specs.Channel.{waiting_of}
use Rattle.spec_rules.specs.Earliest.{earliest, least_from}
use Rattle.spec_rules.proofs.EarliestLaws.{moved-instant, picked-late}
use Rattle.spec_state.proofs.EachInstant.{All, after-all}
use Rattle.spec_state.proofs.RoundTrip.{Back, SomeBack, some_back}
use Rattle.spec_plan.specs.declared.PlannerState.{PlannerState}
use Rattle.spec_plan.specs.Plan.{Draft, row_packet, col_packet, when, waiting, state_in, open_on, any_waits, any_closes, carried, slot, leaver, placed_in, sent, flushed, flushed_while, loses, closed, closed_up_to, reached, delays, planned_read, loaded, written, planned_write, turned, planned_refresh, planned_flush, planned_close}
use Rattle.spec_plan.proofs.SentLaws.{when-either}
use Rattle.plan_bytes.proofs.Tops.{Under, under_more, least-top}

-- a draft whose instants are none or from 4 to a top
pub record Marked (s : Settings) (top : ℕ) (d : Draft) : Type 0 where
  pub instants : All Back SomeBack d.planner.channel
  pub under : Under top d.planner.channel
  pub low : 4 ≤ d.planner.now.0
  pub now : d.planner.now.0 ≤ top

pub marked_more : (s : Settings) (top high : ℕ) → top ≤ high → (d : Draft) → Marked s top d → Marked s high d
marked_more s top high l d k =
    record { instants = k.instants; under = under_more top high l d.planner.channel k.under; low = k.low; now = omega (arith, k.now) }

-- the last instant up to which a step is followed: past the last instant of a packet by more than a request takes, and below 2^32
abbrev pub far : ℕ
far = 1000013000

module _ (s : Settings) (v : valid s ≡ true) where
  abbrev cx : Context
  cx = context_of s

  module _ (top : ℕ) (d : Draft) (k : Marked s top d) (h : top ≤ far) where
    abbrev p : PlannerState
    p = d.planner

    pub slot-most : (r : Record) → slot cx p r ≤ top + 64
    unfolding slot context_of
    slot-most r = least-top cx p.channel top k.under v r p.now.0 k.now

    slot-least : (r : Record) → 4 ≤ slot cx p r
    unfolding slot least_from
    slot-least r = omega (arith, picked-late cx p.channel r (max p.now.0 (earliest cx p.channel r)) (waiting_of p.channel.buffer), k.low)

    -- a packet, and the PRER that it may imply
    pub marked-sent : (r : Record) → Marked s (top + 96) (sent cx r d)
    unfolding sent context_of
    marked-sent r =
        let q : Record = placed_in cx p r in
        let t : ℕ = slot cx p r in
        let e : instant q ≡ t = moved-instant cx p.channel t (carried (leaver cx p r) p.mask) r in
        let most : t ≤ top + 64 = slot-most r in
        let least : 4 ≤ t = slot-least r in
        let later : t + s.offp ≤ top + 96 = omega (arith, (bounds s v).offp-most) in
        let back : Back t = some_back t least (omega arith) in
        let then : Back (t + s.offp) = some_back (t + s.offp) (omega arith) (omega arith) in
        record {
          instants = after-all Back SomeBack cx p.channel k.instants q (rw e back) (rw e (λ _. then, λ _. then)) (rw e (least, back));
          under = after-all (λ t. t ≤ top + 96) (λ t. t ≤ top + 96) cx p.channel (under_more top (top + 96) (omega arith) p.channel k.under) q (rw e (omega arith)) (rw e (λ _. later, λ _. later)) (rw e (omega arith));
          low = least;
          now = omega arith;
        }

    -- the data of a WR
    marked-loaded : (mask : ℕ) (bytes : Dualoct) → Marked s (top + 64) (loaded cx mask bytes d)
    unfolding loaded instant context_of
    marked-loaded mask bytes =
        let t : ℕ = p.now.0 + s.cwd in
        let q : Record = DataOf (record { 0 = t }) bytes in
        let least = k.low in
        let now = k.now in
        let most : t ≤ top + 12 = omega (arith, (bounds s v).cwd-cac, (bounds s v).cac-most) in
        let later : t + s.offp ≤ top + 64 = omega (arith, (bounds s v).offp-most) in
        let back : Back t = some_back t (omega arith) (omega arith) in
        let then : Back (t + s.offp) = some_back (t + s.offp) (omega arith) (omega arith) in
        record {
          instants = after-all Back SomeBack cx p.channel k.instants q back (λ _. then, λ _. then) (omega arith, back);
          under = after-all (λ t. t ≤ top + 64) (λ t. t ≤ top + 64) cx p.channel (under_more top (top + 64) (omega arith) p.channel k.under) q (omega arith) (λ _. later, λ _. later) (omega arith);
          low = least;
          now = omega arith;
        }

    marked-turned : Marked s top (turned cx d)
    unfolding turned
    marked-turned = record { instants = k.instants; under = k.under; low = k.low; now = k.now }

  -- ---- steps

  pub marked-when : (b : Bool) (top : ℕ) (d : Draft) → Marked s top d → top ≤ far → Marked s (top + 96) (when b (flushed cx) d)
  unfolding flushed
  marked-when b top d k h = when-either (Marked s (top + 96)) b (flushed cx) d (λ _. marked-sent top d k h (col_packet (Nocop 0xFFFF))) (λ _. marked_more s top (top + 96) (omega arith) d k)

  pub marked-while : (test : List Write → Bool) (top : ℕ) (d : Draft) → Marked s top d → top + 96 ≤ far → Marked s (top + 192) (flushed_while cx test d)
  unfolding flushed_while
  marked-while test top d k h =
      let z : Draft = when (test (waiting d)) (flushed cx) d in
      marked_more s (top + 96 + 96) (top + 192) (omega arith) _ (marked-when (test (waiting z)) (top + 96) z (marked-when (test (waiting d)) top d k (omega arith)) h)

  marked-closed : (x top : ℕ) (d : Draft) → Marked s top d → top + 192 ≤ far → Marked s (top + 288) (closed cx x d)
  unfolding closed
  marked-closed x top d k h =
      let m = marked-sent (top + 192) (flushed_while cx (loses cx x) d) (marked-while (loses cx x) top d k (omega arith)) h (row_packet (Prer x)) in
      marked_more s (top + 192 + 96) (top + 288) (omega arith) _ m

  pub marked-up-to : (pick : ℕ → Bool) (n top : ℕ) (d : Draft) → Marked s top d → top + 288 * n ≤ far → Marked s (top + 288 * n) (closed_up_to cx pick n d)
  unfolding closed_up_to
  marked-up-to pick zero top d k h = marked_more s top (top + 288 * 0) (omega arith) d k
  marked-up-to pick (suc n) top d k h =
      let z : Draft = closed_up_to cx pick n d in
      let m : Marked s (top + 288 * n) z = marked-up-to pick n top d k (omega arith) in
      when-either (Marked s (top + 288 * suc n)) (pick n && not (is_closed (state_in z n))) (closed cx n) z
      (λ _. marked_more s (top + 288 * n + 288) (top + 288 * suc n) (omega arith) _ (marked-closed n (top + 288 * n) z m (omega arith)))
      (λ _. marked_more s (top + 288 * n) (top + 288 * suc n) (omega arith) z m)

  pub marked_all : (pick : ℕ → Bool) (top : ℕ) (d : Draft) → Marked s top d → top + 9216 ≤ far → Marked s (top + 9216) (closed_up_to cx pick bank_count d)
  unfolding bank_count
  marked_all pick top d k h = marked-up-to pick 32 top d k h

  pub marked-reached : (bank row top : ℕ) (d : Draft) → Marked s top d → top + 9216 ≤ far → Marked s (top + 9312) (reached cx bank row d)
  unfolding reached
  marked-reached bank row top d k h =
      when-either (Marked s (top + 9312)) (not (open_on (state_in d bank) row)) (λ d. sent cx (row_packet (Act bank row)) (closed_up_to cx (near cx bank) bank_count d)) d
      (λ _. marked_more s (top + 9216 + 96) (top + 9312) (omega arith) _ (marked-sent (top + 9216) _ (marked_all (near cx bank) top d k h) h (row_packet (Act bank row))))
      (λ _. marked_more s top (top + 9312) (omega arith) d k)

  -- ---- requests

  pub marked-written : (close : Bool) (at : Place) (mask : ℕ) (bytes : Dualoct) (top : ℕ) (d : Draft) → Marked s top d → top + 96 ≤ far → Marked s (top + 160) (written cx close at mask bytes d)
  unfolding written
  marked-written close at mask bytes top d k h =
      let r : Record = col_packet (Wr at.bank at.column 0xFFFF close) in
      marked_more s (top + 96 + 64) (top + 160) (omega arith) _ (marked-loaded (top + 96) (sent cx r d) (marked-sent top d k (omega arith) r) h mask bytes)

  module _ (top : ℕ) (d : Draft) (k : Marked s top d) (h : top + 9700 ≤ far) where
    pub marked-read : (close : Bool) (at : Place) → Marked s (top + 9700) (planned_read cx close at d)
    unfolding planned_read
    marked-read close at =
        let z : Draft = reached cx at.bank at.row d in
        let m : Marked s (top + 9312) z = marked-reached at.bank at.row top d k (omega arith) in
        let test : List Write → Bool = delays cx close at in
        marked_more s (top + 9312 + 192 + 96) (top + 9700) (omega arith) _ (marked-sent (top + 9312 + 192) (flushed_while cx test z) (marked-while test (top + 9312) z m (omega arith)) (omega arith) (col_packet (Rd at.bank at.column 0xFFFF close)))

    pub marked-write : (close : Bool) (at : Place) (mask : ℕ) (bytes : Dualoct) → Marked s (top + 9700) (planned_write cx close at mask bytes d)
    unfolding planned_write
    marked-write close at mask bytes =
        let z : Draft = reached cx at.bank at.row d in
        let m : Marked s (top + 9312) z = marked-reached at.bank at.row top d k (omega arith) in
        marked_more s (top + 9312 + 160 + 192) (top + 9700) (omega arith) _ (marked-while any_closes (top + 9312 + 160) _ (marked-written close at mask bytes (top + 9312) z m (omega arith)) (omega arith))

    pub marked-refresh : Marked s (top + 9700) (planned_refresh cx d)
    unfolding planned_refresh
    marked-refresh =
        let b : ℕ = d.planner.refresh in
        let z : Draft = closed_up_to cx (near cx b) bank_count d in
        let m : Marked s (top + 9216) z = marked_all (near cx b) top d k (omega arith) in
        let y : Draft = sent cx (row_packet (Refa b)) z in
        let n : Marked s (top + 9216 + 96) y = marked-sent (top + 9216) z m (omega arith) (row_packet (Refa b)) in
        let x : Draft = sent cx (row_packet (Refp b)) y in
        marked_more s (top + 9216 + 96 + 96) (top + 9700) (omega arith) _ (marked-turned (top + 9216 + 96 + 96) x (marked-sent (top + 9216 + 96) y n (omega arith) (row_packet (Refp b))) (omega arith))

    pub marked-flush : Marked s (top + 9700) (planned_flush cx d)
    unfolding planned_flush
    marked-flush = marked_more s (top + 192) (top + 9700) (omega arith) _ (marked-while any_waits top d k (omega arith))

    pub marked-close : Marked s (top + 9700) (planned_close cx d)
    unfolding planned_close
    marked-close = marked_more s (top + 9216) (top + 9700) (omega arith) _ (marked_all (λ x. true) top d k (omega arith))
