-- REFA, then REFP: between them a bank is under refresh, which no planner between requests has.
-- Assumes nothing.
use Prim.Native.Nat.{ℕ, ◌+◌, ◌<◌, ◌≤◌, ◌^◌}
use mathlib.Core.Path.{◌≡◌, refl, sym, ap, ◌∙◌}
use mathlib.Core.Bool.{Bool, true, false, cond}
use mathlib.Core.List.{List}
use native.Mathlib.Omega.{arith}
use lib.Dec.{eqb}
use lib.ListN.{length}
use Rattle.num.specs.Bytes.{splice}
use Rattle.settings.specs.declared.Settings.{Settings}
use Rattle.packet.specs.declared.RowPacket.TheVariants.{Refa, Refp}
use Rattle.packet.specs.Row.{row_word}
use Rattle.record.specs.declared.Record.{Record}
use Rattle.record.specs.Record.{record_fields}
use Rattle.spec_rules.specs.declared.Bank.{Bank}
use Rattle.spec_rules.specs.declared.Bank.TheVariants.{Closed, Open, Refresh}
use Rattle.spec_rules.specs.Neighbour.{bank_count, Context, context_of, near}
use Rattle.spec_rules.specs.Packets.{traits, row_traits}
use Rattle.spec_rules.specs.History.{bank_by, is_closed, loads}
use Rattle.spec_rules.specs.Channel.{state_of, after_packet, after}
use Rattle.spec_rules.specs.Earliest.{placed_at, under}
use Rattle.spec_rules.proofs.Bools.{not-both}
use Rattle.spec_rules.proofs.TrackLaws.{buffer-waiting}
use Rattle.spec_state.specs.Valid.{bank_valid}
use Rattle.spec_state.specs.Form.Stores.{close_stored}
use Rattle.spec_state.proofs.RoundTrip.{Back, some_back, Kept}
use Rattle.spec_state.proofs.StoreLaws.{refp-stored}
use Rattle.spec_plan.specs.declared.PlannerState.{PlannerState}
use Rattle.spec_plan.specs.Plan.{Draft, row_packet, state_in, sent}
use Rattle.spec_plan.specs.PlannerBytes.{planner_bytes, planner_in}
use Rattle.spec_plan.proofs.Invariant.{Inv}
use Rattle.spec_plan.proofs.SentLaws.{sent-size, row-state, sent-due, sent-refresh, sent-mask, sent-second, row-gone, row-waiting}
use Rattle.spec_plan.proofs.PlannerRoundTrip.{planner-back}
use Rattle.plan_bytes.specs.Form.Numbers.{now_stored}
use Rattle.plan_bytes.specs.Form.Drawn.{bare, drafted, Ready, NearShut, Fits, Drawn}
use Rattle.plan_bytes.proofs.Marks.{Marked, slot-most, marked-sent}
use Rattle.plan_bytes.proofs.Puts.{Plain}
use Rattle.plan_bytes.proofs.ReadyLaws.{readies, inv, plain, Says, says}
use Rattle.plan_bytes.proofs.Again.{start}
use Rattle.plan_bytes.proofs.Compose.{sent-blind, drawn-room, drawn-then, one-sent}
use Rattle.plan_packets.specs.Form.RowSlots.{close_at}
use Rattle.plan_packets.proofs.rows.Slots.{refp-slot}
use Rattle.plan_packets.proofs.rows.Rows.{row-drawn}

module _ (s : Settings) (top : ℕ) (b : List ℕ) (k : Ready s top b) (h : top ≤ 1000011000) (x : ℕ) (l : x < 32) (shut : NearShut s b x) where
  abbrev cx : Context
  cx = context_of s

  abbrev d : Draft
  d = drafted b

  abbrev refa : Record
  refa = row_packet (Refa x)

  abbrev refp : Record
  refp = row_packet (Refp x)

  -- under refresh
  abbrev z : Draft
  z = sent cx refa d

  abbrev known : Inv cx (planner_in b)
  known = inv s top b k

  marked : Marked s (top + 99) z
  marked = rw add at (marked-sent s (readies s top b k).figures (top + 3) d (start s top b k) (omega arith) refa)
    where
      add : top + 3 + 96 ≡ top + 99
      add = omega arith

  state-in : (y : ℕ) → y < 32 → state_in z y ≡ cond (eqb y x) Refresh (state_in d y)
  unfolding bank_by bank_count
  state-in y m = row-state cx (Refa x) d known.size y m

  kept : Kept cx z.planner.channel
  unfolding bank_valid bank_count
  kept =
      record {
        instants = marked.instants;
        rows_in = λ y m. rw (state-in y m) (either (eqb y x) (state_in d y) (known.banked.rows_in y m));
        write-in = rw (row-waiting cx (Refa x) d) known.held.write-in;
      }
    where
      either : (q : Bool) (a : Bank) → bank_valid cx a ≡ true → bank_valid cx (cond q Refresh a) ≡ true
      either true a e = refl
      either false a e = e

  same-buffer : z.planner.channel.buffer ≡ (planner_in b).channel.buffer
  unfolding sent placed_at under after after_packet loads
  same-buffer = buffer-waiting (planner_in b).channel.buffer

  plain_then : Plain z.planner.channel
  unfolding traits row_traits
  plain_then = record { size = sent-size cx refa d ∙ (plain s top b k).size; write = rw same-buffer (plain s top b k).write; no_due = sent-due cx refa d }

  sides : (y : ℕ) → y < 32 → near cx x y ≡ true → eqb y x ≡ false → state_of z.planner.channel y ≡ Closed
  unfolding NearShut is_closed
  sides y m n e = state-in y m ∙ rw e (is-closed (state_in d y) (shut y m n))
    where
      is-closed : (a : Bank) → is_closed a ≡ true → a ≡ Closed
      is-closed Closed w = refl
      is-closed (Open r) w = not-both false w refl
      is-closed Refresh w = not-both false w refl

  -- on the bytes of that state
  module _ (b1 : List ℕ) (e : b1 ≡ planner_bytes z.planner) where
    mid_back : planner_in b1 ≡ z.planner
    unfolding bank_count context_of
    mid_back =
        let p : PlannerState = z.planner in
        let now : Back p.now.0 = some_back p.now.0 marked.low (omega (arith, marked.now)) in
        let refresh : p.refresh < 2 ^ 16 = rw (sent-refresh cx refa d) (omega (arith, known.refresh-in)) in
        ap planner_in e ∙ planner-back cx (readies s top b k).figures p kept now refresh (rw (sent-mask cx refa d, row-gone cx (Refa x) d) known.mask-in) (rw (sent-second cx refa d) known.second-in)

    low : 4 ≤ (planner_in b1).now.0
    low = rw mid_back marked.low

    refp-says : Says s b1 (close_at s b1 x) refp
    refp-says = says s b1 low (close_at s b1 x) refp (rw mid_back (omega (arith, slot-most s (readies s top b k).figures (top + 99) z marked (omega arith) refp))) (refp-slot s b1 low x l)

    pub mid-fits : close_at s b1 x + 3 < 2 ^ 32
    mid-fits = omega (arith, refp-says.fits)

    refp-drawn : (room : List ℕ) (at : ℕ) (left room' : List ℕ) (to : ℕ) → to ≡ at + 32 → let v : ℕ = close_at s b1 x in left ≡ now_stored (close_stored b1 x v) v
        → room' ≡ splice room at (record_fields (v + 3) 0 (row_word s.device (Refp x)) 0 0) → Drawn s (sent cx refp (drafted b1)) room at left room' to
    refp-drawn room at left room' to next =
        let i : Plain (planner_in b1).channel = rw mid_back plain_then in
        row-drawn s b1 (ap planner_bytes mid_back ∙ sym e) room at left room' to next (Refp x) (λ b v. close_stored b x v) (close_at s b1 x)
        (λ t q. refp-stored cx (planner_in b1).channel q i.size i.write i.no_due x t l (rw mid_back sides)) refp-says

  two-sent : (p : PlannerState) → length (sent cx refp (sent cx refa (bare p))).records ≡ 2
  unfolding sent
  two-sent p = refl

  pub refreshed-fits : (room : List ℕ) (at : ℕ) → at + 64 ≤ length room → Fits (sent cx refp z) room at
  refreshed-fits room at f = omega (arith, two-sent (planner_in b))

  -- the room of the REFP
  pub refreshed-room : (room : List ℕ) (at : ℕ) (b1 room1 : List ℕ) (to1 : ℕ) → Drawn s z room at b1 room1 to1 → at + 64 ≤ length room → (to1 ≡ at + 32) × (to1 + 32 ≤ length room1)
  refreshed-room room at b1 room1 to1 w f =
      let n : to1 ≡ at + 32 = omega (arith, w.next, one-sent cx refa (planner_in b)) in
      (n, omega (arith, drawn-room s z room at b1 room1 to1 w (omega (arith, one-sent cx refa (planner_in b)))))

  pub refreshed-drawn : (room : List ℕ) (at : ℕ) (b1 room1 : List ℕ) (to1 : ℕ) → Drawn s z room at b1 room1 to1 → Fits (sent cx refp z) room at
      → (b2 room2 : List ℕ) (to2 : ℕ) → to2 ≡ to1 + 32 → let v : ℕ = close_at s b1 x in b2 ≡ now_stored (close_stored b1 x v) v
      → room2 ≡ splice room1 to1 (record_fields (v + 3) 0 (row_word s.device (Refp x)) 0 0) → Drawn s (sent cx refp z) room at b2 room2 to2
  refreshed-drawn room at b1 room1 to1 w f b2 room2 to2 n e g =
      drawn-then s (sent cx refp) (sent-blind cx refp) z room at b1 room1 to1 w (mid_back b1 w.planner) f b2 room2 to2 (refp-drawn b1 w.planner room1 to1 b2 room2 to2 n e g)
