-- A planner's records one by one, newest first: the state and now before each, and that each passes the tests on the state and
-- stands at the least instant from now on.
-- Assumes nothing.
use Rattle.std.specs.Prelude.{Some}
use Prim.Native.Nat.{ℕ, zero, suc, ◌+◌, ◌≤◌, ◌<◌, ◌^◌}
use mathlib.Core.Path.{◌≡◌, refl, sym, ◌∙◌}
use mathlib.Core.Bool.{Bool, true, false, not, ◌&&◌, ◌||◌, cond, or-true}
use mathlib.Core.List.{List, [], ◌∷◌, ◌++◌, reverse, reverse-append}
use lib.Dec.{eqb}
use lib.ListN.{length}
use lib.Seq.{take-length}
use borrow.Author.Tests.{eqb-true, eqb-false, eq-eqb}
use native.Mathlib.Omega.{arith}
use Rattle.settings.specs.declared.DataAt.{DataAt}
use Rattle.packet.specs.declared.RowPacket.TheVariants.{Act, Prer, Refa, Refp}
use Rattle.packet.specs.declared.ColPacket.TheVariants.{Nocop, Wr, Rd}
use Rattle.record.specs.declared.Dualoct.{Dualoct}
use Rattle.record.specs.declared.Record.{Record}
use Rattle.record.specs.declared.Record.TheVariants.{RowAt, ColAt, DataOf}
use Rattle.record.specs.Record.{record_fits}
use Rattle.spec_rules.specs.declared.Write.{Write}
use Rattle.spec_rules.specs.declared.Channel.{Channel}
use Rattle.spec_rules.specs.Neighbour.{Context}
use Rattle.spec_rules.specs.Packets.{traits, row_traits, col_traits, instant, is_packet}
use Rattle.spec_rules.specs.History.{leaving, any_write}
use Rattle.spec_rules.specs.Broken.{earlier, record_in}
use Rattle.spec_rules.specs.Channel.{fresh, waiting_of, due_of, leaving_of, after}
use Rattle.spec_rules.specs.Checks.{channel_after}
use Rattle.spec_rules.specs.Distances.{distances}
use Rattle.spec_rules.specs.Checks.{bounds}
use Rattle.spec_rules.specs.Earliest.{under, fits, earliest, may_stay, leaves_right, slot_from, soonest, least_from}
use Rattle.spec_rules.proofs.Bools.{not-both}
use Rattle.spec_rules.proofs.ListLaws.{earlier-next}
use Rattle.spec_rules.proofs.EarliestLaws.{moved-instant, moved-packet, moved-earliest, moved-fits, moved-least, moved-leaving, moved-right, leaves_at, able, leaver_fits, leaver_far, picked-right, picked-late}
use Rattle.spec_plan.specs.declared.PlannerState.{PlannerState}
use Rattle.spec_plan.specs.Plan.{Draft, waiting, carried, slot, leaver, placed_in, sent, loaded}
use Rattle.spec_plan.proofs.Invariant.{carried-in}
use Rattle.spec_plan.proofs.SentLaws.{moved_word, here-leaving}

-- ---- a claim of each record of a list, newest first, and of the ones before it

abbrev pub Each : (List Record → Record → Type 0) → List Record → Type 0
Each P [] = Unit {0}
Each P (r ∷ es) = P es r × Each P es

each-down : (P : List Record → Record → Type 0) (l : List Record) (n : ℕ) → n ≤ length l → Each P (earlier l n) → (j : ℕ) → j ≤ n → Each P (earlier l j)
each-down P l zero m k j h = let z : j ≡ 0 = omega arith in rw z k
each-down P l (suc n) m k j h = go (eqb j (suc n)) refl (λ q. each-down P l n (omega arith) below.1 j q)
  where
    below : P (earlier l n) (record_in l n) × Each P (earlier l n)
    below = rw (earlier-next l n (omega arith)) at k

    go : (b : Bool) → eqb j (suc n) ≡ b → (j ≤ n → Each P (earlier l j)) → Each P (earlier l j)
    go true e ih = rw (eqb-true j (suc n) e) k
    go false e ih = ih (omega (arith, eqb-false j (suc n) e))

pub each-before : (P : List Record → Record → Type 0) (l : List Record) → Each P (reverse l) → (j : ℕ) → j ≤ length l → Each P (earlier l j)
each-before P l k j h = each-down P l (length l) (omega arith) (rw (take-length l) k) j h

pub each_at : (P : List Record → Record → Type 0) (l : List Record) → Each P (reverse l) → (j : ℕ) → j < length l → P (earlier l j) (record_in l j)
each_at P l k j h =
    let both : P (earlier l j) (record_in l j) × Each P (earlier l j) = rw (earlier-next l j h) at (each-before P l k (suc j) h) in
    both.0

-- ---- the state and now after records, newest first

unfoldable pub channel_by : Context → Channel → List Record → Channel
channel_by cx ch [] = ch
channel_by cx ch (r ∷ es) = after cx (channel_by cx ch es) r

-- "Now is the latest ROW or COL instant"
unfoldable pub now_by : ℕ → List Record → ℕ
now_by now [] = now
now_by now (r ∷ es) = cond (is_packet r) (instant r) (now_by now es)

-- the state after the first records of a list
pub channel-after : (cx : Context) (l : List Record) (n : ℕ) → n ≤ length l → channel_after cx l n ≡ channel_by cx fresh (earlier l n)
unfolding channel_after channel_by
channel-after cx l zero m = refl
channel-after cx l (suc n) m = rw (earlier-next l n (omega arith), channel-after cx l n (omega arith))

-- ---- a record in its place

-- the state and now are those after the earlier records of this call, es
pub record Placed (cx : Context) (p : PlannerState) (es : List Record) (r : Record) : Type 0 where
  pub word : record_fits cx.settings r ≡ true
  pub fitting : fits cx (channel_by cx p.channel es) r ≡ true
  pub late : earliest cx (channel_by cx p.channel es) r ≤ instant r
  pub leaves :
      let ch : Channel = channel_by cx p.channel es in
      leaver_far cx ch (leaving_of cx ch r) (instant r) ≡ true → leaves_right cx ch r (waiting_of ch.buffer) (leaving_of cx ch r) (instant r) ≡ true
  pub least : is_packet r ≡ true → instant r ≡ least_from cx (channel_by cx p.channel es) r (now_by p.now.0 es)

-- what a planner p has come to be, with the records of this call
pub record Trace (cx : Context) (p : PlannerState) (d : Draft) : Type 0 where
  pub channel : d.planner.channel ≡ channel_by cx p.channel (reverse d.records)
  pub now : d.planner.now.0 ≡ now_by p.now.0 (reverse d.records)
  pub each : Each (Placed cx p) (reverse d.records)

pub trace-start : (cx : Context) (p : PlannerState) → Trace cx p (record { planner = p; records = [] })
unfolding channel_by now_by
trace-start cx p = record { channel = refl; now = refl; each = tt }

module _ (cx : Context) where
  -- data that are due pass the tests on the state
  data-closes : (ws : List Write) → any_write (λ w. false) ws ≡ false
  data-closes [] = refl
  data-closes (w ∷ ws) = data-closes ws

  data-fits : (ch : Channel) (t : ℕ) (bytes : Dualoct) → due_of cx ch ≡ Some t → fits cx ch (DataOf (record { 0 = t }) bytes) ≡ true
  unfolding fits traits is_packet instant
  data-fits ch t bytes e = rw (e, eq-eqb t t refl, data-closes (waiting_of ch.buffer))

  data-earliest : (ch : Channel) (t : DataAt) (bytes : Dualoct) → earliest cx ch (DataOf t bytes) ≤ 4
  unfolding earliest bounds distances traits
  data-earliest ch t bytes = omega arith

  data-leaves : (ch : Channel) (t : DataAt) (bytes : Dualoct) (u : ℕ) → leaves_right cx ch (DataOf t bytes) (waiting_of ch.buffer) (leaving_of cx ch (DataOf t bytes)) u ≡ true
  unfolding leaving traits
  data-leaves ch t bytes u = go (waiting_of ch.buffer)
    where
      go : (ws : List Write) → may_stay cx ch (DataOf t bytes) ws && true ≡ true
      go [] = refl
      go (x ∷ []) = rw (or-true (not (x.close || false)))
      go (x ∷ y ∷ ws) = rw (or-true (not (x.close || (y.close || any_write (λ w. w.close) ws))))

  -- a packet in its place breaks none of rules 9, 10, 12, 14, 16 and 17, where the PRER that its retire implies is in range
  placed-leaves : (p : PlannerState) (r : Record) → able cx p.channel (waiting_of p.channel.buffer) r ≡ true → leaver_fits cx p.channel r (waiting_of p.channel.buffer) ≡ true
      → leaver_far cx p.channel (leaving_of cx p.channel (placed_in cx p r)) (slot cx p r) ≡ true
      → leaves_right cx p.channel (placed_in cx p r) (waiting_of p.channel.buffer) (leaving_of cx p.channel (placed_in cx p r)) (slot cx p r) ≡ true
  unfolding slot least_from under traits row_traits col_traits
  placed-leaves p r a o far =
      let ch : Channel = p.channel in
      let ws : List Write = waiting_of ch.buffer in
      let t0 : ℕ = soonest cx ch r p.now.0 in
      let t : ℕ = slot_from cx ch r t0 ws in
      let m : ℕ = carried (leaver cx p r) p.mask in
      let moved : leaving_of cx ch (placed_in cx p r) ≡ leaves_at cx ch t r = moved-leaving cx ch t m r in
      let same : leaves_at cx ch t r ≡ leaver cx p r = sym moved ∙ here-leaving cx r (record { planner = p; records = [] }) in
      rw moved (moved-right cx ch t m r (leaves_at cx ch t r)
      ∙ picked-right cx ch r m t0 ws a o (λ e. rw (sym same ∙ e) (under-plain r)) (rw moved at far))
    where
      under-plain : (r : Record) → (traits (under 0xFFFF r)).masked ≡ false
      under-plain (RowAt t (Act b row)) = refl
      under-plain (RowAt t (Prer b)) = refl
      under-plain (RowAt t (Refa b)) = refl
      under-plain (RowAt t (Refp b)) = refl
      under-plain (ColAt t (Nocop n)) = refl
      under-plain (ColAt t (Wr b c n x)) = refl
      under-plain (ColAt t (Rd b c n x)) = refl
      under-plain (DataOf t d) = refl

  slot-late : (p : PlannerState) (r : Record) → earliest cx p.channel r ≤ slot cx p r
  unfolding slot least_from
  slot-late p r = omega (arith, picked-late cx p.channel r (soonest cx p.channel r p.now.0) (waiting_of p.channel.buffer))

  module _ (p : PlannerState) (d : Draft) (k : Trace cx p d) where
    -- one packet more
    pub trace-sent : (r : Record) → is_packet r ≡ true → record_fits cx.settings r ≡ true → d.planner.mask < 2 ^ 16 → fits cx d.planner.channel r ≡ true
        → able cx d.planner.channel (waiting d) r ≡ true → leaver_fits cx d.planner.channel r (waiting d) ≡ true → Trace cx p (sent cx r d)
    unfolding sent channel_by now_by slot
    trace-sent r e w mi f a o =
        let ch : Channel = d.planner.channel in
        let t : ℕ = slot cx d.planner r in
        let m : ℕ = carried (leaver cx d.planner r) d.planner.mask in
        let q : Record = placed_in cx d.planner r in
        let es : List Record = reverse d.records in
        let back : reverse (d.records ++ (q ∷ [])) ≡ q ∷ es = reverse-append d.records (q ∷ []) in
        record {
          channel = rw (back, ← k.channel);
          now = rw (back, moved-packet cx ch t m r, e, moved-instant cx ch t m r);
          each = rw back (
            record {
              word = moved_word cx t m r (carried-in (leaver cx d.planner r) d.planner.mask mi) w;
              fitting = rw (← k.channel) (moved-fits cx ch t m r e ∙ f);
              late = rw (← k.channel, moved-earliest cx ch t m r, moved-instant cx ch t m r) (slot-late d.planner r);
              leaves = rw (← k.channel, moved-instant cx ch t m r) (placed-leaves d.planner r a o);
              least = λ _. rw (← k.channel, moved-instant cx ch t m r, ← k.now) (sym (moved-least cx ch t m r d.planner.now.0));
            },
            k.each,
          );
        }

    -- the data of the WR before
    pub trace-loaded : (mask : ℕ) (bytes : Dualoct) → due_of cx d.planner.channel ≡ Some (d.planner.now.0 + cx.settings.cwd) → 4 ≤ d.planner.now.0
        → Trace cx p (loaded cx mask bytes d)
    unfolding loaded channel_by now_by is_packet instant record_fits
    trace-loaded mask bytes due low =
        let q : Record = DataOf (record { 0 = d.planner.now.0 + cx.settings.cwd }) bytes in
        let back : reverse (d.records ++ (q ∷ [])) ≡ q ∷ reverse d.records = reverse-append d.records (q ∷ []) in
        record {
          channel = rw (back, ← k.channel);
          now = rw (back, ← k.now);
          each = rw back (
            record {
              word = refl;
              fitting = rw (← k.channel) (data-fits d.planner.channel (d.planner.now.0 + cx.settings.cwd) bytes due);
              late = omega (arith, data-earliest (channel_by cx p.channel (reverse d.records)) (record { 0 = d.planner.now.0 + cx.settings.cwd }) bytes);
              leaves = λ _. data-leaves (channel_by cx p.channel (reverse d.records)) (record { 0 = d.planner.now.0 + cx.settings.cwd }) bytes (d.planner.now.0 + cx.settings.cwd);
              least = λ e. not-both false e refl;
            },
            k.each,
          );
        }
