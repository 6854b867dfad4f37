-- A planner state that is not refused stays so: no call makes one that is (document 01, "What is turned back").
-- Assumes nothing.
use Prim.Native.Nat.{ℕ, ◌≤◌, max}
use mathlib.Core.Path.{◌≡◌, refl}
use mathlib.Core.Bool.{Bool, true, false, not, ◌||◌}
use mathlib.Core.List.{List, [], ◌∷◌, reverse}
use lib.Dec.{leb, lit≤}
use borrow.Author.Tests.{leb-true, le-leb, lt-ltb, eq-eqb}
use native.Mathlib.Omega.{arith}
use Rattle.num.specs.Bytes.{Bytes}
use Rattle.num.specs.Search.{all_up_to}
use Rattle.num.proofs.SearchLaws.{all-intro}
use Rattle.settings.specs.Instants.{horizon}
use Rattle.record.specs.declared.Record.{Record}
use Rattle.spec_rules.specs.declared.Write.{Write}
use Rattle.spec_rules.specs.declared.Channel.{Channel}
use Rattle.spec_rules.specs.Neighbour.{bank_count, Context, Neighbours}
use Rattle.spec_rules.specs.Packets.{instant}
use Rattle.spec_rules.specs.History.{is_closed, all_writes}
use Rattle.spec_rules.specs.Channel.{track_of, state_of, waiting_of}
use Rattle.spec_rules.specs.Earliest.{earliest}
use Rattle.spec_rules.proofs.Bools.{and_left, and_right}
use Rattle.spec_state.specs.Valid.{track_valid, write_valid, lasts_valid, apart, channel_valid}
use Rattle.spec_state.proofs.EachInstant.{WritesAll}
use Rattle.spec_state.proofs.Stamps.{IsInstant, Stamped, stamps-track, after-stamped, fresh-stamped}
use Rattle.spec_state.proofs.NextValid.{valid-sound}
use Rattle.spec_state.proofs.RoundTrip.{WritesIn}
use Rattle.spec_plan.specs.declared.PlannerState.{PlannerState}
use Rattle.spec_plan.specs.Plan.{any_closes}
use Rattle.spec_plan.specs.Planner.{fresh_planner, not_refresh, planner_valid}
use Rattle.spec_plan.specs.Call.{timely, in_time, plan_next, plan_records}
use Rattle.spec_plan.proofs.Invariant.{Inv, valid-tested, tested-valid, valid-plain}
use Rattle.spec_plan.proofs.Trace.{Each, channel_by, Placed}
use Rattle.spec_plan.specs.Runs.{Call, OfBytes, planner_after}
use Rattle.spec_plan.proofs.CallLaws.{Made, Rest, valid-rest, made-rest, InTime, each-in-time, called, call-made, call-timely, call-in-time}
use Rattle.spec_plan.proofs.Legal.{fresh-rest}

-- ---- the records of a call are in range, so the last instants stay so

earliest-low : (cx : Context) (ch : Channel) (r : Record) → 4 ≤ earliest cx ch r
unfolding earliest
earliest-low cx ch r = le-max 4 _
  where
    le-max : (a b : ℕ) → a ≤ max a b
    le-max a b = omega arith

by-stamped : (cx : Context) (p : PlannerState) → Stamped p.channel
    → (es : List Record) → Each (Placed cx p) es → Each (InTime cx p.channel) es → Stamped (channel_by cx p.channel es)
unfolding channel_by
by-stamped cx p k [] e t = k
by-stamped cx p k (r ∷ es) e t =
    let ch : Channel = channel_by cx p.channel es in
    let low : leb 4 (instant r) ≡ true = le-leb 4 (instant r) (omega (arith, earliest-low cx ch r, e.0.late)) in
    let high : leb (instant r) horizon ≡ true = le-leb (instant r) horizon (omega (arith, t.0.0)) in
    after-stamped cx ch (by-stamped cx p k es e.1 t.1) r (rw (low, high)) (le-leb _ _ t.0.0) t.0.1

-- ---- from the tests and back

write-valid : (cx : Context) (ws : List Write) → WritesIn cx ws → WritesAll IsInstant ws → all_writes (write_valid cx) ws ≡ true
unfolding write_valid
write-valid cx [] i e = refl
write-valid cx (w ∷ ws) i e = rw (lt-ltb _ _ i.0.0, lt-ltb _ _ i.0.1, e.0) (write-valid cx ws i.1 e.1)

valid-stamped : (cx : Context) (p : PlannerState) → planner_valid cx p ≡ true → Stamped p.channel
unfolding planner_valid
valid-stamped cx p v = (valid-sound cx p.channel (and_left (channel_valid cx p.channel) _ v)).stamped

not-or : (a b : Bool) → (a ≡ true → b ≡ true) → not a || b ≡ true
not-or true b f = f refl
not-or false b f = refl

-- a planner that keeps the invariant is not refused where its instants are in range
pub inv-valid : (cx : Context) (p : PlannerState) → Rest cx p → Stamped p.channel → p.now.0 ≤ horizon → planner_valid cx p ≡ true
unfolding lasts_valid apart
inv-valid cx p i k m =
    let ch : Channel = p.channel in
    let v : Inv cx p = i.inv in
    tested-valid cx p
    (record {
      size = eq-eqb _ _ v.size;
      tracks = all-intro (λ x. track_valid cx (track_of ch x)) bank_count (λ x l. stamps-track cx (track_of ch x) (v.banked.rows_in x l) (k.lasts.banks x l));
      lasts = rw (k.lasts.packet, k.lasts.row, k.lasts.col, k.lasts.pre, k.lasts.rd, k.lasts.implied);
      write = write-valid cx (waiting_of ch.buffer) v.held.write-in k.writes;
      one-closed = all-intro (λ x. all_up_to (λ y. not (cx.nbr x y) || (is_closed (state_of ch x) || is_closed (state_of ch y))) bank_count) bank_count
          (λ x mx. all-intro (λ y. not (cx.nbr x y) || (is_closed (state_of ch x) || is_closed (state_of ch y))) bank_count
          (λ y my. not-or (cx.nbr x y) (is_closed (state_of ch x) || is_closed (state_of ch y)) (v.banked.one-closed x y mx my)));
      opened = v.held.opened;
      no-refresh = all-intro (λ x. not_refresh (state_of ch x)) bank_count v.banked.no-refresh;
      due-of = rw v.held.no_due;
      plain = rw i.plain;
      no_due = rw v.held.no_due;
      now-in = rw (le-leb 4 p.now.0 v.low, le-leb p.now.0 horizon m);
      refresh-in = lt-ltb _ _ v.refresh-in;
      mask-in = lt-ltb _ _ v.mask-in;
      second-in = lt-ltb _ _ v.second-in;
    })

-- ---- the two theorems

pub fresh-valid : (cx : Context) → planner_valid cx fresh_planner ≡ true
unfolding fresh_planner
fresh-valid cx = inv-valid cx fresh_planner (fresh-rest cx) fresh-stamped (lit≤ tt)

pub next-valid : (cx : Context) → Neighbours cx → (p : PlannerState) (request : List ℕ) (room : ℕ) → Bytes request
    → planner_valid cx p ≡ true → planner_valid cx (plan_next cx p request room) ≡ true
unfolding timely
next-valid cx ns p request room w v =
    let still : Rest cx p = valid-rest cx p v in
    let made : Made cx p (called cx p request room) = call-made cx p request room ns w still in
    let l : List Record = plan_records cx p request room in
    let now-in : leb p.now.0 horizon ≡ true = and_right (leb 4 p.now.0) _ (valid-tested cx p v).now-in in
    let stamped = by-stamped cx p (valid-stamped cx p v) (reverse l) made.each (each-in-time cx p.channel l (call-in-time cx p request room)) in
    inv-valid cx (plan_next cx p request room) (made-rest cx p (called cx p request room) made) (rw made.channel stamped)
    (leb-true _ _ (and_right (in_time cx p.channel l) _ (call-timely cx p request room now-in)))

-- and every planner of a run
pub run-valid : (cx : Context) → Neighbours cx → (calls : List Call) → OfBytes calls → planner_valid cx (planner_after cx fresh_planner calls) ≡ true
unfolding planner_after OfBytes
run-valid cx ns calls b = go calls b fresh_planner (fresh-valid cx)
  where
    go : (calls : List Call) → OfBytes calls → (p : PlannerState) → planner_valid cx p ≡ true → planner_valid cx (planner_after cx p calls) ≡ true
    go [] b p v = v
    go (c ∷ calls) b p v = go calls b.1 (plan_next cx p c.request c.room) (next-valid cx ns p c.request c.room b.0 v)

-- "A planner state with a WRA waiting falls under 1": between requests none waits
pub none-closing : (cx : Context) → Neighbours cx → (calls : List Call) → OfBytes calls → any_closes (waiting_of (planner_after cx fresh_planner calls).channel.buffer) ≡ false
none-closing cx ns calls b = valid-plain cx (planner_after cx fresh_planner calls) (run-valid cx ns calls b)
