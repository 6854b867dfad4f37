-- What a request leaves, whether it is in time, and what it counts.
-- Assumes nothing.
use Prim.Native.Nat.{ℕ, ◌+◌, ◌-◌, ◌/◌, ◌≤◌, max}
use mathlib.Core.Path.{◌≡◌, sym, ap, ap₂, ◌∙◌}
use mathlib.Core.Bool.{Bool, true, false, ◌&&◌, cond}
use mathlib.Core.List.{List}
use native.Mathlib.Omega.{arith}
use borrow.Author.Tests.{leb-true, le-leb}
use lib.Dec.{leb}
use lib.ListN.{length}
use Rattle.num.specs.Bytes.{bytes, splice, Bytes}
use Rattle.num.proofs.SpliceLaws.{splice-none}
use Rattle.settings.specs.declared.Settings.{Settings}
use Rattle.settings.specs.Settings.{valid}
use Rattle.settings.specs.Instants.{horizon}
use Rattle.settings.proofs.SettingsLaws.{Bounds, bounds}
use Rattle.record.specs.declared.Dualoct.{Dualoct}
use Rattle.record.specs.declared.Place.{Place}
use Rattle.record.specs.declared.Request.{Request}
use Rattle.record.specs.declared.Request.TheVariants.{Read, Write as WriteTo, Refresh as RefreshBank, Wait, Flush, Close}
use Rattle.record.proofs.RequestLaws.{InRange}
use Rattle.spec_rules.specs.Neighbour.{bank_count, Context, context_of}
use Rattle.spec_rules.specs.History.{left}
use Rattle.spec_rules.specs.Checks.{since}
use Rattle.spec_rules.proofs.Bools.{iff-eq, leb-max}
use Rattle.spec_rules.proofs.NeighbourLaws.{core-neighbours}
use Rattle.spec_plan.specs.declared.PlannerState.{PlannerState}
use Rattle.spec_plan.specs.Plan.{Draft, state_in, planned_read, planned_write, planned_refresh, planned_wait, planned_flush, planned_close, steps_of, planned}
use Rattle.spec_plan.specs.Call.{list_bytes, in_time, timely}
use Rattle.spec_plan.specs.Looked.{looked_up_to, looked}
use Rattle.spec_plan.specs.PlannerBytes.{planner_bytes, planner_in, planner_right}
use Rattle.spec_plan.proofs.CallLaws.{planned-made}
use Rattle.spec_plan.proofs.LookedLaws.{looked-le}
use Rattle.spec_plan.proofs.Timely.{last_delay, data_before, last_instant, data-before, timely-is}
use Rattle.plan_bytes.specs.Form.Numbers.{word, Below}
use Rattle.plan_bytes.specs.Form.Drawn.{bare, drafted, Ready, Rested, Drawn}
use Rattle.plan_bytes.proofs.Since.{since-some}
use Rattle.plan_bytes.proofs.Marks.{far, Marked, marked_more, marked-read, marked-write, marked-refresh, marked-flush, marked-close}
use Rattle.plan_bytes.proofs.Puts.{now-stored}
use Rattle.plan_bytes.proofs.ReadyLaws.{readies, ready, at_rest}
use Rattle.plan_bytes.proofs.Again.{start, After, after-step, rested-below, rested-call}
use Rattle.plan_in_place.proofs.Planned.{now-some, now-is}

-- ---- wait

pub wait-stored : (s : Settings) (b : List ℕ) → Ready s 999999997 b → (n : ℕ) (left : List ℕ) → left ≡ splice b 752 (bytes 4 (since (word b 752) n)) → left ≡ planner_bytes (planned_wait (context_of s) n (drafted b)).planner
unfolding planned_wait
wait-stored s b k n left e =
    let v : since (word b 752) n ≡ (planner_in b).now.0 + n - 3 = since-some (word b 752) n (now-some s 999999997 b k) ∙ omega (arith, now-is s 999999997 b k) in
    e ∙ ap₂ (λ (l : List ℕ) (v : ℕ). splice l 752 (bytes 4 v)) (sym (readies s 999999997 b k).exact) v ∙ now-stored (planner_in b) ((planner_in b).now.0 + n)

-- ---- refusal 7

-- a request of which now is known to fit its bytes: a wait may pass 2^32
abbrev pub NoWait : Request → Type 0
NoWait (Read at close) = Unit {0}
NoWait (WriteTo at mask bytes close) = Unit {0}
NoWait RefreshBank = Unit {0}
NoWait (Wait n) = ⊥
NoWait Flush = Unit {0}
NoWait Close = Unit {0}

-- a wait, or none
pub wait-or-none : (P : Request → Type 0) → ((n : ℕ) → P (Wait n)) → ((q : Request) → NoWait q → P q) → (q : Request) → P q
wait-or-none P w f (Read at close) = f (Read at close) tt
wait-or-none P w f (WriteTo at mask bytes close) = f (WriteTo at mask bytes close) tt
wait-or-none P w f RefreshBank = f RefreshBank tt
wait-or-none P w f (Wait n) = w n
wait-or-none P w f Flush = f Flush tt
wait-or-none P w f Close = f Close tt

pub request-marked : (s : Settings) (top : ℕ) (b : List ℕ) → Ready s top b → top + 9703 ≤ far → (q : Request) → NoWait q → Marked s (top + 3 + 9700) (planned (context_of s) q (planner_in b))
unfolding planned steps_of
request-marked s top b k h q n = go q n
  where
    v : valid s ≡ true
    v = (readies s top b k).figures

    m : Marked s (top + 3) (drafted b)
    m = start s top b k

    go : (q : Request) → NoWait q → Marked s (top + 3 + 9700) (steps_of (context_of s) q (drafted b))
    go (Read at close) n = marked-read s v (top + 3) (drafted b) m (omega arith) close at
    go (WriteTo at mask bytes close) n = marked-write s v (top + 3) (drafted b) m (omega arith) close at mask bytes
    go RefreshBank n = marked-refresh s v (top + 3) (drafted b) m (omega arith)
    go (Wait cycles) n = absurd n
    go Flush n = marked-flush s v (top + 3) (drafted b) m (omega arith)
    go Close n = marked-close s v (top + 3) (drafted b) m (omega arith)

-- from a calm state no packet, data, implied PRER or now of a request passes the last instant
pub calm-timely : (s : Settings) (b : List ℕ) → Rested s 999990000 b → (q : Request) → NoWait q → timely (context_of s) (planner_in b) (planned (context_of s) q (planner_in b)) ≡ true
unfolding context_of
calm-timely s b k q n =
    let p : PlannerState = planner_in b in
    let now : (planned (context_of s) q p).planner.now.0 ≤ 999999703 = (request-marked s 999990000 b r (omega arith) q n).now in
    timely-is (context_of s) p (at_rest s 999990000 b k).plain q
    ∙ le-leb (last_instant (context_of s) q p) horizon (most _ _ (omega (arith, data-before (context_of s) p q, t.cwd-cac, t.cac-most)) (omega (arith, delay-most q)))
  where
    r : Ready s 999990000 b
    r = ready s 999990000 b k

    t : Bounds s
    t = bounds s (readies s 999990000 b r).figures

    most : (a c : ℕ) → a ≤ horizon → c ≤ horizon → max a c ≤ horizon
    most a c h g = omega arith

    either : (close : Bool) (a c : ℕ) → a ≤ 32 → c ≤ 32 → cond close a c ≤ 32
    either true a c h g = h
    either false a c h g = g

    delay-most : (q : Request) → last_delay (context_of s) q ≤ 32
    delay-most (Read at close) = either close _ _ (omega (arith, t.cac-most, t.offp-most)) (omega (arith, t.cac-most))
    delay-most (WriteTo at mask d close) = either close _ _ t.offp-most (omega (arith, t.cwd-cac, t.cac-most))
    delay-most RefreshBank = omega arith
    delay-most (Wait n) = omega arith
    delay-most Flush = omega arith
    delay-most Close = omega arith

-- a distance after a stored instant, against the last instant as it is stored
ends_by : (w n delay : ℕ) → n ≡ w + 3 → 1 ≤ w → leb (since w delay) 999999997 ≡ leb (n + delay) horizon
ends_by w n delay e l =
    rw (since-some w delay l, e) (iff-eq _ _ (λ h. le-leb (w + 3 + delay) horizon (omega (arith, leb-true (w + delay) 999999997 h))) (λ h. le-leb (w + delay) 999999997 (omega (arith, leb-true (w + 3 + delay) horizon h))))

-- by the bytes that a request leaves, and by D of a closing write
module _ (s : Settings) (b : List ℕ) (k : Rested s 999999997 b) (q : Request) (delay : ℕ) (n : NoWait q × (delay ≡ last_delay (context_of s) q)) (i : InRange s q) (left : List ℕ) (e : left ≡ planner_bytes (planned (context_of s) q (planner_in b)).planner) where
  abbrev left_ends : Bool
  left_ends = leb (since (word left 752) delay) 999999997

  left-ends : left_ends ≡ leb ((planned (context_of s) q (planner_in b)).planner.now.0 + last_delay (context_of s) q) horizon
  unfolding context_of
  left-ends =
      let cx : Context = context_of s in
      let r : Ready s 999999997 b = ready s 999999997 b k in
      let d : Draft = planned cx q (planner_in b) in
      let made = planned-made cx (core-neighbours s) (planner_in b) (at_rest s 999999997 b k) q i in
      let m : Marked s 1000009703 d = marked_more s 1000009700 1000009703 (omega arith) d (request-marked s 999999997 b r (omega arith) q n.0) in
      let a : After s 1000009700 d left = after-step s (readies s 999999997 b r).figures 1000009700 d (omega arith) m made.inv left e in
      rw n.1 (ends_by (word left 752) d.planner.now.0 (last_delay cx q) (ap (λ (p : PlannerState). p.now.0) (sym a.back) ∙ now-is s 1000009700 left a.ready) (now-some s 1000009700 left a.ready))

  pub left-timely : (due : ℕ) → due ≡ data_before (context_of s) q (planner_in b) → (leb due horizon && left_ends) ≡ timely (context_of s) (planner_in b) (planned (context_of s) q (planner_in b))
  left-timely due f = rw (f, left-ends) (sym (timely-is (context_of s) (planner_in b) (at_rest s 999999997 b k).plain q ∙ leb-max (data_before (context_of s) q (planner_in b)) ((planned (context_of s) q (planner_in b)).planner.now.0 + last_delay (context_of s) q) horizon))

  -- of one that is no closing write
  pub left_alone : data_before (context_of s) q (planner_in b) ≡ 0 → left_ends ≡ timely (context_of s) (planner_in b) (planned (context_of s) q (planner_in b))
  left_alone z = left-timely 0 (sym z)

pub wait-timely : (s : Settings) (b : List ℕ) → Ready s 999999997 b → (n : ℕ) → leb (since (word b 752) n) 999999997 ≡ timely (context_of s) (planner_in b) (planned (context_of s) (Wait n) (planner_in b))
unfolding planned steps_of planned_wait timely in_time
wait-timely s b k n = ends_by (word b 752) (planner_in b).now.0 n (now-is s 999999997 b k) (now-some s 999999997 b k)

-- ---- the call

pub rested-low : (s : Settings) (b : List ℕ) → valid s ≡ true → Bytes b → planner_right (context_of s) b ≡ true → (top : ℕ) → Below top b → Rested s top b
rested-low s b v w r top t = rested-below s 999999997 top b (rested-call s b v w r) t

-- what a request leaves and counts
pub record Calls (s : Settings) (p : PlannerState) (room b1 room1 : List ℕ) (q : Request) (n banks due : ℕ) : Type 0 where
  pub planner_after : b1 ≡ planner_bytes (planned (context_of s) q p).planner
  pub room_after : room1 ≡ splice room 0 (list_bytes s (planned (context_of s) q p).records)
  pub records_value : n ≡ length (planned (context_of s) q p).records
  pub banks_value : banks ≡ looked q p
  pub due_value : due ≡ data_before (context_of s) q p

module _ (s : Settings) (p : PlannerState) (room b1 room1 : List ℕ) (to : ℕ) where
  abbrev Called : Request → ℕ → ℕ → ℕ → Type 0
  Called = Calls s p room b1 room1

  called : (q : Request) (n banks due : ℕ) → n ≡ to / 32 → banks ≡ looked q p → due ≡ data_before (context_of s) q p → Drawn s (steps_of (context_of s) q (bare p)) room 0 b1 room1 to → Called q n banks due
  unfolding planned
  called q n banks due e f g w = record { planner_after = w.planner; room_after = w.records; records_value = omega (arith, e, w.next); banks_value = f; due_value = g }

  module _ (n banks due : ℕ) where
    pub called-write : (at : Place) (mask : ℕ) (d : Dualoct) (close : Bool) (made : ℕ) → (n ≡ to / 32) × ((banks ≡ 0) × (due ≡ made)) → made ≡ data_before (context_of s) (WriteTo at mask d close) p
        → Drawn s (planned_write (context_of s) close at mask d (bare p)) room 0 b1 room1 to → Called (WriteTo at mask d close) n banks due
    unfolding steps_of looked
    called-write at mask d close made c e w = called (WriteTo at mask d close) n banks due c.0 c.1.0 (c.1.1 ∙ e) w

    module _ (c : (n ≡ to / 32) × ((banks ≡ 0) × (due ≡ 0))) where
      pub called-wait : (cycles : ℕ) → b1 ≡ planner_bytes (planned_wait (context_of s) cycles (bare p)).planner → room1 ≡ room → to ≡ 0 → Called (Wait cycles) n banks due
      unfolding planned steps_of planned_wait list_bytes looked
      called-wait cycles e f z = record { planner_after = e; room_after = f ∙ splice-none room 0; records_value = omega (arith, c.0); banks_value = c.1.0; due_value = c.1.1 }

      pub called-read : (at : Place) (close : Bool) → Drawn s (planned_read (context_of s) close at (bare p)) room 0 b1 room1 to → Called (Read at close) n banks due
      unfolding steps_of looked
      called-read at close w = called (Read at close) n banks due c.0 c.1.0 c.1.1 w

      pub called-refresh : Drawn s (planned_refresh (context_of s) (bare p)) room 0 b1 room1 to → Called RefreshBank n banks due
      unfolding steps_of looked
      called-refresh w = called RefreshBank n banks due c.0 c.1.0 c.1.1 w

      pub called-flush : Drawn s (planned_flush (context_of s) (bare p)) room 0 b1 room1 to → Called Flush n banks due
      unfolding steps_of looked
      called-flush w = called Flush n banks due c.0 c.1.0 c.1.1 w

  -- the walk of a close, and what it counts
  module _ (turns : ℕ) (w : Drawn s (planned_close (context_of s) (bare p)) room 0 b1 room1 to × (turns ≡ looked_up_to (state_in (bare p)) 32)) where
    pub close-few : turns ≤ 32
    close-few = omega (arith, w.1, looked-le (state_in (bare p)) 32)

    pub called-close : (n banks due : ℕ) → (n ≡ to / 32) × ((banks ≡ turns) × (due ≡ 0)) → Called Close n banks due
    unfolding steps_of looked bank_count
    called-close n banks due c = called Close n banks due c.0 (c.1.0 ∙ w.1) c.1.1 w.0
