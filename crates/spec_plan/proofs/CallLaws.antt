-- A plan call, accepted or refused: the planner and the records that it makes.
-- Assumes nothing.
use Rattle.std.specs.Prelude.{Err, Ok, Result}
use Prim.Native.Nat.{ℕ, ◌+◌, ◌/◌, ◌≤◌}
use mathlib.Core.Path.{◌≡◌, refl}
use mathlib.Core.Bool.{Bool, true, false, ◌&&◌, cond}
use mathlib.Core.List.{List, [], ◌∷◌, reverse, reverse_aux}
use lib.Dec.{leb}
use lib.ListN.{length}
use borrow.Author.Tests.{leb-true}
use native.Mathlib.Omega.{arith}
use Rattle.num.specs.Bytes.{Bytes}
use Rattle.settings.specs.Instants.{horizon}
use Rattle.record.specs.declared.Record.{Record}
use Rattle.record.specs.declared.Request.{Request}
use Rattle.record.specs.declared.Request.TheVariants.{Read, Write as WriteTo, Refresh as RefreshBank, Wait, Flush, Close}
use Rattle.record.specs.declared.Refusal.TheVariants.{Horizon, Full, Unretired}
use Rattle.record.specs.Request.{request_read}
use Rattle.record.proofs.RequestLaws.{InRange, accepted-range}
use Rattle.spec_rules.specs.declared.Write.{Write}
use Rattle.spec_rules.specs.declared.Channel.{Channel}
use Rattle.spec_rules.specs.Channel.{waiting_of, leaving_of}
use Rattle.spec_rules.specs.Neighbour.{Context, Neighbours}
use Rattle.spec_rules.specs.Packets.{instant}
use Rattle.spec_rules.specs.Rules.{longest_delay, implied_delay}
use Rattle.spec_rules.proofs.Bools.{not-both, and_left, and_right, neither}
use Rattle.spec_plan.specs.declared.PlannerState.{PlannerState}
use Rattle.spec_plan.specs.Planner.{planner_valid}
use Rattle.spec_plan.specs.Plan.{any_closes, Draft, waiting, planned_wait, steps_of, planned}
use Rattle.spec_plan.specs.Call.{in_time, timely, unretired, outcome_of, outcome_by, plan_outcome, is_made, accepted, draft_by, draft_of, plan_next, plan_records}
use Rattle.spec_plan.proofs.SentLaws.{Plain}
use Rattle.spec_plan.proofs.Invariant.{newest_closes, Inv, valid-inv, valid-plain}
use Rattle.spec_plan.proofs.Trace.{Each, channel_by, Placed, trace-start}
use Rattle.spec_plan.proofs.PlanLaws.{Good, good-read, good-write, good-refresh, good-flush, good-close}
use Rattle.record.specs.declared.Refusal.{Refusal}

-- what a call makes of planner p: the state after its records, each in its place
pub record Made (cx : Context) (p : PlannerState) (d : Draft) : Type 0 where
  pub channel : d.planner.channel ≡ channel_by cx p.channel (reverse d.records)
  pub each : Each (Placed cx p) (reverse d.records)
  pub inv : Inv cx d.planner
  pub queue : newest_closes (waiting d) ≡ true
  pub plain : any_closes (waiting d) ≡ false

-- no packet, data or implied instant passes the last instant
abbrev pub InTime : Context → Channel → List Record → Record → Type 0
InTime cx ch es r = (instant r + longest_delay cx r ≤ horizon) × (leb (instant r + implied_delay cx (leaving_of cx (channel_by cx ch es) r)) horizon ≡ true)

pub each-in-time : (cx : Context) (ch : Channel) (l : List Record) → in_time cx ch l ≡ true → Each (InTime cx ch) (reverse l)
unfolding in_time channel_by
each-in-time cx ch l e = go l [] e tt
  where
    go : (l es : List Record) → in_time cx (channel_by cx ch es) l ≡ true → Each (InTime cx ch) es → Each (InTime cx ch) (reverse_aux l es)
    go [] es e k = k
    go (r ∷ l) es e k =
        let here : Bool = leb (instant r + longest_delay cx r) horizon && leb (instant r + implied_delay cx (leaving_of cx (channel_by cx ch es) r)) horizon in
        let both = and_left here _ e in
        go l (r ∷ es) (and_right here _ e) ((leb-true _ _ (and_left (leb (instant r + longest_delay cx r) horizon) _ both), and_right (leb (instant r + longest_delay cx r) horizon) _ both), k)

module _ (cx : Context) where
  made-good : (p : PlannerState) (d : Draft) → Good cx p d × Plain cx d → Made cx p d
  made-good p d k = record { channel = k.0.trace.channel; each = k.0.trace.each; inv = k.0.inv; queue = k.0.queue; plain = k.1 }

  -- a planner between calls: no write that waits closes its bank
  pub record Rest (p : PlannerState) : Type 0 where
    pub inv : Inv cx p
    pub plain : any_closes (waiting_of p.channel.buffer) ≡ false

  -- a state that is not refused is one
  pub valid-rest : (p : PlannerState) → planner_valid cx p ≡ true → Rest p
  valid-rest p v = record { inv = valid-inv cx p v; plain = valid-plain cx p v }

  plain-queue : (ws : List Write) → any_closes ws ≡ false → newest_closes ws ≡ true
  plain-queue [] e = refl
  plain-queue (x ∷ []) e = refl
  plain-queue (x ∷ y ∷ ws) e = rw (neither x.close _ e).0

  pub rested : (p : PlannerState) → Rest p → Good cx p (record { planner = p; records = [] }) × Plain cx (record { planner = p; records = [] })
  rested p v = (record { trace = trace-start cx p; inv = v.inv; queue = plain-queue (waiting_of p.channel.buffer) v.plain }, v.plain)

  made_nothing : (p : PlannerState) → Rest p → Made cx p (record { planner = p; records = [] })
  made_nothing p v = made-good p (record { planner = p; records = [] }) (rested p v)

  pub made-rest : (p : PlannerState) (d : Draft) → Made cx p d → Rest d.planner
  made-rest p d m = record { inv = m.inv; plain = m.plain }

  pub planned-made : Neighbours cx → (p : PlannerState) → Rest p → (q : Request) → InRange cx.settings q → Made cx p (planned cx q p)
  unfolding planned steps_of planned_wait channel_by
  planned-made ns p v q i = go q i
    where
      d : Draft
      d = record { planner = p; records = [] }

      k : Good cx p d × Plain cx d
      k = rested p v

      go : (q : Request) → InRange cx.settings q → Made cx p (steps_of cx q d)
      go (Read at close) i = made-good p _ (good-read cx ns p close d k at i)
      go (WriteTo at mask bytes close) i = made-good p _ (good-write cx ns p close d k at mask bytes i.0 i.1)
      go RefreshBank i = made-good p _ (good-refresh cx ns p d k)
      go (Wait cycles) i =
          record {
            channel = refl;
            each = tt;
            inv = record { size = v.inv.size; banked = v.inv.banked; held = v.inv.held; refresh-in = v.inv.refresh-in; mask-in = v.inv.mask-in; second-in = v.inv.second-in; low = omega (arith, v.inv.low) };
            queue = k.0.queue;
            plain = v.plain;
          }
      go Flush i = made-good p _ (good-flush cx ns p d k)
      go Close i = made-good p _ (good-close cx ns p d k)

  -- ---- a call

  -- an accepted call passed the test of the instants
  accepted-timely : (p : PlannerState) (x : Result Request Refusal) (room : ℕ) → is_made (outcome_by cx p x room) ≡ true → timely cx p (draft_by cx p x) ≡ true
  unfolding outcome_by outcome_of draft_by is_made
  accepted-timely p (Err why) room e = cc
  accepted-timely p (Ok q) room e = go (unretired q p) (timely cx p (planned cx q p)) (leb (length (planned cx q p).records) (room / 32)) e
    where
      go : (u a b : Bool) → is_made (cond u (Err Unretired) (cond a (cond b (Ok (length (planned cx q p).records)) (Err Full)) (Err Horizon))) ≡ true → a ≡ true
      go true a b h = not-both false h refl
      go false true b h = refl
      go false false b h = h

  module _ (p : PlannerState) (request : List ℕ) (room : ℕ) where
    -- the planner and the records that the call makes
    abbrev pub called : Draft
    called = record { planner = plan_next cx p request room; records = plan_records cx p request room }

    -- a claim of what an accepted call makes, and of a refused one
    called-either : (P : Draft → Type 0) → (accepted cx p request room ≡ true → P (draft_of cx p request)) → P (record { planner = p; records = [] }) → P called
    unfolding plan_next plan_records
    called-either P f g = go (accepted cx p request room) refl
      where
        go : (b : Bool) → accepted cx p request room ≡ b → P (record { planner = cond b (draft_of cx p request).planner p; records = cond b (draft_of cx p request).records [] })
        go true e = f e
        go false e = g

    pub call-made : Neighbours cx → Bytes request → Rest p → Made cx p called
    unfolding draft_by
    call-made ns w v = called-either (Made cx p) (λ _. go (request_read cx.settings request) refl) (made_nothing p v)
      where
        go : (x : Result Request Refusal) → request_read cx.settings request ≡ x → Made cx p (draft_by cx p x)
        go (Err why) e = made_nothing p v
        go (Ok q) e = planned-made ns p v q (accepted-range cx.settings request q w e)

    pub call-timely : leb p.now.0 horizon ≡ true → timely cx p called ≡ true
    unfolding plan_outcome timely in_time
    call-timely e = called-either (λ d. timely cx p d ≡ true) (λ h. accepted-timely p (request_read cx.settings request) room h) e

    pub call-in-time : in_time cx p.channel (plan_records cx p request room) ≡ true
    unfolding plan_outcome timely in_time
    call-in-time =
        called-either (λ d. in_time cx p.channel d.records ≡ true)
        (λ h. and_left (in_time cx p.channel (draft_of cx p request).records) _ (accepted-timely p (request_read cx.settings request) room h)) refl
