-- Whole runs: every list that plan calls make keeps every rule, and the planner's channel is the state after it (document 01,
-- "Rules over every earlier and later record", "Flat memory and whole runs").
-- Assumes nothing.
use Prim.Native.Nat.{ℕ, ◌<◌}
use mathlib.Core.Path.{◌≡◌, refl, sym, ap, ◌∙◌}
use mathlib.Core.Bool.{true, ◌||◌}
use mathlib.Core.List.{List, [], ◌∷◌, ◌++◌, append-nil, append_assoc, reverse, reverse-append}
use lib.Dec.{eqb, lit≤, lit<}
use lib.ListN.{length, length-replicate, get_or-replicate}
use lib.Seq.{take-length}
use borrow.Author.Tests.{le-leb, eqb-true, eq-eqb}
use native.Mathlib.Omega.{arith}
use Rattle.num.specs.Bytes.{Bytes}
use Rattle.num.proofs.SearchLaws.{all-intro}
use Rattle.record.specs.declared.Record.{Record}
use Rattle.record.specs.Record.{record_fits}
use Rattle.spec_rules.specs.declared.Channel.{Channel}
use Rattle.spec_rules.specs.Neighbour.{bank_count, Context, Neighbours}
use Rattle.spec_rules.specs.declared.BankTrack.{BankTrack}
use Rattle.spec_rules.specs.History.{is_closed}
use Rattle.spec_state.specs.Valid.{bank_valid}
use Rattle.spec_rules.specs.Broken.{record_in, lowest_rule, rule_at, every_rule}
use Rattle.spec_rules.specs.Channel.{idle, fresh, track_of, state_of, waiting_of}
use Rattle.spec_rules.specs.Checks.{judged, channel_after, first_found}
use Rattle.spec_rules.proofs.TrackLaws.{Tracks, tracks-fresh}
use Rattle.spec_rules.proofs.CheckerRight.{judged-right, tracks-next, passes-iff}
use Rattle.spec_rules.proofs.EarliestLaws.{checks-split}
use Rattle.spec_plan.specs.declared.PlannerState.{PlannerState}
use Rattle.spec_plan.specs.Planner.{fresh_planner, not_refresh}
use Rattle.spec_plan.specs.Call.{plan_next, plan_records}
use Rattle.spec_plan.specs.Runs.{Call, OfBytes, planner_after, listed}
use Rattle.spec_plan.proofs.Invariant.{Inv}
use Rattle.spec_plan.proofs.Trace.{Each, each_at, channel_by, channel-after, Placed}
use Rattle.spec_plan.proofs.CallLaws.{Made, Rest, made-rest, InTime, each-in-time, called, call-made, call-in-time}

-- a record has a word and breaks no rule after the earlier ones
abbrev pub Allowed : Context → List Record → Record → Type 0
Allowed cx es r = (record_fits cx.settings r ≡ true) × (lowest_rule cx es r ≡ 0)

-- the planner that made list l
pub record Run (cx : Context) (l : List Record) (p : PlannerState) : Type 0 where
  pub rest : Rest cx p
  pub tracks : Tracks cx p.channel (reverse l)
  pub channel : p.channel ≡ channel_by cx fresh (reverse l)
  pub each : Each (Allowed cx) (reverse l)

pub channel-join : (cx : Context) (ch : Channel) (es h : List Record) → channel_by cx ch (es ++ h) ≡ channel_by cx (channel_by cx ch h) es
unfolding channel_by
channel-join cx ch [] h = refl
channel-join cx ch (r ∷ es) h = rw (channel-join cx ch es h)

module _ (cx : Context) where
  fresh-inv : Inv cx fresh_planner
  unfolding fresh_planner fresh bank_count bank_valid not_refresh is_closed waiting_of
  fresh-inv =
      let at : (x : ℕ) → x < 32 → track_of fresh x ≡ idle = λ x m. get_or-replicate 32 x idle idle m in
      record {
        size = length-replicate 32 idle;
        banked = record {
          rows_in = λ x m. ap (λ (k : BankTrack). bank_valid cx k.bank) (at x m);
          no-refresh = λ x m. ap (λ (k : BankTrack). not_refresh k.bank) (at x m);
          one-closed = λ x y mx my n. ap (λ (k : BankTrack). is_closed k.bank || is_closed (state_of fresh y)) (at x mx);
        };
        held = record { write-in = tt; opened = refl; no_due = refl };
        refresh-in = lit< tt;
        mask-in = lit< tt;
        second-in = lit< tt;
        low = lit≤ tt;
      }

  pub fresh-rest : Rest cx fresh_planner
  unfolding fresh_planner fresh waiting_of
  fresh-rest = record { inv = fresh-inv; plain = refl }

module _ (cx : Context) (ns : Neighbours cx) where
  -- the state before each record of a call is the summary of all records before it, and the record breaks no rule
  pub call-tracks : (p : PlannerState) (h : List Record) → Tracks cx p.channel h → Each (Allowed cx) h
      → (es : List Record) → Each (Placed cx p) es → Each (InTime cx p.channel) es
      → Tracks cx (channel_by cx p.channel es) (es ++ h) × Each (Allowed cx) (es ++ h)
  unfolding channel_by
  call-tracks p h k a [] e t = (k, a)
  call-tracks p h k a (r ∷ es) e t =
      let ih = call-tracks p h k a es e.1 t.1 in
      let ch : Channel = channel_by cx p.channel es in
      let here : Placed cx p es r = e.0 in
      let free : eqb (judged cx ch r) 0 ≡ true = checks-split cx ch r ∙ rw (here.fitting, le-leb _ _ here.late, le-leb _ _ t.0.0, here.leaves t.0.1) in
      let none-broken : lowest_rule cx (es ++ h) r ≡ 0 = sym (judged-right cx ns ch (es ++ h) ih.0 r) ∙ eqb-true _ _ free in
      (tracks-next cx ns ch (es ++ h) ih.0 r here.word none-broken, ((here.word, none-broken), ih.1))

  pub run-fresh : Run cx [] fresh_planner
  unfolding fresh_planner channel_by fresh waiting_of
  run-fresh = record { rest = fresh-rest cx; tracks = tracks-fresh cx; channel = refl; each = tt }

  pub run_call : (l : List Record) (p : PlannerState) → Run cx l p → (request : List ℕ) → Bytes request → (room : ℕ)
      → Run cx (l ++ plan_records cx p request room) (plan_next cx p request room)
  run_call l p k request w room =
      let made : Made cx p (called cx p request room) = call-made cx p request room ns w k.rest in
      let new : List Record = reverse (plan_records cx p request room) in
      let back : reverse (l ++ plan_records cx p request room) ≡ new ++ reverse l = reverse-append l (plan_records cx p request room) in
      let both = call-tracks p (reverse l) k.tracks k.each new made.each (each-in-time cx p.channel (plan_records cx p request room) (call-in-time cx p request room)) in
      record {
        rest = made-rest cx p (called cx p request room) made;
        tracks = rw (back, made.channel) both.0;
        channel = rw (back, channel-join cx fresh new (reverse l), ← k.channel) made.channel;
        each = rw back both.1;
      }

  pub run-calls : (calls : List Call) → OfBytes calls → (l : List Record) (p : PlannerState) → Run cx l p
      → Run cx (l ++ listed cx p calls) (planner_after cx p calls)
  unfolding OfBytes listed planner_after
  run-calls [] b l p k = rw (append-nil l) k
  run-calls (c ∷ calls) b l p k =
      rw (← append_assoc l (plan_records cx p c.request c.room))
      (run-calls calls b.1 (l ++ plan_records cx p c.request c.room) (plan_next cx p c.request c.room) (run_call l p k c.request b.0 c.room))

  module _ (calls : List Call) (b : OfBytes calls) where
    pub run-made : Run cx (listed cx fresh_planner calls) (planner_after cx fresh_planner calls)
    run-made = run-calls calls b [] fresh_planner run-fresh

    -- the planner's channel is the summary of the records made
    pub run-tracks : Tracks cx (planner_after cx fresh_planner calls).channel (reverse (listed cx fresh_planner calls))
    run-tracks = run-made.tracks

    -- and the checker's state after them
    pub run-channel : channel_after cx (listed cx fresh_planner calls) (length (listed cx fresh_planner calls)) ≡ (planner_after cx fresh_planner calls).channel
    run-channel =
        let l : List Record = listed cx fresh_planner calls in
        channel-after cx l (length l) (omega arith) ∙ ap (λ (q : List Record). channel_by cx fresh (reverse q)) (take-length l) ∙ sym run-made.channel

    -- each record has a word
    pub run-words : (j : ℕ) → j < length (listed cx fresh_planner calls) → record_fits cx.settings (record_in (listed cx fresh_planner calls) j) ≡ true
    run-words j m = (each_at (Allowed cx) (listed cx fresh_planner calls) run-made.each j m).0

    -- every rule holds on the list
    pub rules-hold : every_rule cx (listed cx fresh_planner calls) ≡ true
    unfolding every_rule
    rules-hold =
        let l : List Record = listed cx fresh_planner calls in
        all-intro (λ j. eqb (rule_at cx l j) 0) (length l) (λ j m. eq-eqb _ _ (each_at (Allowed cx) l run-made.each j m).1)

    -- so the checker passes it
    pub run-passes : eqb (first_found cx (listed cx fresh_planner calls)) (length (listed cx fresh_planner calls)) ≡ true
    run-passes = passes-iff cx ns (listed cx fresh_planner calls) run-words ∙ rules-hold
