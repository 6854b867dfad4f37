-- rdram_plan_all is calls of rdram_plan made in turn, up to the first that is refused.
-- Assumes nothing.
use Rattle.std.specs.Prelude.{None, Option, Some}
use Prim.Native.Nat.{ℕ, zero, suc, ◌*◌, ◌/◌, ◌%◌}
use mathlib.Core.Path.{◌≡◌, refl, sym, ap, ◌∙◌, subst}
use mathlib.Core.Bool.{Bool, true, false}
use mathlib.Core.List.{List, [], ◌∷◌, ◌++◌, append-nil, append_assoc}
use mathlib.Core.Logic.{◌≢◌, ◌⊎◌, ⊎_elim, inl, inr}
use lib.Dec.{eqb}
use lib.ListN.{length}
use borrow.Author.Tests.{eqb-false}
use native.Mathlib.Omega.{arith}
use Rattle.num.specs.Bytes.{Bytes}
use Rattle.num.proofs.PartLaws.{Bytes-part}
use Rattle.settings.specs.declared.Settings.{Settings}
use Rattle.settings.specs.Settings.{settings_read, valid}
use Rattle.settings.proofs.SettingsLaws.{accepted-valid}
use Rattle.record.specs.declared.Refusal.{Refusal}
use Rattle.record.specs.declared.Refusal.TheVariants as refusal
use Rattle.record.specs.Refusal.{answer_of}
use Rattle.spec_rules.specs.Neighbour.{context_of}
use Rattle.spec_plan.specs.declared.PlannerState.{PlannerState}
use Rattle.spec_plan.specs.Planner.{planner_valid}
use Rattle.spec_plan.specs.PlannerBytes.{planner_bytes, planner_in, planner_right}
use Rattle.spec_plan.proofs.PlannerRoundTrip.{planner-encode-decode}
use Rattle.spec_runs.specs.WholeRun.{fed}
use Rattle.spec_calls.specs.Settings.{under_settings}
use Rattle.spec_calls.specs.PlanAll.{PlanAllResult, in_turn, none_yet, all_refused, plan_all_under, plan_all_call}
use Rattle.spec_calls.specs.Runs.{PlanCall, Bench, bench_next, bench_after, requests_fed, bench_fed, BytesOf, BytesIn}
use Rattle.spec_calls.specs.AllInTurn.{single_call, single_calls, AllInTurn}
use Rattle.spec_calls.proofs.OneCall.{right_valid, call-under}
use Rattle.spec_calls.proofs.PlanAllLaws.{Stands, list-is, rest-is, size_is, left_by, turns, Reached, reached}
use Rattle.spec_calls.proofs.AllCall.{all_whole, all-broken}
use Rattle.spec_calls.proofs.BenchRun.{calls_by, calls_of, bench-from, fed-from}

-- ---- a refused call

refused-in-turn : (settings planner requests room : List ℕ) (why : Refusal) → ((answer_of why).number ≡ 1) ⊎ (((answer_of why).number ≡ 13) × (length requests ≢ 0))
    → AllInTurn settings planner requests room (all_refused planner room why)
unfolding single_calls bench_after bench_fed requests_fed
refused-in-turn settings planner requests room why n =
    record {
      same = λ list. rw append-nil;
      taken = λ list. refl;
      complete = λ z. absurd (⊎_elim (λ o. omega arith) (λ o. omega (arith, o.0)) n);
      refused = λ o. (refl, refl, refl, refl);
      empty = λ e o. absurd (⊎_elim o (λ t. t.1 (ap length e)) n);
      stops = λ z o t. absurd (⊎_elim o (λ p. t p.0) n);
      size = refl;
      rest = refl;
    }

-- ---- requests in turn, from a planner that is not refused

module _ (settings : List ℕ) (s : Settings) (a : settings_read settings ≡ Some s) (p : PlannerState) (h : planner_valid (context_of s) p ≡ true)
    (requests : List ℕ) (b : Bytes requests) (room : List ℕ) where
  v : valid s ≡ true
  v = accepted-valid settings s a

  -- the calls of rdram_plan are those on states
  abbrev singles : ℕ → List PlanCall
  singles n = single_calls settings (planner_bytes p) requests room n

  calls-append : (l m : List PlanCall) (x : Bench) → calls_of settings s (l ++ m) x ≡ calls_of settings s l x ++ calls_of settings s m (bench_after settings l x)
  unfolding calls_of bench_after
  calls-append [] m x = refl
  calls-append (c ∷ l) m x = rw (calls-append l m (bench_next settings c x)) (sym (append_assoc (calls_by settings s c x) _ _))

  singles-are : (n : ℕ) (x : Bench) → calls_of settings s (singles n) x ≡ turns s (planner_bytes p) requests room n
  unfolding single_calls turns calls_of calls_by
  singles-are zero x = refl
  singles-are (suc n) x =
      calls-append (singles n) (single_call settings (planner_bytes p) requests room n ∷ []) x
      ∙ rw (singles-are n x, call-under settings s a)

  singles-bytes : (n : ℕ) → BytesIn (singles n)
  unfolding single_calls BytesIn
  singles-bytes zero = tt
  singles-bytes (suc n) = bytes-more (singles n) (single_call settings (planner_bytes p) requests room n) (singles-bytes n) (Bytes-part requests (24 * n) 24 b)
    where
      bytes-more : (l : List PlanCall) (c : PlanCall) → BytesIn l → BytesOf c → BytesIn (l ++ (c ∷ []))
      bytes-more [] c k w = (w, tt)
      bytes-more (d ∷ l) c k w = (k.0, bytes-more l c k.1 w)

  turned : (n : ℕ) (y : PlanAllResult) → n ≡ length requests / 24 → (n ≡ 0 → y ≡ none_yet (planner_bytes p) room) → Reached s v p h requests b room n y
      → AllInTurn settings (planner_bytes p) requests room y
  turned n y e none r =
      let k : Stands s p room y (turns s (planner_bytes p) requests room y.answer.place) = r.stands in
      let w = singles-bytes y.answer.place in
      record {
        same = λ list. bench-from settings s a (singles y.answer.place) w p h list ∙ rw (singles-are y.answer.place, sym k.planner-is, sym (list-is s v p room y _ k));
        taken = λ list. fed-from settings s a (singles y.answer.place) w p h list ∙ ap (fed (context_of s) p) (singles-are y.answer.place _) ∙ r.fed-is;
        complete = λ z. r.all-planned z ∙ e;
        refused = λ o. absurd (⊎_elim r.own.0 r.own.1 o);
        empty = λ z o. none (omega (arith, e, ap length z));
        stops = λ z o t. (omega (arith, r.below z, e), rw (call-under settings s a) (r.refused-again z));
        size = size_is s v p room y _ k;
        rest = rest-is s v p room y _ k;
      }

  none_yet_lem : length requests / 24 ≡ 0 → left_by s (planner_bytes p) requests room (length requests / 24) ≡ none_yet (planner_bytes p) room
  unfolding in_turn
  none_yet_lem e = rw e

  from-state : AllInTurn settings (planner_bytes p) requests room (plan_all_call settings (planner_bytes p) requests room)
  unfolding answer_of
  from-state = go (eqb (length requests % 24) 0) refl
    where
      go : (t : Bool) → eqb (length requests % 24) 0 ≡ t → AllInTurn settings (planner_bytes p) requests room (plan_all_call settings (planner_bytes p) requests room)
      go true e =
          subst (AllInTurn settings (planner_bytes p) requests room) (sym (all_whole settings s a p h requests b room e))
          (turned (length requests / 24) _ refl none_yet_lem (reached s v p h requests b room (length requests / 24) (omega arith)))
      go false e =
          subst (AllInTurn settings (planner_bytes p) requests room) (sym (all-broken settings s a p h requests b room e))
          (refused-in-turn settings (planner_bytes p) requests room refusal.Length (inr (refl, λ z. eqb-false (length requests % 24) 0 e (omega arith))))

-- ---- any bytes

module _ (settings planner requests room : List ℕ) (wp : Bytes planner) (b : Bytes requests) where
  by_state : (s : Settings) → settings_read settings ≡ Some s → (t : Bool) → planner_right (context_of s) planner ≡ t
      → AllInTurn settings planner requests room (plan_all_call settings planner requests room)
  unfolding plan_all_call plan_all_under under_settings answer_of
  by_state s a true e =
      subst (λ (l : List ℕ). AllInTurn settings l requests room (plan_all_call settings l requests room)) (planner-encode-decode (context_of s) planner wp e)
      (from-state settings s a (planner_in planner) (right_valid (context_of s) planner e) requests b room)
  by_state s a false e = rw (a, e) (refused-in-turn settings planner requests room refusal.Settings (inl refl))

  pub all-in-turn : AllInTurn settings planner requests room (plan_all_call settings planner requests room)
  unfolding plan_all_call under_settings answer_of
  all-in-turn = go (settings_read settings) refl
    where
      go : (x : Option Settings) → settings_read settings ≡ x → AllInTurn settings planner requests room (plan_all_call settings planner requests room)
      go None e = rw e (refused-in-turn settings planner requests room refusal.Settings (inl refl))
      go (Some s) e = by_state s e (planner_right (context_of s) planner) refl
