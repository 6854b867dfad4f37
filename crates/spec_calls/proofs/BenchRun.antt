-- Calls of rdram_plan and rdram_plan_all in a row are plan calls on the planner's states: the bytes left are those of the planner, the
-- list those of the records, and flat memory is fed the same.
-- Assumes nothing.
use Rattle.std.specs.Prelude.{Some}
use Prim.Native.Nat.{ℕ}
use mathlib.Core.Path.{◌≡◌, refl, sym, ap}
use mathlib.Core.Bool.{Bool, true}
use mathlib.Core.List.{List, [], ◌∷◌, ◌++◌, append_assoc, append-nil}
use lib.ListN.{length}
use Rattle.settings.specs.declared.Settings.{Settings}
use Rattle.settings.specs.Settings.{settings_read, valid}
use Rattle.settings.proofs.SettingsLaws.{accepted-valid}
use Rattle.record.specs.declared.Record.{Record}
use Rattle.spec_rules.specs.Neighbour.{context_of}
use Rattle.spec_rules.proofs.NeighbourLaws.{core-neighbours}
use Rattle.spec_plan.specs.declared.PlannerState.{PlannerState}
use Rattle.spec_plan.specs.Planner.{fresh_planner, planner_valid}
use Rattle.spec_plan.specs.PlannerBytes.{planner_bytes}
use Rattle.spec_plan.specs.Call.{list_bytes}
use Rattle.spec_plan.specs.Runs.{Call, OfBytes, planner_after, listed}
use Rattle.spec_plan.proofs.Valid.{fresh-valid, next-valid}
use Rattle.spec_runs.specs.Flat.{Fed}
use Rattle.spec_runs.specs.WholeRun.{fed}
use Rattle.spec_calls.specs.PlanAll.{plan_all_call}
use Rattle.spec_calls.specs.Runs.{PlanCall, One, Many, Bench, fresh_bench, bench_next, bench_after, call_fed, bench_fed, BytesOf, BytesIn}
use Rattle.spec_calls.proofs.ListOf.{list-append}
use Rattle.spec_calls.proofs.OneCall.{call-under, under-accepted, under-planner, under-list}
use Rattle.spec_calls.proofs.PlanAllLaws.{planner-append, listed-append, fed-append, bytes-append, list-is, turns, turns-bytes}
use Rattle.spec_calls.proofs.AllCall.{all-planned}

-- ---- the calls on states

module _ (settings : List ℕ) (s : Settings) where
  -- of a C call: the one, or those of many that were accepted
  unfoldable pub calls_by : PlanCall → Bench → List Call
  calls_by (One request room) x = record { request = request; room = length room } ∷ []
  calls_by (Many requests room) x = turns s x.planner requests room (plan_all_call settings x.planner requests room).answer.place

  unfoldable pub calls_of : List PlanCall → Bench → List Call
  calls_of [] x = []
  calls_of (c ∷ l) x = calls_by c x ++ calls_of l (bench_next settings c x)

  by_bytes : (c : PlanCall) → BytesOf c → (x : Bench) → OfBytes (calls_by c x)
  unfolding OfBytes calls_by
  by_bytes (One request room) b x = (b, tt)
  by_bytes (Many requests room) b x = turns-bytes s x.planner requests room b _

  pub calls-bytes : (calls : List PlanCall) → BytesIn calls → (x : Bench) → OfBytes (calls_of calls x)
  unfolding BytesIn OfBytes calls_of
  calls-bytes [] b x = tt
  calls-bytes (c ∷ l) b x = bytes-append (calls_by c x) (calls_of l (bench_next settings c x)) (by_bytes c b.0 x) (calls-bytes l b.1 (bench_next settings c x))

-- ---- one C call

-- field by field, so that a definition that is wrong in one field is refused at that field
bench-same : (p q l m : List ℕ) → p ≡ q → l ≡ m → ◌≡◌ {A = Bench} (record { planner = p; list = l }) (record { planner = q; list = m })
bench-same p q l m e f = rw (e, f)

fed-same : (request : List ℕ) (p q : Bool) → p ≡ q
    → ◌≡◌ {A = List Fed} (record { request = request; accepted = p } ∷ []) (record { request = request; accepted = q } ∷ [])
fed-same request p q e = rw e

module _ (settings : List ℕ) (s : Settings) (a : settings_read settings ≡ Some s) (p : PlannerState) (k : planner_valid (context_of s) p ≡ true) (list : List ℕ) where
  v : valid s ≡ true
  v = accepted-valid settings s a

  abbrev bench : Bench
  bench = record { planner = planner_bytes p; list = list }

  -- the calls on states that a C call is
  abbrev by : PlanCall → List Call
  by c = calls_by settings s c bench

  bench-next : (c : PlanCall) → BytesOf c →
      bench_next settings c bench ≡ record { planner = planner_bytes (planner_after (context_of s) p (by c)); list = list ++ list_bytes s (listed (context_of s) p (by c)) }
  unfolding bench_next calls_by planner_after listed
  bench-next (One request room) b =
      rw (call-under settings s a, append-nil)
      (bench-same _ _ _ _ (under-planner s v p k request room) (ap (λ x. list ++ x) (under-list s v p k request room)))
  bench-next (Many requests room) b =
      let z = (all-planned settings s a p k requests b room).stands in
      bench-same _ _ _ _ z.planner-is (ap (λ x. list ++ x) (list-is s v p room _ _ z))

  next-right : (c : PlanCall) → BytesOf c → planner_valid (context_of s) (planner_after (context_of s) p (by c)) ≡ true
  unfolding calls_by planner_after
  next-right (One request room) b = next-valid (context_of s) (core-neighbours s) p request (length room) b k
  next-right (Many requests room) b = (all-planned settings s a p k requests b room).stands.planner-valid

  fed-next : (c : PlanCall) → BytesOf c → call_fed settings c bench ≡ fed (context_of s) p (by c)
  unfolding call_fed calls_by fed
  fed-next (One request room) b = rw (call-under settings s a) (fed-same request _ _ (under-accepted s v p k request room))
  fed-next (Many requests room) b = sym (all-planned settings s a p k requests b room).fed-is

-- ---- calls in a row

module _ (settings : List ℕ) (s : Settings) (a : settings_read settings ≡ Some s) where
  pub bench-from : (calls : List PlanCall) → BytesIn calls → (p : PlannerState) → planner_valid (context_of s) p ≡ true → (list : List ℕ) →
      bench_after settings calls (record { planner = planner_bytes p; list = list })
      ≡ record {
        planner = planner_bytes (planner_after (context_of s) p (calls_of settings s calls (record { planner = planner_bytes p; list = list })));
        list = list ++ list_bytes s (listed (context_of s) p (calls_of settings s calls (record { planner = planner_bytes p; list = list })));
      }
  unfolding BytesIn calls_of planner_after listed bench_after list_bytes
  bench-from [] b p k list = rw append-nil
  bench-from (c ∷ l) b p k list =
      let made : List Call = calls_by settings s c (record { planner = planner_bytes p; list = list }) in
      let q : PlannerState = planner_after (context_of s) p made in
      let new : List Record = listed (context_of s) p made in
      let rest : List Call = calls_of settings s l (record { planner = planner_bytes q; list = list ++ list_bytes s new }) in
      rw (
        bench-next settings s a p k list c b.0,
        bench-from l b.1 q (next-right settings s a p k list c b.0) (list ++ list_bytes s new),
        planner-append (context_of s) p made rest,
        listed-append (context_of s) p made rest,
        append_assoc list (list_bytes s new) (list_bytes s (listed (context_of s) q rest)),
        list-append s new (listed (context_of s) q rest),
      )

  pub fed-from : (calls : List PlanCall) → BytesIn calls → (p : PlannerState) → planner_valid (context_of s) p ≡ true → (list : List ℕ)
      → bench_fed settings calls (record { planner = planner_bytes p; list = list }) ≡ fed (context_of s) p (calls_of settings s calls (record { planner = planner_bytes p; list = list }))
  unfolding BytesIn calls_of fed bench_fed
  fed-from [] b p k list = refl
  fed-from (c ∷ l) b p k list =
      let made : List Call = calls_by settings s c (record { planner = planner_bytes p; list = list }) in
      let q : PlannerState = planner_after (context_of s) p made in
      let new : List Record = listed (context_of s) p made in
      let rest : List Call = calls_of settings s l (record { planner = planner_bytes q; list = list ++ list_bytes s new }) in
      rw (
        bench-next settings s a p k list c b.0,
        fed-next settings s a p k list c b.0,
        fed-from l b.1 q (next-right settings s a p k list c b.0) (list ++ list_bytes s new),
        fed-append (context_of s) p made rest,
      )

  module _ (calls : List PlanCall) (b : BytesIn calls) where
    pub bench-list : (bench_after settings calls fresh_bench).list ≡ list_bytes s (listed (context_of s) fresh_planner (calls_of settings s calls fresh_bench))
    unfolding fresh_bench
    bench-list = ap (λ (x : Bench). x.list) (bench-from calls b fresh_planner (fresh-valid (context_of s)) [])

    pub bench-fed : bench_fed settings calls fresh_bench ≡ fed (context_of s) fresh_planner (calls_of settings s calls fresh_bench)
    unfolding fresh_bench
    bench-fed = fed-from calls b fresh_planner (fresh-valid (context_of s)) []
