-- Demand 3 of the C calls (document 01, "Flat memory and whole runs"): every list of calls of rdram_plan and rdram_plan_all from a fresh
-- planner makes a list that rdram_check passes and that rdram_model_step takes from a fresh model, with flat memory's answers in order,
-- and after an accepted flush with flat memory as store; the numbers of bytes written sum to the ones in the masks.
-- Assumes nothing.
use Rattle.std.specs.Prelude.{Some}
use Prim.Native.Nat.{ℕ, ◌+◌, ◌-◌, ◌/◌, ◌<◌, ◌≤◌}
use mathlib.Core.Path.{◌≡◌, refl, sym, ap, ◌∙◌}
use mathlib.Core.Bool.{true, cond}
use lib.Dec.{leb}
use mathlib.Core.List.{List, [], ◌∷◌, ◌++◌}
use lib.ListN.{length, take, drop, length-append, length-drop}
use native.Mathlib.Omega.{arith}
use Rattle.num.specs.Bytes.{Bytes}
use Rattle.settings.specs.declared.Settings.{Settings}
use Rattle.settings.specs.Settings.{settings_read, valid}
use Rattle.settings.proofs.SettingsLaws.{accepted-valid}
use Rattle.record.specs.declared.Record.{Record}
use Rattle.record.specs.Request.{request_read}
use Rattle.spec_rules.specs.Neighbour.{Context, context_of}
use Rattle.spec_rules.proofs.NeighbourLaws.{core-neighbours}
use Rattle.spec_plan.specs.declared.PlannerState.{PlannerState}
use Rattle.spec_plan.specs.Planner.{fresh_planner}
use Rattle.spec_plan.specs.Call.{list_bytes, accepted, plan_next}
use Rattle.spec_plan.specs.Runs.{Call, OfBytes, planner_after, listed}
use Rattle.spec_model.specs.Store.{store_length}
use Rattle.spec_model.specs.Model.{fresh_model}
use Rattle.spec_model.proofs.NextValid.{fresh-model-valid}
use Rattle.spec_runs.specs.Drive.{Drive, started, called, driven, wide_calls}
use Rattle.spec_runs.specs.Flat.{Fed}
use Rattle.spec_runs.specs.WholeRun.{fed, EndsInFlush, WholeRun}
use Rattle.spec_runs.proofs.DriveLaws.{Ready, driven-within, driven-none-left}
use Rattle.spec_runs.proofs.Demand.{run_fits, run-data, run-ready, whole-run-core}
use Rattle.spec_check.specs.Check.{records_up_to}
use Rattle.spec_calls.specs.Runs.{PlanCall, Device, fresh_bench, bench_after, bench_fed, fresh_device, device_next, device_after, wide_buffers, BytesIn, FlushesLast, CallsRun}
use Rattle.spec_calls.proofs.ListOf.{length-list, list_count, records-up-to, list-checked}
use Rattle.spec_calls.proofs.BenchRun.{calls_of, calls-bytes, bench-list, bench-fed}
use Rattle.spec_calls.proofs.DeviceRun.{lengths, like, Stands, device-is}

-- the rooms by their lengths
wide-lengths : (rooms : List (List ℕ)) → wide_calls (lengths rooms) ≡ wide_buffers rooms
unfolding lengths wide_calls wide_buffers
wide-lengths [] = refl
wide-lengths (room ∷ rooms) = ap (λ (n : ℕ). cond (leb 16 (length room)) 1 0 + n) (wide-lengths rooms)

-- one call more
device-more : (settings list : List ℕ) (rooms : List (List ℕ)) (room : List ℕ) (x : Device)
    → device_after settings list (rooms ++ (room ∷ [])) x ≡ device_next settings list room (device_after settings list rooms x)
unfolding device_after
device-more settings list [] room x = refl
device-more settings list (first ∷ rooms) room x = device-more settings list rooms room (device_next settings list first x)

driven-more : (cx : Context) (rooms : List (List ℕ)) (room : List ℕ) (x : Drive)
    → driven cx (lengths (rooms ++ (room ∷ []))) x ≡ called cx (length room) (driven cx (lengths rooms) x) (driven cx (lengths rooms) x).pending
unfolding lengths driven
driven-more cx [] room x = refl
driven-more cx (first ∷ rooms) room x = driven-more cx rooms room (called cx (length first) x x.pending)

-- ---- the last request that flat memory is fed

-- the last of calls on states, by the last of what they feed
record LastCall (cx : Context) (p : PlannerState) (calls : List Call) (last : Fed) : Type 0 where
  first : List Call
  call : Call
  ends : calls ≡ first ++ (call ∷ [])
  request : last.request ≡ call.request
  taken : last.accepted ≡ accepted cx (planner_after cx p first) call.request call.room

nothing-fed : (cx : Context) (p : PlannerState) (calls : List Call) → fed cx p calls ≡ [] → calls ≡ []
unfolding fed
nothing-fed cx p [] e = refl
nothing-fed cx p (c ∷ l) e = absurd (omega (arith, ap length e))

one-before : (cx : Context) (p : PlannerState) (c : Call) (calls : List Call) (last : Fed) → LastCall cx (plan_next cx p c.request c.room) calls last → LastCall cx p (c ∷ calls) last
unfolding planner_after
one-before cx p c calls last z = record { first = c ∷ z.first; call = z.call; ends = rw z.ends; request = z.request; taken = z.taken }

last-call : (cx : Context) (p : PlannerState) (calls : List Call) (before : List Fed) (last : Fed) → fed cx p calls ≡ before ++ (last ∷ []) → LastCall cx p calls last
unfolding fed planner_after
last-call cx p [] before last e = absurd (omega (arith, ap length e, length-append before (last ∷ [])))
last-call cx p (c ∷ l) [] last e =
    let none : l ≡ [] = nothing-fed cx (plan_next cx p c.request c.room) l cc in
    let same : last ≡ record { request = c.request; accepted = accepted cx p c.request c.room } = cc in
    record { first = []; call = c; ends = rw none; request = rw same; taken = rw same }
last-call cx p (c ∷ l) (f ∷ before) last e = one-before cx p c l last (last-call cx (plan_next cx p c.request c.room) l before last cc)

module _ (settings : List ℕ) (s : Settings) (a : settings_read settings ≡ Some s) (calls : List PlanCall) (b : BytesIn calls)
    (store : List ℕ) (stored : length store ≡ store_length (context_of s)) (w : Bytes store) where
  v : valid s ≡ true
  v = accepted-valid settings s a

  -- the calls on states, their records, and the model calls on them
  abbrev asked : List Call
  asked = calls_of settings s calls fresh_bench

  abbrev l : List Record
  l = listed (context_of s) fresh_planner asked

  abbrev end : List (List ℕ) → Drive
  end rooms = driven (context_of s) (lengths rooms) (started store l)

  abbrev list : List ℕ
  list = (bench_after settings calls fresh_bench).list

  abbrev device : List (List ℕ) → Device
  device rooms = device_after settings list rooms (fresh_device store)

  of-bytes : OfBytes asked
  of-bytes = calls-bytes settings s calls b fresh_bench

  list-is : list ≡ list_bytes s l
  list-is = bench-list settings s a calls b

  count : length list / 32 ≡ length l
  count = rw list-is (list_count s l)

  ready : Ready (context_of s) fresh_model store l
  unfolding context_of
  ready = run-ready (context_of s) v (core-neighbours s) asked of-bytes store stored

  stands : Stands s (list_bytes s l) (length l) fresh_model store l
  unfolding fresh_model context_of
  stands =
      record {
        before = [];
        stands = refl;
        taken = omega arith;
        within = omega arith;
        model-valid = fresh-model-valid (context_of s) v;
        data-held = ((omega arith, omega arith), (omega arith, omega arith));
        fits = run_fits (context_of s) v (core-neighbours s) asked of-bytes;
        data-in = run-data (context_of s) v (core-neighbours s) asked of-bytes;
        ready = ready;
      }

  fresh-like : fresh_device store ≡ like (length l) (started store l)
  unfolding fresh_device started
  fresh-like = let none-taken : length l - length l ≡ 0 = omega arith in rw none-taken

  device-end : (rooms : List (List ℕ)) → device rooms ≡ like (length l) (end rooms)
  unfolding started
  device-end rooms = rw (list-is, fresh-like) (device-is settings s a (list_bytes s l) (length l) (length-list s l) rooms (started store l) l stands)

  within : (rooms : List (List ℕ)) → length (end rooms).pending ≤ length l
  unfolding started
  within rooms = driven-within (context_of s) (lengths rooms) fresh_model store l ready

  -- where every record is taken, none waits
  none-waits : (rooms : List (List ℕ)) → (device rooms).next ≡ length list / 32 → (end rooms).pending ≡ []
  unfolding started
  none-waits rooms e =
      let next : length l - length (end rooms).pending ≡ length l = sym (ap (λ (x : Device). x.next) (device-end rooms)) ∙ e ∙ count in
      driven-none-left (context_of s) (lengths rooms) fresh_model store l ready (omega (arith, within rooms, next))

  flushes : FlushesLast s (bench_fed settings calls fresh_bench) → EndsInFlush (context_of s) asked
  unfolding context_of
  flushes d =
      let z = last-call (context_of s) fresh_planner asked d.first d.last (sym (bench-fed settings s a calls b) ∙ d.ends) in
      record { first = z.first; last = z.call; ends = z.ends; flush = ap (request_read s) (sym z.request) ∙ d.flush; taken = sym z.taken ∙ d.taken }

  module _ (rooms : List (List ℕ)) where
    whole : WholeRun (context_of s) asked store (lengths rooms)
    whole = whole-run-core s v asked of-bytes store stored w (lengths rooms)

    done-is : records_up_to s list (device rooms).next ≡ take (length l - length (end rooms).pending) l
    done-is = rw (device-end rooms, list-is) (records-up-to s l ready.coded (length l - length (end rooms).pending) (omega arith))

    run-calls : CallsRun settings s calls store rooms
    run-calls =
        let fed-is = bench-fed settings s a calls b in
        record {
          lawful = rw list-is (list-checked s settings a l ready.coded whole.lawful);
          passes = ap (λ (x : Device). x.failed) (device-end rooms) ∙ whole.passes;
          takes = next-taken;
          takes_all = λ wide. ap (λ (x : Device). x.next) (device-end rooms) ∙ all-taken wide ∙ sym count;
          so_far = ap (λ (x : Device). x.answers) (device-end rooms) ∙ rw (fed-is, done-is) whole.so_far;
          reads = λ e. ap (λ (x : Device). x.answers) (device-end rooms) ∙ rw fed-is (whole.reads (none-waits rooms e));
          flat-after-flush = λ e d. ap (λ (x : Device). x.store) (device-end rooms) ∙ rw fed-is (whole.flat-after-flush (none-waits rooms e) (flushes d));
          counted = ap (λ (x : Device). x.written) (device-end rooms) ∙ rw done-is whole.counted;
          count-after-flush = λ e d. ap (λ (x : Device). x.written) (device-end rooms) ∙ rw fed-is (whole.count-after-flush (none-waits rooms e) (flushes d));
        }
      where
        all-taken : length list / 32 ≤ wide_buffers rooms → length l - length (end rooms).pending ≡ length l
        all-taken wide =
            let none_left : (end rooms).pending ≡ [] = whole.takes_all (rw (wide-lengths rooms) (omega (arith, count, wide))) in
            omega (arith, ap length none_left)

        next-taken : (room : List ℕ) → 16 ≤ length room → (device rooms).next < length list / 32 → (device_next settings list room (device rooms)).next ≡ (device rooms).next + 1
        next-taken room h more =
            let new : (end (rooms ++ (room ∷ []))).pending ≡ drop 1 (end rooms).pending = ap (λ (x : Drive). x.pending) (driven-more (context_of s) rooms room (started store l)) ∙ whole.takes (length room) h in
            let size : length (end (rooms ++ (room ∷ []))).pending ≡ length (end rooms).pending - 1 = ap length new ∙ length-drop 1 (end rooms).pending in
            let before : (device rooms).next ≡ length l - length (end rooms).pending = ap (λ (x : Device). x.next) (device-end rooms) in
            let after : (device_next settings list room (device rooms)).next ≡ length l - length (end (rooms ++ (room ∷ []))).pending =
            ap (λ (x : Device). x.next) (sym (device-more settings list rooms room (fresh_device store)) ∙ device-end (rooms ++ (room ∷ []))) in
            omega (arith, size, before, after, more, count, within rooms)

pub calls-run : (settings : List ℕ) (s : Settings) → settings_read settings ≡ Some s → (calls : List PlanCall) → BytesIn calls
    → (store : List ℕ) → length store ≡ store_length (context_of s) → Bytes store → (rooms : List (List ℕ)) → CallsRun settings s calls store rooms
calls-run settings s a calls b store stored w rooms = run-calls settings s a calls b store stored w rooms
