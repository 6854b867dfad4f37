-- Demand 3 (document 01, "Flat memory and whole runs"): every list of plan calls, from a fresh planner, makes a list that breaks no
-- rule, that a fresh model passes, with flat memory's answers in order, and after an accepted flush with flat memory as store; the
-- numbers of bytes written sum to the ones in the masks.
-- Assumes nothing.
use Prim.Native.Nat.{ℕ, ◌+◌, ◌<◌, ◌≤◌}
use mathlib.Core.Path.{◌≡◌, refl, sym, ap, ◌∙◌}
use mathlib.Core.Bool.{Bool, true, ◌&&◌}
use mathlib.Core.List.{List, [], ◌∷◌, ◌++◌, append-nil}
use lib.Dec.{eqb, leb}
use lib.ListN.{length}
use borrow.Author.Tests.{leb-true, eqb-true}
use native.Mathlib.Omega.{arith}
use Rattle.num.specs.Bytes.{Bytes}
use Rattle.num.proofs.SearchLaws.{all-at, first-none}
use Rattle.settings.specs.declared.Settings.{Settings}
use Rattle.settings.specs.Instants.{horizon, is_instant}
use Rattle.settings.specs.Settings.{valid}
use Rattle.record.specs.declared.Record.{Record}
use Rattle.record.specs.declared.Record.TheVariants.{RowAt, ColAt, DataOf}
use Rattle.record.specs.Record.{record_fits}
use Rattle.record.proofs.RoundTrip.{Held, record-decode-encode}
use Rattle.spec_rules.specs.declared.Channel.{Channel}
use Rattle.spec_rules.specs.Neighbour.{Context, Neighbours, context_of}
use Rattle.spec_rules.specs.Packets.{instant}
use Rattle.spec_rules.specs.History.{waiting_after}
use Rattle.spec_rules.specs.Rules.{longest_delay, implied_delay}
use Rattle.spec_rules.specs.Broken.{record_in, rule_at, first_broken, every_rule}
use Rattle.spec_rules.specs.Channel.{fresh, waiting_of, leaving_of, after}
use Rattle.spec_rules.specs.Checks.{check_of, checks, judged, found_at}
use Rattle.spec_rules.proofs.Bools.{and_left, and_right}
use Rattle.spec_rules.proofs.BrokenLaws.{lowest-none}
use Rattle.spec_rules.proofs.CheckerRight.{found-is-rule}
use Rattle.spec_rules.proofs.NeighbourLaws.{core-neighbours}
use Rattle.spec_plan.specs.declared.PlannerState.{PlannerState}
use Rattle.spec_plan.specs.Planner.{fresh_planner}
use Rattle.spec_plan.specs.Call.{plan_next}
use Rattle.spec_plan.specs.Runs.{Call, OfBytes, planner_after, listed}
use Rattle.spec_plan.proofs.Legal.{run-made, run-words, rules-hold}
use Rattle.spec_model.specs.Store.{store_length}
use Rattle.spec_model.specs.Model.{fresh_model}
use Rattle.spec_runs.specs.Flat.{flat_after, flat_answers, flat_masks}
use Rattle.spec_runs.specs.Count.{retired_masks, ones_of}
use Rattle.spec_runs.specs.Drive.{started}
use Rattle.spec_runs.specs.WholeRun.{fed, EndsInFlush, WholeRun}
use Rattle.spec_runs.proofs.PlainRun.{store_all, answers_all, masks_all, Passing, passing-all}
use Rattle.spec_runs.proofs.Count.{masks-are}
use Rattle.spec_runs.proofs.DriveLaws.{Every, every-at, Coded, Ready, driven-passes, driven-takes, driven-takes-all, driven-store, driven-written, driven-written-all, driven-answers, driven-so-far}
use Rattle.spec_runs.proofs.Sim.{DataIn, done_all, wait_masks}
use Rattle.spec_runs.proofs.SimCalls.{sim-run, flush-empties}

-- ---- lists of calls

first-bytes : (calls rest : List Call) → OfBytes (calls ++ rest) → OfBytes calls
unfolding OfBytes
first-bytes [] rest b = tt
first-bytes (c ∷ calls) rest b = (b.0, first-bytes calls rest b.1)

planner-last : (cx : Context) (p : PlannerState) (calls : List Call) (c : Call)
    → planner_after cx p (calls ++ (c ∷ [])) ≡ plan_next cx (planner_after cx p calls) c.request c.room
unfolding planner_after
planner-last cx p [] c = refl
planner-last cx p (b ∷ calls) c = planner-last cx (plan_next cx p b.request b.room) calls c

-- ---- records that pass are coded

module _ (cx : Context) where
  -- rule 1
  passed-in-time : (ch : Channel) (r : Record) → judged cx ch r ≡ 0 → instant r ≤ horizon
  unfolding judged checks
  passed-in-time ch r e =
      let within : Bool = is_instant (instant r) && (leb (instant r + longest_delay cx r) horizon && leb (instant r + implied_delay cx (leaving_of cx ch r)) horizon) in
      let one : within && check_of cx ch r 1 ≡ true = lowest-none 0 (checks cx ch r) e 0 in
      let range = and_left (is_instant (instant r)) _ (and_left within _ one) in
      leb-true (instant r) horizon (and_right (leb 4 (instant r)) _ range)

  held_by : (r : Record) → instant r ≤ horizon → DataIn r → Held r
  unfolding instant
  held_by (RowAt t p) m d = omega arith
  held_by (ColAt t p) m d = omega arith
  held_by (DataOf t bytes) m d = (omega arith, d.0, d.1)

  coded-all : valid cx.settings ≡ true → (ch : Channel) (l : List Record) → Passing cx ch l → Every (λ r. record_fits cx.settings r ≡ true) l → Every DataIn l → Every (Coded cx) l
  coded-all v ch [] j f d = tt
  coded-all v ch (r ∷ l) j f d =
      (record-decode-encode cx.settings r v (held_by r (passed-in-time ch r j.0) d.0) f.0, coded-all v (after cx ch r) l j.1 f.1 d.1)

module _ (cx : Context) (v : valid cx.settings ≡ true) (ns : Neighbours cx) (calls : List Call) (b : OfBytes calls) where
  -- the list that the calls make, and the planner after them
  abbrev list : List Record
  list = listed cx fresh_planner calls

  abbrev last : PlannerState
  last = planner_after cx fresh_planner calls

  abbrev words : (j : ℕ) → j < length list → record_fits cx.settings (record_in list j) ≡ true
  words = run-words cx ns calls b

  rule-at : (j : ℕ) → j < length list → rule_at cx list j ≡ 0
  unfolding every_rule
  rule-at j m = eqb-true _ 0 (all-at (λ j. eqb (rule_at cx list j) 0) (length list) j (rules-hold cx ns calls b) m)

  found-at : (j : ℕ) → j < length list → found_at cx list j ≡ 0
  unfolding first_broken every_rule
  found-at j m =
      let every = rules-hold cx ns calls b in
      let end : first_broken cx list ≡ length list = first-none (λ j. eqb (rule_at cx list j) 0) (length list) (λ i h. all-at (λ j. eqb (rule_at cx list j) 0) (length list) i every h) in
      found-is-rule cx ns list words j (omega arith) m ∙ rule-at j m

  pub run-passing : Passing cx fresh list
  run-passing = passing-all cx list found-at

  pub run_fits : Every (λ r. record_fits cx.settings r ≡ true) list
  run_fits = every-at (λ r. record_fits cx.settings r ≡ true) list words

  pub run-data : Every DataIn list
  run-data = rw append-nil at (sim-run cx ns [] calls b).at.data-in

  pub run-coded : Every (Coded cx) list
  run-coded = coded-all cx v fresh list run-passing run_fits run-data

  pub run-ready : (store : List ℕ) → length store ≡ store_length cx → Ready cx fresh_model store list
  unfolding fresh_model
  run-ready store n = record { stored = n; coded = run-coded; passing = run-passing }

  -- the masks that the model retires under are those of the retiring packets
  fresh-masks : (l : List Record) → masks_all cx fresh_model l ≡ retired_masks cx l
  unfolding fresh_model fresh waiting_of waiting_after
  fresh-masks l = masks-are cx fresh_model [] refl l

  -- after an accepted flush no write waits
  pub flushed-empty : EndsInFlush cx calls → waiting_of last.channel.buffer ≡ []
  flushed-empty e =
      let first : List Call = e.first in
      let c : OfBytes first = first-bytes first (e.last ∷ []) (rw e.ends at b) in
      rw (e.ends, planner-last cx fresh_planner first e.last)
      (flush-empties cx ns [] (listed cx fresh_planner first) (planner_after cx fresh_planner first) (run-made cx ns first c).rest _ _ _
      (sim-run cx ns [] first c) e.last.request e.last.room e.flush e.taken)

  -- and the masks that were retired under are those of the accepted writes, in order
  flushed-masks : EndsInFlush cx calls → masks_all cx fresh_model list ≡ flat_masks cx (fed cx fresh_planner calls)
  flushed-masks e =
      let k : masks_all cx fresh_model list ++ wait_masks (waiting_of last.channel.buffer) last.mask last.second ≡ flat_masks cx (fed cx fresh_planner calls) =
      rw append-nil at (sim-run cx ns [] calls b).at.written-under in
      rw (flushed-empty e, append-nil) at k

  run-whole : (store : List ℕ) → length store ≡ store_length cx → Bytes store → (rooms : List ℕ) → WholeRun cx calls store rooms
  unfolding started
  run-whole store n w rooms =
      let k = sim-run cx ns store calls b in
      let r = run-ready store n in
      let flat : flat_after cx (fed cx fresh_planner calls) store ≡ done_all cx last.channel (waiting_of last.channel.buffer) last.mask last.second k.older k.newer (store_all cx fresh_model list store) =
      rw append-nil at k.at.flat in
      let answered : answers_all cx fresh_model list store ≡ flat_answers cx (fed cx fresh_planner calls) store = rw append-nil at k.at.same in
      let written = driven-written cx rooms fresh_model store list r in
      record {
        lawful = rules-hold cx ns calls b;
        passes = driven-passes cx rooms fresh_model store list r;
        takes = driven-takes cx rooms fresh_model store list r;
        takes_all = driven-takes-all cx rooms fresh_model store list r;
        so_far = driven-so-far cx rooms fresh_model store list r ∙ rw answered;
        reads = λ e. driven-answers cx rooms fresh_model store list r e ∙ answered;
        flat-after-flush = λ e d. driven-store cx rooms fresh_model store list r e ∙ sym (rw (flushed-empty d) at flat);
        counted = written ∙ ap ones_of (fresh-masks _);
        count-after-flush = λ e d. driven-written-all cx rooms fresh_model store list r e ∙ ap ones_of (flushed-masks d);
      }

pub whole_run : (cx : Context) → valid cx.settings ≡ true → Neighbours cx → (calls : List Call) → OfBytes calls
    → (store : List ℕ) → length store ≡ store_length cx → Bytes store → (rooms : List ℕ) → WholeRun cx calls store rooms
whole_run cx v ns calls b store n w rooms = run-whole cx v ns calls b store n w rooms

-- for two runs of 17 sense amps
pub whole-run-core : (s : Settings) → valid s ≡ true → (calls : List Call) → OfBytes calls → (store : List ℕ) → length store ≡ store_length (context_of s) → Bytes store → (rooms : List ℕ)
    → WholeRun (context_of s) calls store rooms
unfolding context_of
whole-run-core s v calls b store n w rooms = whole_run (context_of s) v (core-neighbours s) calls b store n w rooms
