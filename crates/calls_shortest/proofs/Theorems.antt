-- What rdram_shortest promises of the answers of rdram_check.
-- Assumes nothing.
use Rattle.std.specs.Prelude.{Err, None, Ok, Option, Result, Some}
use Prim.Native.Nat.{ℕ, ◌-◌, ◌≤◌}
use mathlib.Core.Path.{◌≡◌, refl, sym, ap, ap₂, ◌∙◌}
use mathlib.Core.List.{List}
use mathlib.Core.Logic.{◌↔◌}
use native.Mathlib.Omega.{arith}
use borrow.Author.Tests.{ne_eqb}
use Rattle.settings.specs.declared.Settings.{Settings}
use Rattle.settings.specs.Settings.{settings_read}
use Rattle.record.specs.declared.Refusal.TheVariants as refusal
use Rattle.record.specs.Refusal.{answer_of}
use Rattle.spec_rules.specs.Neighbour.{Context, context_of}
use Rattle.spec_rules.specs.Broken.{FirstBreach}
use Rattle.spec_check.specs.Check.{records_of, list_answer, ListBreach}
use Rattle.spec_check.proofs.BreachLaws.{list-names}
use Rattle.spec_check.specs.declared.Shortest.{Shortest}
use Rattle.spec_check.specs.Shortest.{run, run_bytes, start_of, shortest_answer, ShortestRun}
use Rattle.spec_check.proofs.ShortestLaws.{shortest-names}
use Rattle.check_list.proofs.shortest.RunLaws.{length-records, run-breach}
use Rattle.spec_calls.specs.declared.CheckAnswer.{CheckAnswer}
use Rattle.spec_calls.specs.Settings.{under_settings}
use Rattle.spec_calls.specs.Checks.{check_answer, check_call}
use Rattle.spec_calls.proofs.BreachLaws.{check-names}
use Rattle.calls_shortest.specs.declared.ShortestAnswer.{ShortestAnswer}
use Rattle.calls_shortest.specs.Results.{with_start, in_numbers, shortest_call}
use Rattle.calls_shortest.specs.Theorems.{broken_at, ShortestFor, ShortestCalls}
use Rattle.record.specs.declared.Refusal.{Refusal}

-- the verdict is the checker's
verdict : (settings list : List ℕ) → shortest_call settings list ≡ with_start (check_call settings list) (shortest_call settings list).start
unfolding shortest_call check_call under_settings in_numbers shortest_answer
verdict settings list = go (settings_read settings) refl
  where
    go : (q : Option Settings) → settings_read settings ≡ q → shortest_call settings list ≡ with_start (check_call settings list) (shortest_call settings list).start
    go None e = rw e
    go (Some s) e = rw e

module _ (settings list : List ℕ) (s : Settings) (a : settings_read settings ≡ Some s) (n j : ℕ) (b : ListBreach (context_of s) list n j) where
  abbrev cx : Context
  cx = context_of s

  -- the checker on the bytes of a run
  run-checked : (k : ℕ) → k ≤ j → (check_call settings (run_bytes list k j) ≡ broken_at n (j - k)) ↔ FirstBreach cx (run (records_of s list) k j) n (j - k)
  unfolding context_of
  run-checked k h =
      let e = length-records s list in
      let w = b.breach.within in
      let r = run-breach cx list k j n h (omega arith) b.formed in
      let c = check-names n (j - k) settings (run_bytes list k j) in (
        λ x. let v = c.0 x in let q = v.accepted in let same : v.said ≡ s = cc in r.0 (rw same at v.holds),
        λ x. c.1 (record { said = s; accepted = a; holds = r.1 x }),
      )

  -- the start that is answered
  start-names : (i : ℕ) → ((shortest_call settings list).start ≡ i) ↔ ShortestRun cx (records_of s list) n j i
  unfolding shortest_call under_settings in_numbers shortest_answer context_of
  start-names i =
      let v : list_answer cx list ≡ Err (refusal.Rule n j) = (list-names cx n j list).1 b in
      let t = shortest-names cx list n j i in (
        λ e. (t.0 (rw (v) (ap (λ (x : ℕ). record { judged = Err (refusal.Rule n j); start = x }) (rw (a, v) at e)))).1,
        λ r. rw a (ap (λ (x : Shortest). x.start) (t.1 (b, r))),
      )

-- the numbers of the checker in an answer
abbrev checked : ShortestAnswer → CheckAnswer
checked x = record { number = x.number; rule = x.rule; place = x.place }

shortest : (settings list : List ℕ) (n j i : ℕ) → (shortest_call settings list ≡ with_start (broken_at n j) i) ↔ ShortestFor settings list n j i
shortest settings list n j i = (there, back)
  where
    there : shortest_call settings list ≡ with_start (broken_at n j) i → ShortestFor settings list n j i
    there e =
        let c : check_call settings list ≡ broken_at n j = ap checked (sym (verdict settings list) ∙ e) in
        let w = (check-names n j settings list).0 c in
        let r = (start-names settings list w.said w.accepted n j w.holds i).0 (ap (λ (x : ShortestAnswer). x.start) e) in
        let k = run-checked settings list w.said w.accepted n j w.holds in
        record { listed = c; within = r.within; still = (k i r.within).1 r.still; latest = λ m h l x. r.latest m h l ((k m l).0 x) }

    back : ShortestFor settings list n j i → shortest_call settings list ≡ with_start (broken_at n j) i
    back f =
        let w = (check-names n j settings list).0 f.listed in
        let k = run-checked settings list w.said w.accepted n j w.holds in
        let r = (start-names settings list w.said w.accepted n j w.holds i).1 (record { within = f.within; still = (k i f.within).0 f.still; latest = λ m h l x. f.latest m h l ((k m l).1 x) }) in
        verdict settings list ∙ ap₂ with_start f.listed r

-- a verdict that names no rule
no_start : (cx : Context) (l : List ℕ) (v : Result (Unit {0}) Refusal) → ((check_answer v).number ≡ 11 → ⊥) → start_of cx (records_of cx.settings l) v ≡ 0
unfolding start_of check_answer
no_start cx l (Ok tt) h = refl
no_start cx l (Err why) h = rw (ne_eqb (answer_of why).number 11 h)

no_run : (settings list : List ℕ) → ((check_call settings list).number ≡ 11 → ⊥) → (shortest_call settings list).start ≡ 0
unfolding shortest_call check_call under_settings in_numbers shortest_answer context_of
no_run settings list = go (settings_read settings) refl
  where
    go : (q : Option Settings) → settings_read settings ≡ q → ((check_call settings list).number ≡ 11 → ⊥) → (shortest_call settings list).start ≡ 0
    go None e h = rw e
    go (Some s) e h = rw e (no_start (context_of s) list (list_answer (context_of s) list) (rw e at h))

pub shortest-calls : ShortestCalls
shortest-calls = record { verdict = verdict; shortest = shortest; no_run = no_run }
