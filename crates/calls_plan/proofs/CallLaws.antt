-- A plan call under accepted settings: what it answers and leaves, by whether the planner's bytes are right and by what the request says.
-- Assumes nothing.
use Rattle.std.specs.Prelude.{Err, Ok, Result}
use Prim.Native.Nat.{ℕ, zero, suc, ◌+◌, ◌*◌, ◌/◌, ◌≤◌, ◌<◌}
use mathlib.Core.Path.{◌≡◌, refl, ap, ◌∙◌}
use mathlib.Core.Bool.{Bool, true, false, ◌&&◌}
use mathlib.Core.List.{List}
use lib.Dec.{leb}
use lib.ListN.{length}
use borrow.Author.Tests.{le-leb, lt-leb}
use native.Mathlib.Omega.{arith}
use Rattle.num.specs.Bytes.{number, part, splice}
use Rattle.num.proofs.SearchLaws.{all-intro}
use Rattle.num.proofs.SpliceLaws.{part-splice, length-splice}
use Rattle.settings.specs.declared.Settings.{Settings}
use Rattle.record.specs.declared.Request.{Request}
use Rattle.record.specs.declared.Refusal.{Refusal}
use Rattle.record.specs.declared.Refusal.TheVariants as refusal
use Rattle.record.specs.Request.{request_read}
use Rattle.spec_rules.specs.Neighbour.{context_of}
use Rattle.spec_plan.specs.PlannerBytes.{planner_bytes, planner_in, planner_right}
use Rattle.spec_plan.specs.Plan.{Draft, planned}
use Rattle.spec_plan.specs.Call.{list_bytes, timely, outcome_of, unretired, outcome_by, plan_outcome, is_made, draft_by, plan_next, plan_records, plan_room}
use Rattle.spec_plan.specs.Looked.{looked, looked_by}
use Rattle.spec_plan.proofs.Bound.{most-any}
use Rattle.plan_bytes.specs.Form.Numbers.{word, Tops, Below}
use Rattle.plan_bytes.specs.Form.Calm.{is_calm}
use Rattle.plan_bytes.proofs.calm.CalmLaws.{calm-below}
use Rattle.state_bytes.specs.Form.Stored.{latest}
use Rattle.state_bytes.specs.Form.Tested.{all_stored}
use Rattle.spec_calls.specs.declared.PlanAnswer.{PlanAnswer}
use Rattle.spec_calls.proofs.ListOf.{length-list}
use Rattle.spec_calls.proofs.OneCall.{right_valid}
use Rattle.spec_calls.specs.Plans.{plan_answer, PlanResult, plan_by, plan_under}
use Rattle.calls_plan.specs.Form.Served.{served_by, served}

-- what a call answers and leaves, by its result
abbrev pub Leaves : PlanResult → PlanAnswer → List ℕ → List ℕ → Type 0
Leaves x r after left = (r ≡ x.answer) × ((after ≡ x.planner) × (left ≡ x.room))

-- the instants of a calm state are in range
pub calm-stored : (b : List ℕ) → is_calm b ≡ true → all_stored b 0 160 && all_stored b 704 6 ≡ true
unfolding Below
calm-stored b h = rw (all-intro (test 0) 160 banks, all-intro (test 704) 6 lasts)
  where
    t : Tops 999990000 b
    t = calm-below b h

    test : ℕ → ℕ → Bool
    test at k = leb (number (part b (at + 4 * k) 4)) latest

    low : (n : ℕ) → n ≤ 999990000 → leb n latest ≡ true
    low n l = le-leb n latest (omega arith)

    banks : (k : ℕ) → k < 160 → test 0 k ≡ true
    banks k l = let e : 0 + 4 * k ≡ 4 * k = omega arith in rw e (low (word b (4 * k)) (t.banks k l))

    lasts : (k : ℕ) → k < 6 → test 704 k ≡ true
    lasts zero l = low (word b 704) t.packet
    lasts (suc zero) l = low (word b 708) t.row
    lasts (suc (suc zero)) l = low (word b 712) t.col
    lasts (suc (suc (suc zero))) l = low (word b 716) t.pre
    lasts (suc (suc (suc (suc zero)))) l = low (word b 720) t.rd
    lasts (suc (suc (suc (suc (suc zero))))) l = low (word b 724) t.implied
    lasts (suc (suc (suc (suc (suc (suc k)))))) l = absurd (omega arith)

module _ (s : Settings) (planner : List ℕ) where
  module _ (request room : List ℕ) where
    pub turned-back : planner_right (context_of s) planner ≡ false → (r : PlanAnswer) → r ≡ plan_answer 0 (Err refusal.Settings)
        → Leaves (plan_under planner request room s) r planner room
    unfolding plan_under
    turned-back h r e = rw h (e, (refl, refl))

    -- from a state that is not refused the result is by what the request says
    pub by-request : planner_right (context_of s) planner ≡ true → plan_under planner request room s ≡ served (context_of s) planner (request_read s request) room
    unfolding plan_under served plan_outcome plan_next plan_records plan_room context_of is_made
    by-request h = rw h (go (outcome_by (context_of s) (planner_in planner) (request_read s request) (length room)) refl)
      where
        go : (o : Result ℕ Refusal) → outcome_by (context_of s) (planner_in planner) (request_read s request) (length room) ≡ o
            → plan_by planner request room (context_of s) (planner_in planner) o
            ≡ served_by (context_of s) planner (looked_by (planner_in planner) (request_read s request)) (draft_by (context_of s) (planner_in planner) (request_read s request)) room o
        go (Err why) e = refl
        go (Ok n) e = rw e

    pub request-refused : planner_right (context_of s) planner ≡ true → (why : Refusal) → request_read s request ≡ Err why
        → (r : PlanAnswer) → r ≡ plan_answer 0 (Err why) → Leaves (plan_under planner request room s) r planner room
    unfolding served outcome_by
    request-refused h why e r a = rw (by-request h, e) (a, (refl, refl))

  -- a request on the lent bytes, with room for its records, and beside them; 15 first
  pub not-retired : (q : Request) (room : List ℕ) → unretired q (planner_in planner) ≡ true → (r : PlanAnswer) → r ≡ plan_answer 0 (Err refusal.Unretired)
      → Leaves (served (context_of s) planner (Ok q) room) r planner room
  unfolding served outcome_by
  not-retired q room u r a = rw u (a, (refl, refl))

  module _ (q : Request) (room : List ℕ) (h : planner_right (context_of s) planner ≡ true) (u : unretired q (planner_in planner) ≡ false) where
    pub late : timely (context_of s) (planner_in planner) (planned (context_of s) q (planner_in planner)) ≡ false → (r : PlanAnswer) → r ≡ plan_answer 0 (Err refusal.Horizon)
        → Leaves (served (context_of s) planner (Ok q) room) r planner room
    unfolding served outcome_by outcome_of
    late t r a = rw (u, t) (a, (refl, refl))

    pub in-time : 32 * length (planned (context_of s) q (planner_in planner)).records ≤ length room → timely (context_of s) (planner_in planner) (planned (context_of s) q (planner_in planner)) ≡ true → (n : ℕ)
        → n ≡ length (planned (context_of s) q (planner_in planner)).records → (banks : ℕ) → banks ≡ looked q (planner_in planner) → (r : PlanAnswer) → r ≡ plan_answer banks (Ok n) → (after left : List ℕ)
        → after ≡ planner_bytes (planned (context_of s) q (planner_in planner)).planner
        → left ≡ splice room 0 (list_bytes s (planned (context_of s) q (planner_in planner)).records)
        → Leaves (served (context_of s) planner (Ok q) room) r after left
    unfolding served outcome_by outcome_of draft_by context_of looked_by
    in-time l t n en banks eb r a after left ea el =
        let fits = le-leb (length (planned (context_of s) q (planner_in planner)).records) (length room / 32) (omega arith) in
        rw (u, t, fits) (rw (en, eb) at a, (ea, el))

    -- no request makes more than 32 records
    pub enough : (list : List ℕ) → 1024 ≤ length list → 32 * length (planned (context_of s) q (planner_in planner)).records ≤ length list
    enough list l = omega (arith, most-any s (planner_in planner) (right_valid (context_of s) planner h) q u)

    pub full : timely (context_of s) (planner_in planner) (planned (context_of s) q (planner_in planner)) ≡ true → length room / 32 < length (planned (context_of s) q (planner_in planner)).records
        → (r : PlanAnswer) → r ≡ plan_answer 0 (Err refusal.Full) → Leaves (served (context_of s) planner (Ok q) room) r planner room
    unfolding served outcome_by outcome_of
    full t l r a = rw (u, t, lt-leb (length (planned (context_of s) q (planner_in planner)).records) (length room / 32) l) (a, (refl, refl))

    -- a list of the call's own, from which the records that a request made are copied
    module _ (list made : List ℕ) (n : ℕ) (el : made ≡ splice list 0 (list_bytes s (planned (context_of s) q (planner_in planner)).records))
        (en : n ≡ length (planned (context_of s) q (planner_in planner)).records) (m : 1024 ≤ length list) where
      abbrev d : Draft
      d = planned (context_of s) q (planner_in planner)

      bytes-are : length (list_bytes s d.records) ≡ 32 * n
      bytes-are = length-list s d.records ∙ rw en

      -- the list has as many records
      pub made-room : 32 * n ≤ length made
      made-room = let l = enough list m in let k = bytes-are in omega (arith, en, ap length el, length-splice list 0 (list_bytes s d.records) (omega (arith, en)))

      pub tried-full : timely (context_of s) (planner_in planner) d ≡ true → length room / 32 < n → (r : PlanAnswer) → r ≡ plan_answer 0 (Err refusal.Full)
          → Leaves (served (context_of s) planner (Ok q) room) r planner room
      tried-full t l = full t (rw en at l)

      pub tried-made : timely (context_of s) (planner_in planner) d ≡ true → n ≤ length room / 32 → (banks : ℕ) → banks ≡ looked q (planner_in planner) → (r : PlanAnswer) → r ≡ plan_answer banks (Ok n) → (after left : List ℕ)
          → after ≡ planner_bytes d.planner → left ≡ splice room 0 (part made 0 (32 * n)) → Leaves (served (context_of s) planner (Ok q) room) r after left
      tried-made t l banks eb r a after left ea el2 =
          let whole : part made 0 (32 * n) ≡ list_bytes s d.records = ap (λ (v : List ℕ). part v 0 (32 * n)) el ∙ part-splice list 0 (list_bytes s d.records) (32 * n) bytes-are (omega arith) in
          in-time (omega (arith, en)) t n en banks eb r a after left ea (el2 ∙ ap (splice room 0) whole)
