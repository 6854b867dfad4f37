-- One plan call on the bytes of a planner that is not refused is the plan call on its state: the answer in numbers, the planner's
-- bytes, and the room with the records at its start.
-- Assumes nothing.
use Rattle.std.specs.Prelude.{Err, Ok, Result, Some}
use Prim.Native.Nat.{ℕ, ◌*◌, ◌/◌, ◌≤◌}
use mathlib.Core.Path.{◌≡◌, refl, sym, ap, ◌∙◌}
use mathlib.Core.Bool.{Bool, true, false, cond, ◌&&◌}
use mathlib.Core.List.{List, []}
use mathlib.Core.Logic.{◌≢◌}
use lib.Dec.{eqb, leb}
use lib.ListN.{length, take}
use borrow.Author.Tests.{eqb-true, eqb-false, eq-eqb, ne_eqb, leb-true}
use native.Mathlib.Omega.{arith}
use Rattle.num.proofs.SpliceLaws.{part-splice}
use Rattle.settings.specs.declared.Settings.{Settings}
use Rattle.settings.specs.Settings.{settings_read, valid}
use Rattle.record.specs.declared.Record.{Record}
use Rattle.record.specs.declared.Place.{Place}
use Rattle.record.specs.declared.Request.{Request}
use Rattle.record.specs.declared.Refusal.{Refusal}
use Rattle.record.specs.declared.Refusal.TheVariants as refusal
use Rattle.record.specs.Refusal.{answer_of}
use Rattle.record.specs.Request.{placed, request_of, request_read}
use Rattle.record.proofs.RefusalLaws.{refused-number}
use Rattle.spec_rules.specs.Neighbour.{Context, context_of}
use Rattle.spec_rules.proofs.Bools.{not-both, and_left, and_right}
use Rattle.spec_state.specs.ChannelBytes.{zero_part, channel_spare}
use Rattle.spec_plan.specs.declared.PlannerState.{PlannerState}
use Rattle.spec_plan.specs.Planner.{planner_valid}
use Rattle.spec_plan.specs.PlannerBytes.{planner_length, planner_bytes, planner_in, planner_right}
use Rattle.spec_plan.specs.Plan.{Draft, planned}
use Rattle.spec_plan.specs.Looked.{looked_by}
use Rattle.spec_plan.specs.Call.{list_bytes, timely, outcome_of, unretired, outcome_by, plan_outcome, is_made, accepted, draft_by, plan_next, plan_records, plan_room}
use Rattle.spec_plan.proofs.Refused.{refused-state, refused-room}
use Rattle.spec_plan.proofs.PlannerRoundTrip.{planner-decode-encode, planner-right}
use Rattle.spec_calls.specs.declared.PlanAnswer.{PlanAnswer}
use Rattle.spec_calls.specs.Settings.{under_settings}
use Rattle.spec_calls.specs.Plans.{plan_answer, PlanResult, plan_by, plan_under, plan_call}
use Rattle.spec_calls.proofs.ListOf.{length-list}

-- ---- the answer in numbers

-- no refusal has number 0
pub refusal-number : (r : Refusal) → eqb (answer_of r).number 0 ≡ false
refusal-number r = ne_eqb _ 0 (refused-number r)

pub answer-accepted : (banks : ℕ) (o : Result ℕ Refusal) → eqb (plan_answer banks o).number 0 ≡ is_made o
unfolding plan_answer is_made
answer-accepted banks (Err r) = refusal-number r
answer-accepted banks (Ok n) = refl

-- the number of records is that of the draft of an accepted call
of-records : (banks : ℕ) (cx : Context) (p : PlannerState) (d : Draft) (room : ℕ) → (plan_answer banks (outcome_of cx p d room)).records ≡ length (cond (is_made (outcome_of cx p d room)) d.records [])
unfolding outcome_of plan_answer is_made
of-records banks cx p d room = go (timely cx p d) (leb (length d.records) (room / 32))
  where
    go : (p q : Bool)
        → (plan_answer banks (cond p (cond q (Ok (length d.records)) (Err refusal.Full)) (Err refusal.Horizon))).records
        ≡ length (cond (is_made (cond p (cond q (Ok (length d.records)) (Err refusal.Full)) (Err refusal.Horizon))) d.records [])
    go true true = refl
    go true false = refl
    go false q = refl

by-records : (banks : ℕ) (cx : Context) (p : PlannerState) (q : Result Request Refusal) (room : ℕ)
    → (plan_answer banks (outcome_by cx p q room)).records ≡ length (cond (is_made (outcome_by cx p q room)) (draft_by cx p q).records [])
unfolding outcome_by draft_by plan_answer is_made
by-records banks cx p (Err why) room = refl
by-records banks cx p (Ok q) room = go (unretired q p)
  where
    go : (u : Bool)
        → (plan_answer banks (cond u (Err refusal.Unretired) (outcome_of cx p (planned cx q p) room))).records
        ≡ length (cond (is_made (cond u (Err refusal.Unretired) (outcome_of cx p (planned cx q p) room))) (planned cx q p).records [])
    go true = refl
    go false = of-records banks cx p (planned cx q p) room

answer-records : (banks : ℕ) (cx : Context) (p : PlannerState) (bytes : List ℕ) (room : ℕ) → (plan_answer banks (plan_outcome cx p bytes room)).records ≡ length (plan_records cx p bytes room)
unfolding plan_outcome plan_records
answer-records banks cx p bytes room = by-records banks cx p (request_read cx.settings bytes) room

-- ---- the records of a call have room

of-fits : (cx : Context) (p : PlannerState) (d : Draft) (room : ℕ) → 32 * length (cond (is_made (outcome_of cx p d room)) d.records []) ≤ room
unfolding outcome_of is_made
of-fits cx p d room = go (timely cx p d) (leb (length d.records) (room / 32)) refl
  where
    go : (p q : Bool) → leb (length d.records) (room / 32) ≡ q
        → 32 * length (cond (is_made (cond p (cond q (Ok (length d.records)) (Err refusal.Full)) (Err refusal.Horizon))) d.records []) ≤ room
    go true true e = omega (arith, leb-true (length d.records) (room / 32) e)
    go true false e = omega arith
    go false q e = omega arith

by_fits : (cx : Context) (p : PlannerState) (q : Result Request Refusal) (room : ℕ) → 32 * length (cond (is_made (outcome_by cx p q room)) (draft_by cx p q).records []) ≤ room
unfolding outcome_by draft_by is_made
by_fits cx p (Err why) room = omega arith
by_fits cx p (Ok q) room = go (unretired q p)
  where
    go : (u : Bool) → 32 * length (cond (is_made (cond u (Err refusal.Unretired) (outcome_of cx p (planned cx q p) room))) (planned cx q p).records []) ≤ room
    go true = omega arith
    go false = of-fits cx p (planned cx q p) room

pub records-fit : (cx : Context) (p : PlannerState) (bytes : List ℕ) (room : ℕ) → 32 * length (plan_records cx p bytes room) ≤ room
unfolding plan_outcome plan_records
records-fit cx p bytes room = by_fits cx p (request_read cx.settings bytes) room

-- ---- a request of 24 bytes is never refused under 1 or 13

-- neither settings nor length
abbrev pub Own : ℕ → Type 0
Own n = (n ≢ 1) × (n ≢ 13)

unfoldable OwnRequest : Result Request Refusal → Type 0
OwnRequest (Err why) = Own (answer_of why).number
OwnRequest (Ok q) = Unit {0}

own-cond : (t : Bool) (x y : Result Request Refusal) → OwnRequest x → OwnRequest y → OwnRequest (cond t x y)
own-cond true x y a b = a
own-cond false x y a b = b

own-passed : (t : Bool) (x y : Result Request Refusal) → t ≡ true → OwnRequest x → OwnRequest (cond t x y)
own-passed true x y e a = a
own-passed false x y e a = not-both false e refl

own-accepted : (q : Request) → OwnRequest (Ok q)
unfolding OwnRequest
own-accepted q = tt

own-refused : (why : Refusal) → eqb (answer_of why).number 1 ≡ false → eqb (answer_of why).number 13 ≡ false → OwnRequest (Err why)
unfolding OwnRequest
own-refused why a b = (eqb-false (answer_of why).number 1 a, eqb-false (answer_of why).number 13 b)

own-placed : (s : Settings) (at : Place) (q : Request) → OwnRequest (placed s at q)
unfolding placed answer_of
own-placed s at q = search (own-cond, own-accepted, own-refused)

-- whatever the kind
own-said : (s : Settings) (b : List ℕ) → OwnRequest (request_of s b)
unfolding request_of
own-said s b = search (own-cond, own-accepted, own-placed) depth 12

own-request : (s : Settings) (b : List ℕ) → length b ≡ 24 → OwnRequest (request_read s b)
unfolding request_read answer_of
own-request s b e = own-passed (eqb (length b) 24) _ _ (eq-eqb (length b) 24 e) (search (own-cond, own-said, own-refused))

own-outcome : (cx : Context) (p : PlannerState) (q : Result Request Refusal) (room banks : ℕ) → OwnRequest q → Own (plan_answer banks (outcome_by cx p q room)).number
unfolding OwnRequest outcome_by outcome_of plan_answer answer_of
own-outcome cx p (Err why) room banks o = o
own-outcome cx p (Ok q) room banks o = go (unretired q p) (timely cx p (planned cx q p)) (leb (length (planned cx q p).records) (room / 32))
  where
    go : (u t f : Bool)
        → Own (plan_answer banks (cond u (Err refusal.Unretired) (cond t (cond f (Ok (length (planned cx q p).records)) (Err refusal.Full)) (Err refusal.Horizon)))).number
    go true t f = (λ e. omega arith, λ e. omega arith)
    go false true true = (λ e. omega arith, λ e. omega arith)
    go false true false = (λ e. omega arith, λ e. omega arith)
    go false false f = (λ e. omega arith, λ e. omega arith)

-- ---- bytes of a planner that are not refused

module _ (cx : Context) (planner : List ℕ) (h : planner_right cx planner ≡ true) where
  pub right-length : length planner ≡ 768
  unfolding planner_right planner_length
  right-length = eqb-true (length planner) 768 (and_left (eqb (length planner) 768) _ h)

  pub right_valid : planner_valid cx (planner_in planner) ≡ true
  unfolding planner_right
  right_valid = and_right (channel_spare planner && (zero_part planner 758 2 && zero_part planner 764 4)) _ (and_right (eqb (length planner) planner_length) _ h)

-- ---- one call

-- an outcome's result, field by field
result-answer : (planner bytes room : List ℕ) (cx : Context) (p : PlannerState) (o : Result ℕ Refusal) → (plan_by planner bytes room cx p o).answer ≡ plan_answer (looked_by p (request_read cx.settings bytes)) o
unfolding plan_answer
result-answer planner bytes room cx p (Err why) = refl
result-answer planner bytes room cx p (Ok n) = refl

-- a call by the bytes of planner, request and room, under settings that are accepted
abbrev pub under : Settings → List ℕ → List ℕ → List ℕ → PlanResult
under s planner bytes room = plan_under planner bytes room s

pub call-under : (settings : List ℕ) (s : Settings) → settings_read settings ≡ Some s → plan_call settings ≡ under s
unfolding plan_call under_settings
call-under settings s a = λ i planner bytes room. one planner bytes room i
  where
    one : (planner bytes room : List ℕ) → plan_call settings planner bytes room ≡ under s planner bytes room
    one planner bytes room = rw a

module _ (s : Settings) (v : valid s ≡ true) (p : PlannerState) (k : planner_valid (context_of s) p ≡ true) (bytes room : List ℕ) where
  abbrev result : PlanResult
  result = plan_under (planner_bytes p) bytes room s

  -- how many banks the walk of the request looks at
  abbrev looks : ℕ
  looks = looked_by p (request_read (context_of s).settings bytes)

  result-is : result ≡ plan_by (planner_bytes p) bytes room (context_of s) p (plan_outcome (context_of s) p bytes (length room))
  unfolding plan_under context_of
  result-is = rw (planner-right (context_of s) v p k, planner-decode-encode (context_of s) v p k)

  pub under-answer : result.answer ≡ plan_answer looks (plan_outcome (context_of s) p bytes (length room))
  under-answer = ap (λ (x : PlanResult). x.answer) result-is ∙ result-answer (planner_bytes p) bytes room (context_of s) p (plan_outcome (context_of s) p bytes (length room))

  pub under-accepted : eqb result.answer.number 0 ≡ accepted (context_of s) p bytes (length room)
  under-accepted = ap (λ (x : PlanAnswer). eqb x.number 0) under-answer ∙ answer-accepted looks (plan_outcome (context_of s) p bytes (length room))

  pub under-own : length bytes ≡ 24 → Own result.answer.number
  unfolding plan_outcome context_of
  under-own e = rw under-answer (own-outcome (context_of s) p (request_read s bytes) (length room) looks (own-request s bytes e))

  pub under-records : result.answer.records ≡ length (plan_records (context_of s) p bytes (length room))
  under-records = ap (λ (x : PlanAnswer). x.records) under-answer ∙ answer-records looks (context_of s) p bytes (length room)

  pub under-planner : result.planner ≡ planner_bytes (plan_next (context_of s) p bytes (length room))
  unfolding is_made
  under-planner = ap (λ (x : PlanResult). x.planner) result-is ∙ go (plan_outcome (context_of s) p bytes (length room)) refl
    where
      go : (o : Result ℕ Refusal) → plan_outcome (context_of s) p bytes (length room) ≡ o
          → (plan_by (planner_bytes p) bytes room (context_of s) p o).planner ≡ planner_bytes (plan_next (context_of s) p bytes (length room))
      go (Err why) e = sym (ap planner_bytes (refused-state (context_of s) p bytes (length room) (ap is_made e)))
      go (Ok n) e = refl

  pub under-room : result.room ≡ plan_room (context_of s) p bytes room
  unfolding is_made
  under-room = ap (λ (x : PlanResult). x.room) result-is ∙ go (plan_outcome (context_of s) p bytes (length room)) refl
    where
      go : (o : Result ℕ Refusal) → plan_outcome (context_of s) p bytes (length room) ≡ o
          → (plan_by (planner_bytes p) bytes room (context_of s) p o).room ≡ plan_room (context_of s) p bytes room
      go (Err why) e = sym (refused-room (context_of s) p bytes room (ap is_made e))
      go (Ok n) e = refl

  -- the records that the caller adds to its list
  pub under-list : take (32 * result.answer.records) result.room ≡ list_bytes s (plan_records (context_of s) p bytes (length room))
  unfolding plan_room context_of
  under-list =
      let l : List Record = plan_records (context_of s) p bytes (length room) in
      rw (under-records, under-room) (part-splice room 0 (list_bytes s l) (32 * length l) (length-list s l) (omega arith))
