-- Many requests in one call, from the planner of request i on: what they leave is that of the requests in turn, each with room for
-- the records of any request, and the lines of their records are their texts.
-- Assumes nothing.
use Rattle.std.specs.Prelude.{Err, Ok, Result}
use Prim.Native.Nat.{ℕ, zero, suc, ◌+◌, ◌*◌, ◌≤◌}
use mathlib.Core.Path.{◌≡◌, refl, sym, ap, ap₂, ◌∙◌, subst}
use mathlib.Core.Bool.{Bool, true, false}
use mathlib.Core.List.{List, [], ◌∷◌, ◌++◌, append_assoc, append-nil}
use lib.Dec.{eqb}
use lib.ListN.{length, take, drop, length-append, length-drop}
use lib.Seq.{drop_at, drop-drop, take_at, take-length}
use borrow.Author.Tests.{eqb-true, eqb-false}
use native.Mathlib.Nat.{add-zero}
use native.Mathlib.Omega.{arith}
use Rattle.num.specs.Bytes.{Bytes, splice}
use Rattle.num.proofs.PartLaws.{part_left, Bytes-drop, Bytes-part}
use Rattle.settings.specs.declared.Settings.{Settings}
use Rattle.settings.specs.Settings.{lows, highs, valid}
use Rattle.settings.specs.Bench.{set_of, set_h}
use Rattle.num.specs.Search.{all_up_to}
use Rattle.record.specs.declared.Record.{Record}
use Rattle.spec_rules.specs.Neighbour.{Context, context_of}
use Rattle.spec_rules.proofs.NeighbourLaws.{core-neighbours}
use Rattle.spec_plan.specs.declared.PlannerState.{PlannerState}
use Rattle.spec_plan.specs.Planner.{fresh_planner, planner_valid}
use Rattle.spec_plan.specs.PlannerBytes.{planner_bytes}
use Rattle.spec_plan.specs.Call.{list_bytes, plan_outcome, is_made, accepted, plan_next, plan_records}
use Rattle.spec_plan.specs.Runs.{Call, OfBytes, planner_after, listed}
use Rattle.spec_plan.proofs.Valid.{fresh-valid, run-valid}
use Rattle.spec_runs.specs.Flat.{Fed}
use Rattle.spec_runs.specs.WholeRun.{fed}
use Rattle.spec_runs.proofs.DriveLaws.{Every, Coded}
use Rattle.spec_runs.proofs.Demand.{run-coded}
use Rattle.spec_check.specs.Check.{records_up_to}
use Rattle.spec_calls.specs.PlanAll.{PlanAllResult, request_at}
use Rattle.spec_calls.specs.Runs.{requests_fed}
use Rattle.spec_calls.proofs.ListOf.{length-list, records-up-to}
use Rattle.spec_calls.proofs.PlanAllLaws.{planner-append, listed-append, fed-append, bytes-append, size_is, left_by, turn, turns, turns-bytes, Reached, reached}
use Rattle.listing_text.specs.Text.{most_records, write_bank_after, write_column_after, record_lines}
use Rattle.listing_text.proofs.LineLaws.{bank-append, column-append, lines-append}
use Rattle.listing.specs.Entries.{room_bytes, outcome_text, request_text, request_in, calls_up_to, planner_for, records_listed, text_up_to, most_requests, longest_input}
use Rattle.listing.proofs.entries.EnoughLaws.{call-enough, next-enough, records-enough, listed-most}
use Rattle.record.specs.declared.Refusal.{Refusal}

abbrev cx : Context
cx = context_of set_h

pub set_h-valid : valid set_h ≡ true
unfolding set_of set_h valid lows highs all_up_to
set_h-valid = refl

-- ---- the requests in turn

module _ (input : List ℕ) where
  pub calls-bytes : Bytes input → (n : ℕ) → OfBytes (calls_up_to input n)
  unfolding calls_up_to OfBytes
  calls-bytes b zero = tt
  calls-bytes b (suc n) = bytes-append (calls_up_to input n) (record { request = request_in input n; room = room_bytes } ∷ []) (calls-bytes b n) (Bytes-part input (24 * n) 24 b, tt)

  calls-length : (n : ℕ) → length (calls_up_to input n) ≡ n
  unfolding calls_up_to
  calls-length zero = refl
  calls-length (suc n) = length-append (calls_up_to input n) (record { request = request_in input n; room = room_bytes } ∷ []) ∙ omega (arith, calls-length n)

  pub planner-valid : Bytes input → (n : ℕ) → planner_valid cx (planner_for input n) ≡ true
  planner-valid b n = run-valid cx (core-neighbours set_h) (calls_up_to input n) (calls-bytes b n)

  -- at most 16 records for each
  pub records-most : Bytes input → (n : ℕ) → length (records_listed input n) ≤ most_records * n
  records-most b n = omega (arith, calls-length n, listed-most (calls_up_to input n) (calls-bytes b n) fresh_planner (fresh-valid cx))

  -- one request more
  pub planner-more : (n : ℕ) → planner_for input (suc n) ≡ plan_next cx (planner_for input n) (request_in input n) room_bytes
  unfolding calls_up_to planner_after
  planner-more n = planner-append cx fresh_planner (calls_up_to input n) (record { request = request_in input n; room = room_bytes } ∷ [])

  pub records-more : (n : ℕ) → records_listed input (suc n) ≡ records_listed input n ++ plan_records cx (planner_for input n) (request_in input n) room_bytes
  unfolding calls_up_to listed
  records-more n =
      listed-append cx fresh_planner (calls_up_to input n) (record { request = request_in input n; room = room_bytes } ∷ [])
      ∙ ap (λ (l : List Record). records_listed input n ++ l) (append-nil _)

-- ---- records that are read back

module _ (s : Settings) where
  up-to-left : (a rest : List ℕ) (n : ℕ) → 32 * n ≤ length a → records_up_to s (a ++ rest) n ≡ records_up_to s a n
  unfolding records_up_to
  up-to-left a rest zero h = refl
  up-to-left a rest (suc n) h = rw (up-to-left a rest n (omega arith), part_left a rest (32 * n) 32 (omega arith))

  read_back : (l : List Record) → Every (Coded (context_of s)) l → (room : List ℕ) → records_up_to s (splice room 0 (list_bytes s l)) (length l) ≡ l
  read_back l c room =
      up-to-left (list_bytes s l) (drop (0 + length (list_bytes s l)) room) (length l) (omega (arith, length-list s l))
      ∙ records-up-to s l c (length l) (omega arith) ∙ take-length l

every-right : (P : Record → Type 0) (a b : List Record) → Every P (a ++ b) → Every P b
every-right P [] b h = h
every-right P (r ∷ a) b h = every-right P a b h.1

-- ---- what a list of calls feeds, one by one

fed-length : (p : PlannerState) (l : List Call) → length (fed cx p l) ≡ length l
unfolding fed
fed-length p [] = refl
fed-length p (c ∷ l) = ap suc (fed-length (plan_next cx p c.request c.room) l)

turned-length : (requests : List ℕ) (n : ℕ) → length (requests_fed requests n) ≡ n
unfolding requests_fed
turned-length requests zero = refl
turned-length requests (suc n) = length-append (requests_fed requests n) (record { request = request_at requests n; accepted = true } ∷ []) ∙ omega (arith, turned-length requests n)

first_taken : List Fed → Bool
first_taken [] = false
first_taken (f ∷ l) = f.accepted

-- the last of two lists of one length
last-same : (a b : List Fed) (x y : Fed) (n : ℕ) → length a ≡ n → length b ≡ n → a ++ (x ∷ []) ≡ b ++ (y ∷ []) → (a ≡ b) × (x.accepted ≡ y.accepted)
unfolding first_taken
last-same a b x y n ea eb e = (
  sym (take_at a (x ∷ []) n ea) ∙ ap (take n) e ∙ take_at b (y ∷ []) n eb,
  ap first_taken (sym (drop_at a (x ∷ []) n ea) ∙ ap (drop n) e ∙ drop_at b (y ∷ []) n eb),
)

-- the text of an accepted call
made-text : (before : List Record) (o : Result ℕ Refusal) (l : List Record) → is_made o ≡ true → outcome_text before o l ≡ record_lines (write_bank_after 0 before) (write_column_after 0 before) l
unfolding outcome_text is_made
made-text before (Err why) l e = absurd (omega (arith, ap (λ (t : Bool). length (records t)) e))
  where
    records : Bool → List ℕ
    records true = 0 ∷ []
    records false = []
made-text before (Ok n) l e = refl

-- ---- many requests from one on

module _ (input : List ℕ) (b : Bytes input) (short : length input ≤ longest_input) (i : ℕ) (room : List ℕ) (large : room_bytes * most_requests ≤ length room) where
  abbrev p : PlannerState
  p = planner_for input i

  abbrev requests : List ℕ
  requests = drop (24 * i) input

  abbrev x : ℕ → PlanAllResult
  x n = left_by set_h (planner_bytes p) requests room n

  abbrev before : ℕ → List Call
  before n = turns set_h (planner_bytes p) requests room n

  abbrev calls : ℕ → List Record
  calls n = listed cx p (before n)

  abbrev v : planner_valid cx p ≡ true
  v = planner-valid input b i

  abbrev rb : Bytes requests
  rb = Bytes-drop input (24 * i) b

  pub at : (n : ℕ) → 24 * n ≤ length requests → Reached set_h set_h-valid p v requests rb room n (x n)
  at n w = reached set_h set_h-valid p v requests rb room n w

  pub request-is : (n : ℕ) → request_at requests n ≡ request_in input (i + n)
  request-is n = let e : 24 * i + 24 * n ≡ 24 * (i + n) = omega arith in ap (take 24) (drop-drop (24 * n) (24 * i) input ∙ ap (λ (k : ℕ). drop k input) e)

  turns-length : (n : ℕ) → length (before n) ≡ n
  unfolding turns
  turns-length zero = refl
  turns-length (suc n) = length-append (before n) (turn set_h (planner_bytes p) requests room n ∷ []) ∙ omega (arith, turns-length n)

  pub turns-most : (n : ℕ) → length (calls n) ≤ most_records * n
  turns-most n = omega (arith, turns-length n, listed-most (before n) (turns-bytes set_h (planner_bytes p) requests room rb n) p v)

  -- no more requests were planned than were tried
  pub place-within : (n : ℕ) (w : 24 * n ≤ length requests) → (x n).answer.place ≤ n
  place-within n w = go (eqb (x n).answer.number 0) refl
    where
      go : (t : Bool) → eqb (x n).answer.number 0 ≡ t → (x n).answer.place ≤ n
      go true e = omega (arith, (at n w).all-planned (eqb-true _ 0 e))
      go false e = omega (arith, (at n w).below (eqb-false _ 0 e))

  -- 8 never stops it: what the requests before it left is room for the records of any request
  abbrev left : ℕ → ℕ
  left n = length (drop (32 * (x n).answer.records) (x n).room)

  pub left-enough : (n : ℕ) → 24 * n + 24 ≤ length requests → room_bytes ≤ left n
  left-enough n w =
      let k = (at n (omega arith)).stands in
      let place = place-within n (omega arith) in
      omega (
        arith,
        length-drop (32 * (x n).answer.records) (x n).room,
        size_is set_h set_h-valid p room (x n) _ k,
        k.records-are,
        turns-most (x n).answer.place,
        place,
        length-drop (24 * i) input,
        short,
        large,
      )

  pub planner-turns : (n : ℕ) → 24 * n ≤ length requests → planner_after cx p (before n) ≡ planner_for input (i + n)
  unfolding turns planner_after
  planner-turns zero w = rw add-zero
  planner-turns (suc n) w =
      let e : i + suc n ≡ suc (i + n) = omega arith in
      planner-append cx p (before n) (turn set_h (planner_bytes p) requests room n ∷ [])
      ∙ ap₂ (λ (q : PlannerState) (r : List ℕ). plan_next cx q r (left n)) (planner-turns n (omega arith)) (request-is n)
      ∙ next-enough (planner_for input (i + n)) (planner-valid input b (i + n)) (request_in input (i + n)) (left n) (left-enough n (omega arith))
      ∙ sym (planner-more input (i + n)) ∙ ap (planner_for input) (sym e)

  -- the records of one more
  abbrev new : ℕ → List Record
  new n = plan_records cx (planner_for input (i + n)) (request_in input (i + n)) room_bytes

  calls-more : (n : ℕ) → 24 * n + 24 ≤ length requests → calls (suc n) ≡ calls n ++ new n
  unfolding turns listed
  calls-more n w =
      listed-append cx p (before n) (turn set_h (planner_bytes p) requests room n ∷ [])
      ∙ ap (λ (l : List Record). calls n ++ l) (append-nil _
      ∙ ap₂ (λ (q : PlannerState) (r : List ℕ). plan_records cx q r (left n)) (planner-turns n (omega arith)) (request-is n)
      ∙ records-enough (planner_for input (i + n)) (planner-valid input b (i + n)) (request_in input (i + n)) (left n) (left-enough n w))

  pub records-turns : (n : ℕ) → 24 * n ≤ length requests → records_listed input (i + n) ≡ records_listed input i ++ calls n
  unfolding turns listed
  records-turns zero w = rw (add-zero, append-nil)
  records-turns (suc n) w =
      let e : i + suc n ≡ suc (i + n) = omega arith in
      ap (records_listed input) e ∙ records-more input (i + n) ∙ ap (λ (l : List Record). l ++ new n) (records-turns n (omega arith))
      ∙ append_assoc (records_listed input i) (calls n) (new n) ∙ ap (λ (l : List Record). records_listed input i ++ l) (sym (calls-more n (omega arith)))

  -- their records are read back from the room
  pub turns-back : (n : ℕ) → records_up_to set_h (splice room 0 (list_bytes set_h (calls n))) (length (calls n)) ≡ calls n
  unfolding context_of
  turns-back n =
      let all = bytes-append (calls_up_to input i) (before n) (calls-bytes input b i) (turns-bytes set_h (planner_bytes p) requests room rb n) in
      let coded = run-coded cx set_h-valid (core-neighbours set_h) (calls_up_to input i ++ before n) all in
      read_back set_h (calls n) (every-right (Coded cx) (records_listed input i) (calls n) (subst (Every (Coded cx)) (listed-append cx fresh_planner (calls_up_to input i) (before n)) coded)) room

  abbrev bank : ℕ
  bank = write_bank_after 0 (records_listed input i)

  abbrev column : ℕ
  column = write_column_after 0 (records_listed input i)

  text-more : (n : ℕ) → 24 * n + 24 ≤ length requests → accepted cx (planner_after cx p (before n)) (request_at requests n) (left n) ≡ true
      → text_up_to input (suc (i + n)) ≡ text_up_to input (i + n) ++ record_lines (write_bank_after bank (calls n)) (write_column_after column (calls n)) (new n)
  unfolding text_up_to request_text
  text-more n w t =
      let same : plan_outcome cx (planner_after cx p (before n)) (request_at requests n) (left n) ≡ plan_outcome cx (planner_for input (i + n)) (request_in input (i + n)) room_bytes =
      ap₂ (λ (q : PlannerState) (r : List ℕ). plan_outcome cx q r (left n)) (planner-turns n (omega arith)) (request-is n)
      ∙ call-enough (planner_for input (i + n)) (planner-valid input b (i + n)) (request_in input (i + n)) (left n) (left-enough n w) in
      let made : is_made (plan_outcome cx (planner_for input (i + n)) (request_in input (i + n)) room_bytes) ≡ true = ap is_made (sym same) ∙ t in
      let all = records-turns n (omega arith) in
      ap (λ (l : List ℕ). text_up_to input (i + n) ++ l)
      (made-text (records_listed input (i + n)) (plan_outcome cx (planner_for input (i + n)) (request_in input (i + n)) room_bytes) (new n) made
      ∙ ap₂ (λ (k m : ℕ). record_lines k m (new n))
      (ap (write_bank_after 0) all ∙ bank-append 0 (records_listed input i) (calls n)) (ap (write_column_after 0) all ∙ column-append 0 (records_listed input i) (calls n)))

  -- the texts of requests that were all accepted
  pub text-turns : (n : ℕ) → 24 * n ≤ length requests → fed cx p (before n) ≡ requests_fed requests n
      → text_up_to input (i + n) ≡ text_up_to input i ++ record_lines bank column (calls n)
  unfolding turns listed record_lines fed requests_fed
  text-turns zero w e = rw (add-zero, append-nil)
  text-turns (suc n) w e =
      let q : i + suc n ≡ suc (i + n) = omega arith in
      let both = last-same (fed cx p (before n)) (requests_fed requests n) _ _ n (fed-length p (before n) ∙ turns-length n) (turned-length requests n)
      (sym (fed-append cx p (before n) (turn set_h (planner_bytes p) requests room n ∷ [])) ∙ e) in
      ap (text_up_to input) q ∙ text-more n (omega arith) both.1
      ∙ ap (λ (l : List ℕ). l ++ record_lines (write_bank_after bank (calls n)) (write_column_after column (calls n)) (new n)) (text-turns n (omega arith) both.0)
      ∙ append_assoc (text_up_to input i) _ _
      ∙ ap (λ (l : List ℕ). text_up_to input i ++ l) (sym (ap (record_lines bank column) (calls-more n (omega arith)) ∙ lines-append bank column (calls n) (new n)))
