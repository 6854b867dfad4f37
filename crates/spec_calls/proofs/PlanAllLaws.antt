-- The single calls of rdram_plan_all, made in turn: after each of them planner and room are what the plan calls on states leave that
-- were accepted so far. A stop is under no number of a refused call.
-- Assumes nothing.
use Prim.Native.Nat.{ℕ, zero, suc, ◌+◌, ◌-◌, ◌*◌, ◌≤◌, ◌<◌}
use mathlib.Core.Path.{◌≡◌, refl, sym, ap, ap₂, ◌∙◌, subst}
use mathlib.Core.Bool.{Bool, true, false, cond}
use mathlib.Core.List.{List, [], ◌∷◌, ◌++◌, append_assoc, append-nil}
use mathlib.Core.Logic.{◌≢◌}
use lib.Dec.{eqb}
use lib.ListN.{length, take, drop, length-append, length-drop}
use lib.Seq.{drop_at, drop-drop}
use borrow.Author.Tests.{eqb-true, eqb-false, eq-eqb}
use native.Mathlib.Omega.{arith}
use Rattle.num.specs.Bytes.{Bytes, splice}
use Rattle.num.proofs.PartLaws.{length_part, Bytes-part}
use Rattle.num.proofs.SpliceLaws.{part-splice, splice-none, length-splice}
use Rattle.settings.specs.declared.Settings.{Settings}
use Rattle.settings.specs.Settings.{valid}
use Rattle.record.specs.declared.Record.{Record}
use Rattle.spec_rules.specs.Neighbour.{Context, context_of}
use Rattle.spec_rules.proofs.Bools.{not-both}
use Rattle.spec_rules.proofs.NeighbourLaws.{core-neighbours}
use Rattle.spec_plan.specs.declared.PlannerState.{PlannerState}
use Rattle.spec_plan.specs.Planner.{planner_valid}
use Rattle.spec_plan.specs.PlannerBytes.{planner_bytes, planner_right}
use Rattle.spec_plan.specs.Call.{list_bytes, accepted, plan_next, plan_records, plan_room}
use Rattle.spec_plan.specs.Runs.{Call, OfBytes, planner_after, listed}
use Rattle.spec_plan.proofs.Valid.{next-valid}
use Rattle.spec_plan.proofs.PlannerRoundTrip.{planner-right}
use Rattle.spec_plan.proofs.Refused.{refused-state, refused-records}
use Rattle.spec_runs.specs.WholeRun.{fed}
use Rattle.spec_calls.specs.Plans.{PlanResult, plan_under}
use Rattle.spec_calls.specs.PlanAll.{PlanAllResult, request_at, one_more, in_turn, none_yet}
use Rattle.spec_calls.specs.Runs.{requests_fed}
use Rattle.spec_calls.proofs.ListOf.{length-list, list-append}
use Rattle.spec_calls.proofs.OneCall.{under, Own, records-fit, under-accepted, under-own, under-records, under-planner, under-room}

-- ---- lists of calls, one after the other

module _ (cx : Context) where
  pub planner-append : (p : PlannerState) (a b : List Call) → planner_after cx p (a ++ b) ≡ planner_after cx (planner_after cx p a) b
  unfolding planner_after
  planner-append p [] b = refl
  planner-append p (c ∷ a) b = planner-append (plan_next cx p c.request c.room) a b

  pub listed-append : (p : PlannerState) (a b : List Call) → listed cx p (a ++ b) ≡ listed cx p a ++ listed cx (planner_after cx p a) b
  unfolding planner_after listed
  listed-append p [] b = refl
  listed-append p (c ∷ a) b = rw (listed-append (plan_next cx p c.request c.room) a b) (sym (append_assoc (plan_records cx p c.request c.room) _ _))

  pub fed-append : (p : PlannerState) (a b : List Call) → fed cx p (a ++ b) ≡ fed cx p a ++ fed cx (planner_after cx p a) b
  unfolding planner_after fed
  fed-append p [] b = refl
  fed-append p (c ∷ a) b = rw (fed-append (plan_next cx p c.request c.room) a b)

pub bytes-append : (a b : List Call) → OfBytes a → OfBytes b → OfBytes (a ++ b)
unfolding OfBytes
bytes-append [] b g h = h
bytes-append (c ∷ a) b g h = (g.0, bytes-append a b g.1 h)

-- ---- what accepted calls leave

-- more at the start of what is left
splice-rest : (room xs ys : List ℕ) (n : ℕ) → length xs ≡ n → xs ++ splice (drop n room) 0 ys ≡ splice room 0 (xs ++ ys)
splice-rest room xs ys n e =
    let size : n + (0 + length ys) ≡ 0 + length (xs ++ ys) = omega (arith, length-append xs ys) in
    rw (drop-drop (0 + length ys) n room, size) (sym (append_assoc xs ys (drop (0 + length (xs ++ ys)) room)))

module _ (s : Settings) (p : PlannerState) (room : List ℕ) where
  -- planner and room after calls from p
  pub record Stands (x : PlanAllResult) (calls : List Call) : Type 0 where
    pub planner-is : x.planner ≡ planner_bytes (planner_after (context_of s) p calls)
    pub planner-valid : planner_valid (context_of s) (planner_after (context_of s) p calls) ≡ true
    pub records-are : x.answer.records ≡ length (listed (context_of s) p calls)
    pub room-is : x.room ≡ splice room 0 (list_bytes s (listed (context_of s) p calls))
    pub fits : 32 * length (listed (context_of s) p calls) ≤ length room

module _ (s : Settings) (v : valid s ≡ true) (p : PlannerState) (room : List ℕ) (x : PlanAllResult) (calls : List Call) (k : Stands s p room x calls) where
  abbrev l : List Record
  l = listed (context_of s) p calls

  used-is : length (list_bytes s l) ≡ 32 * x.answer.records
  used-is = length-list s l ∙ ap (λ (n : ℕ). 32 * n) (sym k.records-are)

  -- the records, and what they left of the room
  pub list-is : take (32 * x.answer.records) x.room ≡ list_bytes s l
  list-is = rw k.room-is (part-splice room 0 (list_bytes s l) (32 * x.answer.records) used-is (omega arith))

  pub rest-is : drop (32 * x.answer.records) x.room ≡ drop (32 * x.answer.records) room
  rest-is =
      let e : 0 + length (list_bytes s l) ≡ 32 * x.answer.records = omega (arith, used-is) in
      rw k.room-is (drop_at (list_bytes s l) (drop (0 + length (list_bytes s l)) room) (32 * x.answer.records) used-is ∙ ap (λ (n : ℕ). drop n room) e)

  pub size_is : length x.room ≡ length room
  size_is = ap length k.room-is ∙ length-splice room 0 (list_bytes s l) (omega (arith, length-list s l, k.fits))

  pub records-within : 32 * x.answer.records ≤ length room
  records-within = omega (arith, k.records-are, k.fits)

  -- the planner is not refused
  pub still-right : planner_right (context_of s) x.planner ≡ true
  unfolding context_of
  still-right = rw k.planner-is (planner-right (context_of s) v (planner_after (context_of s) p calls) k.planner-valid)

  -- one call more
  module _ (requests : List ℕ) (b : Bytes requests) (within : 24 * x.answer.place + 24 ≤ length requests) where
    abbrev q : PlannerState
    q = planner_after (context_of s) p calls

    abbrev request : List ℕ
    request = request_at requests x.answer.place

    abbrev left : List ℕ
    left = drop (32 * x.answer.records) x.room

    abbrev c : Call
    c = record { request = request; room = length left }

    abbrev new : List Record
    new = plan_records (context_of s) q request (length left)

    abbrev made : PlanResult
    made = plan_under (planner_bytes q) request left s

    abbrev y : PlanAllResult
    y = one_more (under s) requests x

    planner-more : planner_after (context_of s) p (calls ++ (c ∷ [])) ≡ plan_next (context_of s) q request (length left)
    unfolding planner_after
    planner-more = planner-append (context_of s) p calls (c ∷ [])

    listed_more : listed (context_of s) p (calls ++ (c ∷ [])) ≡ l ++ new
    unfolding listed
    listed_more = listed-append (context_of s) p calls (c ∷ []) ∙ ap (λ (m : List Record). l ++ m) (append-nil new)

    new-fits : 32 * length (l ++ new) ≤ length room
    new-fits =
        let size : length left ≡ length room - 32 * x.answer.records = ap length rest-is ∙ length-drop (32 * x.answer.records) room in
        omega (arith, records-fit (context_of s) q request (length left), length-append l new, k.records-are, k.fits)

    room-more : take (32 * x.answer.records) x.room ++ made.room ≡ splice room 0 (list_bytes s (l ++ new))
    unfolding plan_room context_of
    room-more =
        ap₂ (λ (a b : List ℕ). a ++ b) list-is (under-room s v q k.planner-valid request left ∙ ap (λ (r : List ℕ). splice r 0 (list_bytes s new)) rest-is)
        ∙ splice-rest room (list_bytes s l) (list_bytes s new) (32 * x.answer.records) used-is
        ∙ ap (splice room 0) (sym (list-append s l new))

    next : Stands s p room y (calls ++ (c ∷ []))
    unfolding one_more
    next =
        record {
          planner-is = rw (k.planner-is, planner-more) (under-planner s v q k.planner-valid request left);
          planner-valid = rw planner-more (next-valid (context_of s) (core-neighbours s) q request (length left) (Bytes-part requests (24 * x.answer.place) 24 b) k.planner-valid);
          records-are = rw (k.planner-is, listed_more) (ap₂ (λ (m n : ℕ). m + n) k.records-are (under-records s v q k.planner-valid request left) ∙ sym (length-append l new));
          room-is = rw (k.planner-is, listed_more) room-more;
          fits = rw listed_more new-fits;
        }

    -- whether it was accepted: then flat memory is fed its request, and the next place is reached
    more-accepted : eqb y.answer.number 0 ≡ accepted (context_of s) q request (length left)
    unfolding one_more
    more-accepted = rw k.planner-is (under-accepted s v q k.planner-valid request left)

    more-own : Own y.answer.number
    unfolding one_more
    more-own = rw k.planner-is (under-own s v q k.planner-valid request left (length_part requests (24 * x.answer.place) 24 within))

    more-place : (t : Bool) → eqb y.answer.number 0 ≡ t → y.answer.place ≡ cond t (x.answer.place + 1) x.answer.place
    unfolding one_more
    more-place t e = rw e

    more-fed : accepted (context_of s) q request (length left) ≡ true
        → fed (context_of s) p (calls ++ (c ∷ [])) ≡ fed (context_of s) p calls ++ (record { request = request; accepted = true } ∷ [])
    unfolding fed
    more-fed e = fed-append (context_of s) p calls (c ∷ []) ∙ rw e

    -- a refused one leaves all as it was
    stays : accepted (context_of s) q request (length left) ≡ false → Stands s p room y calls
    stays e =
        let state = planner-more ∙ refused-state (context_of s) q request (length left) e in
        let none : listed (context_of s) p (calls ++ (c ∷ [])) ≡ l = listed_more ∙ ap (λ (m : List Record). l ++ m) (refused-records (context_of s) q request (length left) e) ∙ append-nil l in
        record {
          planner-is = rw state at next.planner-is;
          planner-valid = k.planner-valid;
          records-are = rw none at next.records-are;
          room-is = rw none at next.room-is;
          fits = k.fits;
        }

    -- and its single call is refused again by the same number
    again : accepted (context_of s) q request (length left) ≡ false
        → (plan_under y.planner (request_at requests x.answer.place) (drop (32 * y.answer.records) y.room) s).answer.number ≡ y.answer.number
    unfolding one_more
    again e =
        let z = stays e in
        let same-planner : y.planner ≡ x.planner = z.planner-is ∙ sym k.planner-is in
        let same-records : y.answer.records ≡ x.answer.records = z.records-are ∙ sym k.records-are in
        let same-room : y.room ≡ x.room = z.room-is ∙ sym k.room-is in
        rw (same-planner, same-records, same-room)

-- ---- all of them in turn

module _ (s : Settings) (planner requests room : List ℕ) where
  -- what the first n requests leave
  abbrev pub left_by : ℕ → PlanAllResult
  left_by n = in_turn (under s) requests n (none_yet planner room)

  -- the call of request n on states, and those of the first n
  abbrev pub turn : ℕ → Call
  turn n = record { request = request_at requests n; room = length (drop (32 * (left_by n).answer.records) (left_by n).room) }

  unfoldable pub turns : ℕ → List Call
  turns zero = []
  turns (suc n) = turns n ++ (turn n ∷ [])

  pub turns-bytes : Bytes requests → (n : ℕ) → OfBytes (turns n)
  unfolding turns OfBytes
  turns-bytes b zero = tt
  turns-bytes b (suc n) = bytes-append (turns n) (turn n ∷ []) (turns-bytes b n) (Bytes-part requests (24 * n) 24 b, tt)

module _ (s : Settings) (v : valid s ≡ true) (p : PlannerState) (h : planner_valid (context_of s) p ≡ true) (requests : List ℕ) (b : Bytes requests) (room : List ℕ) where
  -- what the first n requests leave, and their calls on states
  abbrev x : ℕ → PlanAllResult
  x n = left_by s (planner_bytes p) requests room n

  abbrev before : ℕ → List Call
  before n = turns s (planner_bytes p) requests room n

  -- n requests were tried, and those before the place were accepted: it is n, or that of a request that is refused
  pub record Reached (n : ℕ) (y : PlanAllResult) : Type 0 where
    pub stands : Stands s p room y (before y.answer.place)
    pub fed-is : fed (context_of s) p (before y.answer.place) ≡ requests_fed requests y.answer.place
    pub all-planned : y.answer.number ≡ 0 → y.answer.place ≡ n
    pub below : y.answer.number ≢ 0 → y.answer.place < n
    pub own : Own y.answer.number
    pub refused-again : y.answer.number ≢ 0
        → (plan_under y.planner (request_at requests y.answer.place) (drop (32 * y.answer.records) y.room) s).answer.number ≡ y.answer.number

  none-reached : Reached zero (x zero)
  unfolding in_turn turns planner_after listed fed requests_fed list_bytes
  none-reached =
      record {
        stands = record { planner-is = refl; planner-valid = h; records-are = refl; room-is = splice-none room 0; fits = omega arith };
        fed-is = refl;
        all-planned = λ e. refl;
        below = λ e. absurd (e refl);
        own = (λ e. omega arith, λ e. omega arith);
        refused-again = λ e. absurd (e refl);
      }

  -- one request more
  module _ (n : ℕ) (w : 24 * n + 24 ≤ length requests) (r : Reached n (x n)) (e : (x n).answer.number ≡ 0) where
    at : (x n).answer.place ≡ n
    at = r.all-planned e

    within : 24 * (x n).answer.place + 24 ≤ length requests
    within = omega (arith, at)

    abbrev more : PlanAllResult
    more = one_more (under s) requests (x n)

    abbrev calls : List Call
    calls = before (x n).answer.place

    abbrev taken : Bool
    taken = accepted (context_of s) (planner_after (context_of s) p calls) (request_at requests (x n).answer.place) (length (drop (32 * (x n).answer.records) (x n).room))

    abbrev call : Call
    call = record { request = request_at requests (x n).answer.place; room = length (drop (32 * (x n).answer.records) (x n).room) }

    turns_more : before (suc n) ≡ calls ++ (call ∷ [])
    unfolding turns
    turns_more = rw at

    fed-more : requests_fed requests (suc n) ≡ requests_fed requests (x n).answer.place ++ (record { request = request_at requests (x n).answer.place; accepted = true } ∷ [])
    unfolding requests_fed
    fed-more = rw at

    is_zero : eqb more.answer.number 0 ≡ taken
    is_zero = more-accepted s v p room (x n) calls r.stands requests b within

    one-planned : taken ≡ true → Reached (suc n) more
    one-planned t =
        let number : more.answer.number ≡ 0 = eqb-true more.answer.number 0 (is_zero ∙ t) in
        let next_place : more.answer.place ≡ suc n = omega (arith, at, more-place s v p room (x n) calls r.stands requests b within true (is_zero ∙ t)) in
        record {
          stands = subst (Stands s p room more) (sym (ap before next_place ∙ turns_more)) (next s v p room (x n) calls r.stands requests b within);
          fed-is = rw (next_place, turns_more, fed-more) (more-fed s v p room (x n) calls r.stands requests b within t ∙ rw r.fed-is);
          all-planned = λ e. next_place;
          below = λ e. absurd (e number);
          own = more-own s v p room (x n) calls r.stands requests b within;
          refused-again = λ e. absurd (e number);
        }

    one-refused : taken ≡ false → Reached (suc n) more
    one-refused t =
        let same_place : more.answer.place ≡ (x n).answer.place = more-place s v p room (x n) calls r.stands requests b within false (is_zero ∙ t) in
        record {
          stands = subst (Stands s p room more) (ap before (sym same_place)) (stays s v p room (x n) calls r.stands requests b within t);
          fed-is = rw same_place r.fed-is;
          all-planned = λ z. not-both taken (sym is_zero ∙ eq-eqb more.answer.number 0 z) t;
          below = λ z. omega (arith, same_place, at);
          own = more-own s v p room (x n) calls r.stands requests b within;
          refused-again = λ z. rw same_place (again s v p room (x n) calls r.stands requests b within t);
        }

    one-reached : Reached (suc n) more
    one-reached = go taken refl
      where
        go : (t : Bool) → taken ≡ t → Reached (suc n) more
        go true t = one-planned t
        go false t = one-refused t

  -- after a stop no request is tried
  stop-reached : (n : ℕ) → Reached n (x n) → (x n).answer.number ≢ 0 → Reached (suc n) (x n)
  stop-reached n r e =
      record {
        stands = r.stands;
        fed-is = r.fed-is;
        all-planned = λ z. absurd (e z);
        below = λ z. omega (arith, r.below e);
        own = r.own;
        refused-again = r.refused-again;
      }

  next-reached : (n : ℕ) → 24 * n + 24 ≤ length requests → Reached n (x n) → Reached (suc n) (x (suc n))
  unfolding in_turn
  next-reached n w r = go (eqb (x n).answer.number 0) refl
    where
      go : (t : Bool) → eqb (x n).answer.number 0 ≡ t → Reached (suc n) (cond t (one_more (under s) requests (x n)) (x n))
      go true e = one-reached n w r (eqb-true (x n).answer.number 0 e)
      go false e = stop-reached n r (eqb-false (x n).answer.number 0 e)

  pub reached : (n : ℕ) → 24 * n ≤ length requests → Reached n (x n)
  reached zero w = none-reached
  reached (suc n) w = next-reached n (omega arith) (reached n (omega arith))
