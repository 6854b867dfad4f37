-- Many requests in turn on the lent bytes: the request at a place on the rest of the room, and what the turns so far say of both.
-- Assumes nothing.
use Rattle.std.specs.Prelude.{Err, Ok, Result}
use Prim.Native.Nat.{ℕ, zero, suc, ◌+◌, ◌-◌, ◌*◌, ◌/◌, ◌≤◌, ◌<◌, max}
use mathlib.Core.Path.{◌≡◌, refl, sym, ap, ◌∙◌, subst}
use mathlib.Core.Bool.{Bool, true, false, cond}
use mathlib.Core.List.{List, [], ◌++◌, append-nil}
use mathlib.Core.Logic.{◌≢◌, ⊎_elim}
use native.Mathlib.Nat.{eq-or-lt_of_le}
use lib.Dec.{eqb}
use lib.ListN.{length, take, drop, length-drop, drop_of_length-le}
use lib.Seq.{take_all}
use borrow.Author.Tests.{eq-eqb, ne_eqb}
use native.Mathlib.Omega.{arith}
use Rattle.num.specs.Bytes.{Bytes}
use Rattle.num.proofs.PartLaws.{Bytes-part}
use Rattle.settings.specs.declared.Settings.{Settings}
use Rattle.settings.specs.Settings.{valid}
use Rattle.record.specs.declared.Refusal.TheVariants as refusal
use Rattle.spec_rules.specs.Neighbour.{context_of}
use Rattle.spec_plan.specs.declared.PlannerState.{PlannerState}
use Rattle.spec_plan.specs.Planner.{planner_valid}
use Rattle.spec_plan.specs.PlannerBytes.{planner_in, planner_right}
use Rattle.spec_plan.specs.Call.{plan_outcome}
use Rattle.spec_plan.proofs.PlannerRoundTrip.{planner-encode-decode}
use Rattle.plan_bytes.specs.Form.Numbers.{word, Below}
use Rattle.plan_bytes.specs.Form.Drawn.{Rested}
use Rattle.plan_bytes.proofs.ReadyLaws.{readies, ready}
use Rattle.plan_bytes.proofs.Again.{rested-more}
use Rattle.spec_calls.specs.declared.PlanAnswer.{PlanAnswer}
use Rattle.spec_calls.specs.declared.PlanAllAnswer.{PlanAllAnswer}
use Rattle.spec_calls.specs.Plans.{plan_answer, PlanResult, plan_refused, plan_by, plan_under}
use Rattle.spec_calls.specs.PlanAll.{PlanAllResult, request_at, one_more, in_turn, none_yet}
use Rattle.spec_calls.proofs.OneCall.{right_valid, under}
use Rattle.calls_plan.proofs.CallLaws.{Leaves}
use Rattle.calls_plan.proofs.HighLaws.{rested-bytes, call-rises}
use Rattle.spec_calls.proofs.PlanAllLaws.{size_is, records-within, still-right, left_by, Reached, reached}
use Rattle.record.specs.declared.Refusal.{Refusal}

-- ---- a part of the room up to its end

pub rest-whole : (l : List ℕ) (n : ℕ) → take (length l - n) (drop n l) ≡ drop n l
rest-whole l n = take_all (length l - n) (drop n l) (rw length-drop (omega arith))

-- what comes back in its place
pub rest_back : (l : List ℕ) (n : ℕ) (new : List ℕ) → take n l ++ (new ++ drop (length l - n) (drop n l)) ≡ take n l ++ new
rest_back l n new =
    let none : drop (length l - n) (drop n l) ≡ [] = drop_of_length-le (drop n l) {i = length l - n} (rw length-drop (omega arith)) in
    rw (none, append-nil)

-- the part of the requests from one place to the next
pub request-whole : (requests : List ℕ) (place : ℕ) → take (24 * place + 24 - 24 * place) (drop (24 * place) requests) ≡ request_at requests place
request-whole requests place = let e : 24 * place + 24 - 24 * place ≡ 24 = omega arith in rw e

-- a call on these parts is that of the request at a place on the rest of the room
pub at_place : (s : Settings) (planner requests room : List ℕ) (place records : ℕ) (request rest : List ℕ) → request ≡ request_at requests place → rest ≡ drop (32 * records) room
    → (r : PlanAnswer) (after new left : List ℕ) → Leaves (plan_under planner request rest s) r after new → left ≡ take (32 * records) room ++ new
    → (r ≡ (plan_under planner (request_at requests place) (drop (32 * records) room) s).answer)
    × ((after ≡ (plan_under planner (request_at requests place) (drop (32 * records) room) s).planner)
    × (left ≡ take (32 * records) room ++ (plan_under planner (request_at requests place) (drop (32 * records) room) s).room))
at_place s planner requests room place records request rest eq er r after new left e el =
    rw (← eq, ← er) (e.0, (e.1.0, el ∙ ap (λ (l : List ℕ). take (32 * records) room ++ l) e.1.1))

-- ---- the turns so far

-- a refused call makes no record
refused_none : (planner request room : List ℕ) (s : Settings) → (plan_under planner request room s).answer.number ≢ 0 → (plan_under planner request room s).answer.records ≡ 0
unfolding plan_under plan_answer
refused_none planner request room s = go (planner_right (context_of s) planner) (plan_outcome (context_of s) (planner_in planner) request (length room))
  where
    go : (t : Bool) (o : Result ℕ Refusal) → (cond t (plan_by planner request room (context_of s) (planner_in planner) o) (plan_refused planner request room refusal.Settings)).answer.number ≢ 0
        → (cond t (plan_by planner request room (context_of s) (planner_in planner) o) (plan_refused planner request room refusal.Settings)).answer.records ≡ 0
    go true (Err why) e = refl
    go true (Ok n) e = absurd (e refl)
    go false o e = refl

-- what a call answers and leaves, by its result
abbrev pub LeavesAll : PlanAllResult → PlanAllAnswer → List ℕ → List ℕ → Type 0
LeavesAll x r after left = (r ≡ x.answer) × ((after ≡ x.planner) × (left ≡ x.room))

-- an answer by its fields
same_answer : (a : PlanAllAnswer) (number place records : ℕ) → a.number ≡ number → a.place ≡ place → a.records ≡ records → a ≡ record { number = number; place = place; records = records }
same_answer a number place records e f g = λ i. record { number = e i; place = f i; records = g i }

-- n requests were planned, and this is what they left
pub record SoFar (s : Settings) (planner₀ requests room₀ planner room : List ℕ) (n records : ℕ) : Type 0 where
  pub within : n ≤ length requests / 24
  pub none-refused : (in_turn (under s) requests n (none_yet planner₀ room₀)).answer.number ≡ 0
  pub records-are : (in_turn (under s) requests n (none_yet planner₀ room₀)).answer.records ≡ records
  pub planner-is : planner ≡ (in_turn (under s) requests n (none_yet planner₀ room₀)).planner
  pub room-is : room ≡ (in_turn (under s) requests n (none_yet planner₀ room₀)).room

module _ (s : Settings) (planner₀ requests room₀ : List ℕ) where
  abbrev pub turned : ℕ → PlanAllResult
  turned n = in_turn (under s) requests n (none_yet planner₀ room₀)

  pub so-far-none : SoFar s planner₀ requests room₀ planner₀ room₀ 0 0
  unfolding in_turn
  so-far-none = record { within = omega arith; none-refused = refl; records-are = refl; planner-is = refl; room-is = refl }

  -- the next turn, and none after a refused request
  next-turn : (n : ℕ) → (turned n).answer.number ≡ 0 → turned (suc n) ≡ one_more (under s) requests (turned n)
  unfolding in_turn
  next-turn n e = rw (eq-eqb _ 0 e)

  no-turn : (n : ℕ) → (turned n).answer.number ≢ 0 → turned (suc n) ≡ turned n
  unfolding in_turn
  no-turn n e = rw (ne_eqb _ 0 e)

  stopped : (n m : ℕ) → m ≤ n → (turned m).answer.number ≢ 0 → turned n ≡ turned m
  stopped zero m l e = let z : 0 ≡ m = omega arith in ap turned z
  stopped (suc n) m l e =
      ⊎_elim (λ (q : m ≡ suc n). ap turned (sym q))
      (λ (q : m < suc n). let k = stopped n m (omega arith) e in no-turn n (λ z. e (ap (λ (y : PlanAllResult). y.answer.number) (sym k) ∙ z)) ∙ k)
      (eq-or-lt_of_le l)

-- what is given of the lent bytes
pub record Lent (s : Settings) (planner₀ requests : List ℕ) : Type 0 where
  pub settings-valid : valid s ≡ true
  pub planner-right : planner_right (context_of s) planner₀ ≡ true
  pub planner-bytes : Bytes planner₀
  pub request-bytes : Bytes requests

module _ {s : Settings} {planner₀ requests room₀ : List ℕ} (g : Lent s planner₀ requests) {planner room : List ℕ} {n records : ℕ}
    (k : SoFar s planner₀ requests room₀ planner room n records) where
  abbrev p : PlannerState
  p = planner_in planner₀

  valid-first : planner_valid (context_of s) p ≡ true
  valid-first = right_valid (context_of s) planner₀ g.planner-right

  abbrev x : PlanAllResult
  x = turned s planner₀ requests room₀ n

  at : Reached s g.settings-valid p valid-first requests g.request-bytes room₀ n x
  at =
      subst (λ (first : List ℕ). Reached s g.settings-valid p valid-first requests g.request-bytes room₀ n (left_by s first requests room₀ n))
      (planner-encode-decode (context_of s) planner₀ g.planner-bytes g.planner-right)
      (reached s g.settings-valid p valid-first requests g.request-bytes room₀ n (omega (arith, k.within)))

  -- the state is not refused, and the records have their place in the room
  pub right-now : planner_right (context_of s) planner ≡ true
  right-now = rw k.planner-is (still-right s g.settings-valid p room₀ x _ at.stands)

  pub room-kept : length room ≡ length room₀
  room-kept = ap length k.room-is ∙ size_is s g.settings-valid p room₀ x _ at.stands

  pub records-fit : 32 * records ≤ length room
  records-fit = omega (arith, room-kept, records-within s g.settings-valid p room₀ x _ at.stands, k.records-are)

  -- no stored instant is above a bound, or a higher one
  rested-now : (top : ℕ) → Below top planner → Rested s top planner
  rested-now top t = rested-bytes s g.settings-valid _ at.stands.planner-valid planner (k.planner-is ∙ at.stands.planner-is) top t

  pub low-now : (top : ℕ) → Below top planner → top ≤ 999990000 → Below 999990000 planner
  low-now top t h = (readies s 999990000 planner (ready s 999990000 planner (rested-more s top 999990000 planner h (rested-now top t)))).below

  place_is : x.answer.place ≡ n
  place_is = at.all-planned k.none-refused

  -- the next request
  abbrev made : PlanResult
  made = plan_under planner (request_at requests n) (drop (32 * records) room) s

  next-is : turned s planner₀ requests room₀ (suc n) ≡ record {
    answer = record { number = made.answer.number; place = cond (eqb made.answer.number 0) (n + 1) n; records = records + made.answer.records };
    planner = made.planner;
    room = take (32 * records) room ++ made.room;
  }
  unfolding one_more
  next-is = next-turn s planner₀ requests room₀ n k.none-refused ∙ rw (place_is, k.records-are, sym k.planner-is, sym k.room-is)

  -- what the code has after the next request: its answer, and both buffers
  module _ (l : n < length requests / 24) (result : PlanAnswer) (er : result ≡ made.answer) (planner₁ room₁ : List ℕ) (ep : planner₁ ≡ made.planner)
      (em : room₁ ≡ take (32 * records) room ++ made.room) where
    pub one_more_lem : result.number ≡ 0 → SoFar s planner₀ requests room₀ planner₁ room₁ (n + 1) (records + result.records)
    one_more_lem e =
        let q : n + 1 ≡ suc n = omega arith in
        rw (q, ep, em, er)
        (record {
          within = omega arith;
          none-refused = ap (λ (y : PlanAllResult). y.answer.number) next-is ∙ (rw er at e);
          records-are = ap (λ (y : PlanAllResult). y.answer.records) next-is;
          planner-is = ap (λ (y : PlanAllResult). y.planner) (sym next-is);
          room-is = ap (λ (y : PlanAllResult). y.room) (sym next-is);
        })

    -- and how far its stored instants have risen
    pub more-rises : result.number ≡ 0 → (top : ℕ) → Below top planner → top ≤ 999990000 → Below (max (top + 9700) (word planner₁ 752)) planner₁
    more-rises e top t h =
        rw ep (call-rises s planner (drop (32 * records) room) top (rested-now top t) h right-now (request_at requests n) (Bytes-part requests (24 * n) 24 g.request-bytes) (rw er at e))

    -- a refused one is the last
    pub last_one : result.number ≢ 0 → (a : PlanAllAnswer) → (a.number ≡ result.number) × (a.place ≡ n) × (a.records ≡ records)
        → LeavesAll (turned s planner₀ requests room₀ (length requests / 24)) a planner₁ room₁
    last_one f a ea =
        let e : made.answer.number ≢ 0 = rw er at f in
        let none : made.answer.records ≡ 0 = refused_none planner (request_at requests n) (drop (32 * records) room) s e in
        let more : records + made.answer.records ≡ records = omega (arith, none) in
        let z = stopped s planner₀ requests room₀ (length requests / 24) (suc n) (omega arith) (λ z. e (ap (λ (y : PlanAllResult). y.answer.number) (sym next-is) ∙ z)) ∙ next-is in
        rw (z, ne_eqb made.answer.number 0 e, more) (same_answer a _ n records (rw er at ea.0) ea.1 ea.2, (ep, em))

  -- no request is left
  pub all-planned : length requests / 24 ≤ n → (a : PlanAllAnswer) → (a.number ≡ 0) × (a.place ≡ n) × (a.records ≡ records)
      → LeavesAll (turned s planner₀ requests room₀ (length requests / 24)) a planner room
  all-planned l a ea =
      let e : length requests / 24 ≡ n = omega (arith, k.within) in
      rw (e, same_answer a 0 n records ea.0 ea.1 ea.2) (sym (same_answer x.answer 0 n records k.none-refused place_is k.records-are), (k.planner-is, k.room-is))
