-- rdram_plan_all beside rdram_plan (document 02 h): "It must equal the single calls made in turn, stopping before the first refused
-- request, whose number and position (from 0) it gives. What was accepted before it stays planned".
-- Assumes nothing.
use Rattle.std.specs.Prelude.{ℕ, zero, suc, ◌*◌, ◌/◌, ◌<◌, ◌≡◌, List, [], ◌∷◌, ◌++◌, ◌≢◌, ◌⊎◌, length, take, drop}
use Rattle.spec_calls.specs.Plans.{plan_call}
use Rattle.spec_calls.specs.PlanAll.{PlanAllResult, request_at, in_turn, none_yet}
use Rattle.spec_calls.specs.Runs.{PlanCall, One, bench_after, requests_fed, bench_fed}

-- of buffers as they are lent
module _ (settings planner requests room : List ℕ) where
  -- the call of rdram_plan for request i, with what the requests before it left of the room; the calls for the first n
  abbrev pub single_call : ℕ → PlanCall
  single_call i =
      let before : PlanAllResult = in_turn (plan_call settings) requests i (none_yet planner room) in
      One (request_at requests i) (drop (32 * before.answer.records) before.room)

  unfoldable pub single_calls : ℕ → List PlanCall
  single_calls zero = []
  single_calls (suc n) = single_calls n ++ (single_call n ∷ [])

  -- what the result of rdram_plan_all is
  pub record AllInTurn (made : PlanAllResult) : Type 0 where
    -- the calls for the requests before the place, one after the other, leave the same planner and add the same records to a list
    pub same : (list : List ℕ)
        → bench_after settings (single_calls made.answer.place) (record { planner = planner; list = list })
        ≡ record { planner = made.planner; list = list ++ take (32 * made.answer.records) made.room }
    -- and each of them is accepted
    pub taken : (list : List ℕ) → bench_fed settings (single_calls made.answer.place) (record { planner = planner; list = list }) ≡ requests_fed requests made.answer.place
    -- number 0: these are all of them
    pub complete : made.answer.number ≡ 0 → made.answer.place ≡ length requests / 24
    -- 1 and 13 "refuse the whole call before any request is planned"
    pub refused : (made.answer.number ≡ 1) ⊎ (made.answer.number ≡ 13)
        → (made.answer.place ≡ 0) × (made.answer.records ≡ 0) × (made.planner ≡ planner) × (made.room ≡ room)
    -- "an empty file is else accepted and adds no record"
    pub empty : requests ≡ [] → made.answer.number ≢ 1 → made ≡ none_yet planner room
    -- another number is a stop: the call for the request at the place is refused by it
    pub stops : made.answer.number ≢ 0 → made.answer.number ≢ 1 → made.answer.number ≢ 13
        → (made.answer.place < length requests / 24)
        × ((plan_call settings made.planner (request_at requests made.answer.place) (drop (32 * made.answer.records) made.room)).answer.number ≡ made.answer.number)
    -- no byte of the room after the records is written
    pub size : length made.room ≡ length room
    pub rest : drop (32 * made.answer.records) made.room ≡ drop (32 * made.answer.records) room
