-- What the call for a page of the channel answers and leaves in the lent room: rdram_page (document 02, request k).
-- Assumes nothing.
use Rattle.std.specs.Prelude.{ℕ, cond, List, leb, length, Err, Ok, Result}
use Rattle.num.specs.Bytes.{splice}
use Rattle.settings.specs.declared.Settings.{Settings}
use Rattle.settings.specs.Instants.{horizon}
use Rattle.record.specs.declared.Refusal.{Refusal}
use Rattle.record.specs.declared.Refusal.TheVariants.{Horizon, Full}
use Rattle.log_block.specs.Right.{whole_in}
use Rattle.spec_rules.specs.Neighbour.{context_of}
use Rattle.spec_check.specs.Check.{records_of, records_answer}
use Rattle.spec_calls.specs.declared.CheckAnswer.{CheckAnswer}
use Rattle.spec_calls.specs.Settings.{under_settings}
use Rattle.spec_calls.specs.Checks.{check_answer}
use Rattle.spec_page.specs.Page.{page_bytes, page}

-- "in such a call 8 comes last": of a list that passes, where there are fewer bytes than a page has
unfoldable pub room_for : ℕ → Result (Unit {0}) Refusal → Result (Unit {0}) Refusal
room_for room (Ok tt) = cond (leb page_bytes room) (Ok tt) (Err Full)
room_for room (Err why) = Err why

-- "A list that the checker refuses, or a start above 1,000,000,000 (7), gives no page.": 13, then 7, 10, 11, 8
unfoldable pub page_answer : Settings → List ℕ → ℕ → ℕ → Result (Unit {0}) Refusal
page_answer s list start room =
    whole_in Err 32 list (cond (leb start horizon) (room_for room (records_answer (context_of s) list)) (Err Horizon))

-- the room at exit: the page at its start, or, since "a refusal [..] changes no lent buffer", as it was
unfoldable pub page_lent : Result (Unit {0}) Refusal → List ℕ → List ℕ → List ℕ
page_lent (Ok tt) new room = splice room 0 new
page_lent (Err why) new room = room

-- the answer, as rdram_check has one, and the bytes of the room at exit
pub record PageResult : Type 0 where
  pub answer : CheckAnswer
  pub lent : List ℕ

-- of the room as it is lent
module _ (room : List ℕ) where
  abbrev pub page_by : Result (Unit {0}) Refusal → List ℕ → PageResult
  page_by x new = record { answer = check_answer x; lent = page_lent x new room }

  abbrev pub page_refused : Refusal → PageResult
  page_refused why = page_by (Err why) room

-- 1, then 13, 7, 10, 11, 8
unfoldable pub page_call : List ℕ → List ℕ → ℕ → List ℕ → PageResult
page_call settings list start room =
    under_settings settings (page_refused room) (λ s. page_by room (page_answer s list start (length room)) (page s (records_of s list) start))
