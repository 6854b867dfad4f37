-- What rdram_page promises (document 02, request k), of any bytes and lengths.
-- Assumes nothing.
use Rattle.std.specs.Prelude.{ℕ, ◌≤◌, ◌≡◌, List, ◌++◌, ◌≢◌, ◌↔◌, length, drop, Some}
use Rattle.settings.specs.declared.Settings.{Settings}
use Rattle.settings.specs.Instants.{horizon}
use Rattle.settings.specs.Settings.{settings_read}
use Rattle.spec_check.specs.Check.{records_of}
use Rattle.spec_calls.specs.Checks.{check_call}
use Rattle.spec_page.specs.Page.{page_bytes, page}
use Rattle.spec_page.specs.Theorems.{OneMark}
use Rattle.calls_page.specs.Results.{page_call}

pub record PageCalls : Type 0 where
  -- "A list that the checker refuses, or a start above 1,000,000,000 (7), gives no page.": a page is given exactly where rdram_check
  -- passes the list, the start is at most that and the room has a page's bytes
  pub given : (settings list : List ℕ) (start : ℕ) (room : List ℕ)
      → ((page_call settings list start room).answer.number ≡ 0) ↔ (((check_call settings list).number ≡ 0) × (start ≤ horizon) × (page_bytes ≤ length room))
  -- "changes no lent buffer"
  pub refused : (settings list : List ℕ) (start : ℕ) (room : List ℕ) → (page_call settings list start room).answer.number ≢ 0 → (page_call settings list start room).lent ≡ room
  -- an accepted call writes the first 292 bytes of the room, and leaves the others
  pub written : (settings : List ℕ) (s : Settings) → settings_read settings ≡ Some s → (list : List ℕ) (start : ℕ) (room : List ℕ)
      → (page_call settings list start room).answer.number ≡ 0 → (page_call settings list start room).lent ≡ page s (records_of s list) start ++ drop page_bytes room
  -- and no two marks of its list meet
  pub one-mark : (settings : List ℕ) (s : Settings) → settings_read settings ≡ Some s → (list : List ℕ) (start : ℕ) (room : List ℕ)
      → (page_call settings list start room).answer.number ≡ 0 → OneMark s (records_of s list)
