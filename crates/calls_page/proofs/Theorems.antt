-- The promises of rdram_page.
-- Assumes nothing.
use Rattle.std.specs.Prelude.{Err, None, Ok, Option, Result, Some}
use Prim.Native.Nat.{ℕ, ◌≤◌}
use mathlib.Core.Path.{◌≡◌, refl, sym, ap}
use mathlib.Core.Bool.{true, false}
use mathlib.Core.List.{List, ◌++◌}
use mathlib.Core.Logic.{◌↔◌}
use lib.ListN.{length, drop}
use borrow.Author.Tests.{le-leb, eq-eqb}
use Rattle.settings.specs.declared.Settings.{Settings}
use Rattle.settings.specs.Instants.{horizon}
use Rattle.settings.specs.Settings.{settings_read, valid}
use Rattle.settings.proofs.SettingsLaws.{accepted-valid}
use Rattle.record.specs.declared.Refusal.TheVariants as refusal
use Rattle.record.proofs.RefusalLaws.{refused-number}
use Rattle.spec_rules.specs.Neighbour.{context_of}
use Rattle.spec_check.specs.Check.{records_of, list_answer}
use Rattle.spec_check.proofs.PassLaws.{is_passed}
use Rattle.spec_rules.proofs.Bools.{not-both}
use Rattle.spec_calls.specs.declared.CheckAnswer.{CheckAnswer}
use Rattle.spec_calls.specs.Settings.{by_settings, under_settings}
use Rattle.spec_calls.specs.Checks.{check_answer, check_call}
use Rattle.spec_page.specs.Page.{page_bytes, page}
use Rattle.spec_page.specs.Theorems.{OneMark}
use Rattle.spec_page.proofs.PageLaws.{length-page}
use Rattle.spec_page.proofs.MarkLaws.{marks-right}
use Rattle.calls_page.specs.Results.{room_for, page_answer, page_lent, PageResult, page_by, page_refused, page_call}
use Rattle.calls_page.specs.Theorems.{PageCalls}
use Rattle.calls_page.proofs.AnswerLaws.{page-accepts, list-passed, whole-list, at-start}
use Rattle.record.specs.declared.Refusal.{Refusal}

-- ---- answers in numbers

number_passed : (x : Result (Unit {0}) Refusal) → (check_answer x).number ≡ 0 → x ≡ (Ok tt)
unfolding check_answer
number_passed (Ok tt) e = refl
number_passed (Err why) e = absurd (refused-number why e)

passed-number : (x : Result (Unit {0}) Refusal) → x ≡ (Ok tt) → (check_answer x).number ≡ 0
unfolding check_answer
passed-number x e = rw e

-- ---- what a call gives

-- under accepted settings
module _ (s : Settings) (list : List ℕ) (start room : ℕ) where
  page-passed : list_answer (context_of s) list ≡ (Ok tt) → start ≤ horizon → page_bytes ≤ room → page_answer s list start room ≡ (Ok tt)
  unfolding page_answer room_for
  page-passed e m n =
      let w = list-passed (context_of s) list e in
      rw (eq-eqb _ 0 w, le-leb start horizon m, whole-list (context_of s) list w e, le-leb page_bytes room n)

-- by what the settings say
abbrev result : Option Settings → List ℕ → ℕ → List ℕ → PageResult
result r list start room = by_settings r (page_refused room) (λ s. page_by room (page_answer s list start (length room)) (page s (records_of s list) start))

abbrev judged : Option Settings → List ℕ → CheckAnswer
judged r list = by_settings r (λ why. check_answer (Err why)) (λ s. check_answer (list_answer (context_of s) list))

given_by : (r : Option Settings) (list : List ℕ) (start : ℕ) (room : List ℕ)
    → ((result r list start room).answer.number ≡ 0) ↔ (((judged r list).number ≡ 0) × (start ≤ horizon) × (page_bytes ≤ length room))
given_by None list start room =
    (λ e. absurd (never (number_passed (Err refusal.Settings) e)), λ e. absurd (never (number_passed (Err refusal.Settings) e.0)))
  where
    never : ◌≡◌ {A = Result (Unit {0}) Refusal} (Err refusal.Settings) (Ok tt) → ⊥
    never e = not-both false (ap is_passed e) refl
given_by (Some s) list start room = (
  λ e. let a = page-accepts s list start (length room) (number_passed _ e) in (passed-number (list_answer (context_of s) list) a.judged, a.in-time, a.fits),
  λ e. passed-number (page_answer s list start (length room)) (page-passed s list start (length room) (number_passed _ e.0) e.1 e.2),
)

kept : (x : Result (Unit {0}) Refusal) (new room : List ℕ) → ((check_answer x).number ≡ 0 → ⊥) → page_lent x new room ≡ room
unfolding check_answer page_lent
kept (Ok tt) new room n = absurd (n refl)
kept (Err why) new room n = refl

kept_by : (r : Option Settings) (list : List ℕ) (start : ℕ) (room : List ℕ) → ((result r list start room).answer.number ≡ 0 → ⊥) → (result r list start room).lent ≡ room
kept_by None list start room n = kept (Err refusal.Settings) room room n
kept_by (Some s) list start room n = kept (page_answer s list start (length room)) (page s (records_of s list) start) room n

written-by : (s : Settings) (list : List ℕ) (start : ℕ) (room : List ℕ) → (result (Some s) list start room).answer.number ≡ 0
    → (result (Some s) list start room).lent ≡ page s (records_of s list) start ++ drop page_bytes room
unfolding page_lent
written-by s list start room e =
    let new : List ℕ = page s (records_of s list) start in
    rw (number_passed (page_answer s list start (length room)) e) (sym (at-start room new new refl (length-page s (records_of s list) start)))

one-mark-by : (s : Settings) (list : List ℕ) (start : ℕ) (room : List ℕ) → valid s ≡ true → (result (Some s) list start room).answer.number ≡ 0 → OneMark s (records_of s list)
unfolding context_of
one-mark-by s list start room v e = marks-right (context_of s) (records_of s list) v (page-accepts s list start (length room) (number_passed _ e)).passes

pub page-calls : PageCalls
unfolding page_call under_settings check_call
page-calls =
    record {
      given = λ settings list start room. given_by (settings_read settings) list start room;
      refused = λ settings list start room. kept_by (settings_read settings) list start room;
      written = λ settings s says list start room e. rw says (written-by s list start room (rw says at e));
      one-mark = λ settings s says list start room e. one-mark-by s list start room (accepted-valid settings s says) (rw says at e);
    }
