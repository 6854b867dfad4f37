-- What an accepted call for a page says of its list, start and room.
-- Assumes nothing.
use Rattle.std.specs.Prelude.{Err, Ok, Result}
use Prim.Native.Nat.{ℕ, ◌%◌, ◌≤◌}
use mathlib.Core.Path.{◌≡◌, refl, sym, ap, ◌∙◌}
use mathlib.Core.Bool.{Bool, true, false, cond}
use mathlib.Core.List.{List, ◌++◌}
use lib.Dec.{eqb, leb}
use lib.ListN.{length, drop}
use borrow.Author.Tests.{leb-true, eqb-true, eq-eqb}
use Rattle.num.specs.Bytes.{splice}
use Rattle.num.proofs.SearchLaws.{first-all}
use Rattle.settings.specs.declared.Settings.{Settings}
use Rattle.settings.specs.Instants.{horizon}
use Rattle.record.specs.declared.Record.{Record}
use Rattle.record.specs.declared.Refusal.{Refusal}
use Rattle.record.specs.declared.Refusal.TheVariants.{Horizon, Full, Length, Word, Rule}
use Rattle.record.specs.Record.{records_in, first_bad}
use Rattle.spec_rules.specs.Neighbour.{Context, context_of}
use Rattle.spec_rules.specs.Broken.{rule_at, first_broken, every_rule}
use Rattle.spec_rules.proofs.Bools.{not-both}
use Rattle.spec_check.specs.Check.{records_of, rule_answer, records_answer, list_answer}
use Rattle.spec_check.proofs.PassLaws.{is_passed}
use Rattle.spec_page.specs.Page.{page_bytes}
use Rattle.calls_page.specs.Results.{room_for, page_answer}

-- an answer that passes only where a test does
if-passed : (b : Bool) (x : Result (Unit {0}) Refusal) (why : Refusal) → cond b x (Err why) ≡ (Ok tt) → (b ≡ true) × (x ≡ (Ok tt))
if-passed true x why e = (refl, e)
if-passed false x why e = not-both false (ap is_passed e) refl

room-passed : (room : ℕ) (x : Result (Unit {0}) Refusal) → room_for room x ≡ (Ok tt) → (leb page_bytes room ≡ true) × (x ≡ (Ok tt))
unfolding room_for
room-passed room (Ok tt) e = if-passed (leb page_bytes room) (Ok tt) Full e
room-passed room (Err why) e = not-both false (ap is_passed e) refl

pub record Accepts (s : Settings) (list : List ℕ) (start room : ℕ) : Type 0 where
  pub whole : length list % 32 ≡ 0
  pub in-time : start ≤ horizon
  pub fits : page_bytes ≤ room
  pub formed : first_bad s list ≡ records_in list
  pub judged : list_answer (context_of s) list ≡ (Ok tt)
  pub passes : every_rule (context_of s) (records_of s list) ≡ true

-- of a list of whole records
module _ (cx : Context) (list : List ℕ) (e : records_answer cx list ≡ (Ok tt)) where
  records-passed : (eqb (first_bad cx.settings list) (records_in list) ≡ true) × (rule_answer cx (records_of cx.settings list) ≡ (Ok tt))
  unfolding records_answer
  records-passed = if-passed (eqb (first_bad cx.settings list) (records_in list)) _ (Word (first_bad cx.settings list)) e

  rules-passed : every_rule cx (records_of cx.settings list) ≡ true
  unfolding rule_answer first_broken every_rule
  rules-passed =
      let rs : List Record = records_of cx.settings list in
      sym (first-all _ (length rs)) ∙ (if-passed (eqb (first_broken cx rs) (length rs)) (Ok tt) (Rule (rule_at cx rs (first_broken cx rs)) (first_broken cx rs)) records-passed.1).0

pub page-accepts : (s : Settings) (list : List ℕ) (start room : ℕ) → page_answer s list start room ≡ (Ok tt) → Accepts s list start room
unfolding page_answer list_answer context_of
page-accepts s list start room e =
    let a = if-passed (eqb (length list % 32) 0) _ Length e in
    let b = if-passed (leb start horizon) _ Horizon a.1 in
    let r = room-passed room (records_answer (context_of s) list) b.1 in
    record {
      whole = eqb-true _ 0 a.0;
      in-time = leb-true start horizon b.0;
      fits = leb-true page_bytes room r.0;
      formed = eqb-true _ _ (records-passed (context_of s) list r.1).0;
      judged = rw a.0 r.1;
      passes = rules-passed (context_of s) list r.1;
    }

-- a list of whole records is judged for 10 and 11
pub whole-list : (cx : Context) (list : List ℕ) {x : Result (Unit {0}) Refusal} → length list % 32 ≡ 0 → list_answer cx list ≡ x → records_answer cx list ≡ x
unfolding list_answer
whole-list cx list z e = rw (eq-eqb _ 0 z) at e

-- and has whole records where it passes
pub list-passed : (cx : Context) (list : List ℕ) → list_answer cx list ≡ (Ok tt) → length list % 32 ≡ 0
unfolding list_answer
list-passed cx list e = eqb-true _ 0 (if-passed (eqb (length list % 32) 0) (records_answer cx list) Length e).0

-- a page at the start of the room
pub at-start : (room x new : List ℕ) → x ≡ new → length new ≡ page_bytes → x ++ drop 292 room ≡ splice room 0 new
at-start room x new e n = rw (e, n)
