-- The bytes of a list of records: record j of them, and what rdram_check answers where the records break no rule.
-- Assumes nothing.
use Rattle.std.specs.Prelude.{Err, Ok, Result, Some}
use Prim.Native.Nat.{ℕ, zero, suc, ◌+◌, ◌*◌, ◌/◌, ◌%◌, ◌≤◌, ◌<◌}
use mathlib.Core.Path.{◌≡◌, refl, sym, ap, ◌∙◌}
use mathlib.Core.Bool.{true, false}
use mathlib.Core.List.{List, [], ◌∷◌, ◌++◌, append_assoc}
use lib.ListN.{length, take, length-append}
use lib.Seq.{take_at, take-suc, take-length}
use borrow.Author.Tests.{eq-eqb}
use native.Mathlib.Omega.{arith}
use Rattle.num.specs.Bytes.{part}
use Rattle.num.proofs.PartLaws.{part_right, part-seam}
use Rattle.num.proofs.SearchLaws.{first-none}
use Rattle.settings.specs.declared.Settings.{Settings}
use Rattle.settings.specs.Settings.{settings_read}
use Rattle.record.specs.declared.Record.{Record}
use Rattle.record.specs.Record.{record_bytes, record_read, is_known, well_formed, record_at, records_in, first_bad}
use Rattle.spec_rules.specs.Neighbour.{context_of}
use Rattle.spec_rules.specs.Broken.{record_in, every_rule}
use Rattle.spec_rules.proofs.Bools.{not-both}
use Rattle.spec_plan.specs.Call.{list_bytes}
use Rattle.spec_runs.proofs.DriveLaws.{Every, Coded, length-record}
use Rattle.spec_check.specs.Check.{known}
use Rattle.spec_check.specs.Check.{records_up_to, records_of, list_answer}
use Rattle.spec_check.proofs.PassLaws.{is_passed, list-passes}
use Rattle.spec_calls.specs.Settings.{under_settings}
use Rattle.spec_calls.specs.Checks.{check_answer, check_call}
use Rattle.record.specs.declared.Refusal.{Refusal}

module _ (s : Settings) where
  pub length-list : (l : List Record) → length (list_bytes s l) ≡ 32 * length l
  unfolding list_bytes context_of
  length-list [] = refl
  length-list (r ∷ l) = length-append (record_bytes s r) (list_bytes s l) ∙ rw (length-record (context_of s) r, length-list l) (omega arith)

  -- as many whole records as the list has
  pub list_count : (l : List Record) → length (list_bytes s l) / 32 ≡ length l
  list_count l = rw (length-list l) (omega arith)

  pub list-append : (a b : List Record) → list_bytes s (a ++ b) ≡ list_bytes s a ++ list_bytes s b
  unfolding list_bytes
  list-append [] b = refl
  list-append (r ∷ a) b = rw (list-append a b) (sym (append_assoc (record_bytes s r) (list_bytes s a) (list_bytes s b)))

  -- the record that comes after others
  pub list-next : (before rest : List ℕ) (r : Record) (n : ℕ) → length before ≡ 32 * n → part (before ++ (record_bytes s r ++ rest)) (32 * n) 32 ≡ record_bytes s r
  unfolding context_of
  list-next before rest r n e = part-seam before (record_bytes s r ++ rest) (32 * n) 32 e ∙ take_at (record_bytes s r) rest 32 (length-record (context_of s) r)

  pub list_at : (l : List Record) (j : ℕ) → j < length l → part (list_bytes s l) (32 * j) 32 ≡ record_bytes s (record_in l j)
  unfolding list_bytes context_of
  list_at [] j m = absurd (omega arith)
  list_at (r ∷ l) zero m = take_at (record_bytes s r) (list_bytes s l) 32 (length-record (context_of s) r)
  list_at (r ∷ l) (suc j) m =
      let e : 32 * suc j ≡ 32 + 32 * j = omega arith in
      rw e (part_right (record_bytes s r) (list_bytes s l) 32 (32 * j) 32 (length-record (context_of s) r) ∙ list_at l j (omega arith))

  -- ---- the records of the bytes

  coded-at : (l : List Record) → Every (Coded (context_of s)) l → (j : ℕ) → j < length l → Coded (context_of s) (record_in l j)
  coded-at [] c j m = absurd (omega arith)
  coded-at (r ∷ l) c zero m = c.0
  coded-at (r ∷ l) c (suc j) m = coded-at l c.1 j (omega arith)

  module _ (l : List Record) (c : Every (Coded (context_of s)) l) where
    read_at : (j : ℕ) → j < length l → record_read s (record_at (list_bytes s l) j) ≡ Some (record_in l j)
    unfolding context_of
    read_at j m = ap (record_read s) (list_at l j m) ∙ coded-at l c j m

    pub records-up-to : (n : ℕ) → n ≤ length l → records_up_to s (list_bytes s l) n ≡ take n l
    unfolding records_up_to known
    records-up-to zero h = refl
    records-up-to (suc n) h = rw (records-up-to n (omega arith), read_at n (omega arith)) (sym (take-suc l n _ (omega arith)))

    records-of : records_of s (list_bytes s l) ≡ l
    unfolding records_of
    records-of = rw (list_count l) (records-up-to (length l) (omega arith) ∙ take-length l)

    none-bad : first_bad s (list_bytes s l) ≡ records_in (list_bytes s l)
    unfolding first_bad well_formed is_known
    none-bad =
        rw (list_count l)
        (first-none (λ i. is_known (record_read s (record_at (list_bytes s l) i))) (length l) (λ i m. rw (read_at i m)))

    list-passed : every_rule (context_of s) l ≡ true → is_passed (list_answer (context_of s) (list_bytes s l)) ≡ true
    unfolding context_of
    list-passed e =
        let whole : length (list_bytes s l) % 32 ≡ 0 = rw (length-list l) (omega arith) in
        list-passes (context_of s) (list_bytes s l) ∙ rw (whole, eq-eqb _ _ none-bad, records-of, e)

  passed-number : (a : Result (Unit {0}) Refusal) → is_passed a ≡ true → (check_answer a).number ≡ 0
  unfolding check_answer
  passed-number (Ok tt) e = refl
  passed-number (Err r) e = not-both false e refl

  pub list-checked : (settings : List ℕ) → settings_read settings ≡ Some s → (l : List Record) → Every (Coded (context_of s)) l → every_rule (context_of s) l ≡ true
      → (check_call settings (list_bytes s l)).number ≡ 0
  unfolding check_call under_settings
  list-checked settings a l c e = rw a (passed-number (list_answer (context_of s) (list_bytes s l)) (list-passed l c e))
