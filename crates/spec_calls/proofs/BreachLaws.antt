-- rdram_check and rdram_check_log answer 11 with rule n and place j if and only if the settings are accepted, and record j of the
-- list is the first that breaks a rule, and n the lowest that it breaks.
-- Assumes nothing.
use Rattle.std.specs.Prelude.{Err, Ok, Result}
use Prim.Native.Nat.{ℕ}
use mathlib.Core.Path.{◌≡◌, ap, ◌∙◌}
use mathlib.Core.List.{List}
use mathlib.Core.Logic.Iff
use mathlib.Core.Logic.{◌↔◌}
use native.Mathlib.Omega.{arith}
use Rattle.settings.specs.declared.Settings.{Settings}
use Rattle.settings.specs.Settings.{AcceptedWith}
use Rattle.settings.proofs.SettingsLaws.{accepted-iff}
use Rattle.record.specs.declared.Refusal.TheVariants as refusal
use Rattle.record.specs.Refusal.{answer_of}
use Rattle.record.proofs.RefusalLaws.{rule-number}
use Rattle.spec_rules.specs.Neighbour.{context_of}
use Rattle.spec_check.specs.Check.{list_answer, log_answer, ListBreach, LogBreach}
use Rattle.spec_check.proofs.BreachLaws.{list-names, log-names}
use Rattle.spec_calls.specs.declared.CheckAnswer.{CheckAnswer}
use Rattle.spec_calls.specs.Settings.{under_settings}
use Rattle.spec_calls.specs.Checks.{check_answer, check_call, check_log_call}
use Rattle.record.specs.declared.Refusal.{Refusal}

module _ (n j : ℕ) where
  abbrev broken : CheckAnswer
  broken = record { number = 11; rule = n; place = j }

  -- the answer in numbers is the checker's
  in-numbers : (a : Result (Unit {0}) Refusal) → (check_answer a ≡ broken) ↔ (a ≡ Err (refusal.Rule n j))
  unfolding check_answer answer_of
  in-numbers (Ok tt) = (λ e. absurd (let z = ap (λ (x : CheckAnswer). x.number) e in omega arith), λ e. absurd (let z : ◌≡◌ {A = ℕ} 0 1 = cc in omega arith))
  in-numbers (Err r) =
      let eleven : (answer_of r).number ≡ 11 → r ≡ refusal.Rule (answer_of r).rule (answer_of r).place = rule-number r in (
        λ e.
            let rule : (answer_of r).rule ≡ n = ap (λ (x : CheckAnswer). x.rule) e in
            let place : (answer_of r).place ≡ j = ap (λ (x : CheckAnswer). x.place) e in
            ap Err (eleven (ap (λ (x : CheckAnswer). x.number) e) ∙ rw (rule, place)),
        λ e. let q : r ≡ refusal.Rule n j = cc in rw q,
      )

  -- of a verdict under the settings, and what it says where it names this; settings out of range have 1, not 11
  names : (settings : List ℕ) (verdict : Settings → Result (Unit {0}) Refusal) (breach : Settings → Type 0) → ((s : Settings) → (verdict s ≡ Err (refusal.Rule n j)) ↔ breach s)
      → (under_settings settings (λ why. check_answer (Err why)) (λ s. check_answer (verdict s)) ≡ broken) ↔ AcceptedWith settings breach
  unfolding under_settings check_answer answer_of
  names settings verdict breach f =
      accepted-iff settings _ breach
      (λ e x. let z = ap (λ (y : CheckAnswer). y.number) (rw e at x) in omega arith)
      (λ s e. rw e (Iff.trans (in-numbers (verdict s)) (f s)))

  pub check-names : (settings list : List ℕ) → (check_call settings list ≡ record { number = 11; rule = n; place = j }) ↔ AcceptedWith settings (λ s. ListBreach (context_of s) list n j)
  unfolding check_call
  check-names settings list = names settings (λ s. list_answer (context_of s) list) (λ s. ListBreach (context_of s) list n j) (λ s. list-names (context_of s) n j list)

  pub check-log-names : (settings log : List ℕ) → (check_log_call settings log ≡ record { number = 11; rule = n; place = j }) ↔ AcceptedWith settings (λ s. LogBreach (context_of s) log n j)
  unfolding check_log_call
  check-log-names settings log = names settings (λ s. log_answer (context_of s) log) (λ s. LogBreach (context_of s) log n j) (λ s. log-names (context_of s) n j log)
