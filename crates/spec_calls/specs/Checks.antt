-- What the calls of the checker answer: rdram_check and rdram_check_log. They are lent no buffer to write.
-- Assumes nothing.
use Rattle.std.specs.Prelude.{ℕ, List, Err, Ok, Result}
use Rattle.record.specs.declared.Refusal.{Refusal}
use Rattle.record.specs.Refusal.{answer_of}
use Rattle.spec_rules.specs.Neighbour.{context_of}
use Rattle.spec_check.specs.Check.{list_answer, log_answer}
use Rattle.spec_calls.specs.declared.CheckAnswer.{CheckAnswer}
use Rattle.spec_calls.specs.Settings.{under_settings}

-- a verdict in numbers: number 0 is a list that passes
unfoldable pub check_answer : Result (Unit {0}) Refusal → CheckAnswer
check_answer (Ok tt) = record { number = 0; rule = 0; place = 0 }
check_answer (Err r) = record { number = (answer_of r).number; rule = (answer_of r).rule; place = (answer_of r).place }

unfoldable pub check_call : List ℕ → List ℕ → CheckAnswer
check_call settings list = under_settings settings (λ why. check_answer (Err why)) (λ s. check_answer (list_answer (context_of s) list))

unfoldable pub check_log_call : List ℕ → List ℕ → CheckAnswer
check_log_call settings log = under_settings settings (λ why. check_answer (Err why)) (λ s. check_answer (log_answer (context_of s) log))
