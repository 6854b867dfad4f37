-- What the call rdram_shortest answers (document 02 l). It is lent no buffer to write.
-- Assumes nothing.
use Rattle.std.specs.Prelude.{ℕ, List, Err}
use Rattle.spec_rules.specs.Neighbour.{context_of}
use Rattle.spec_check.specs.declared.Shortest.{Shortest}
use Rattle.spec_check.specs.Shortest.{shortest_answer}
use Rattle.spec_calls.specs.declared.CheckAnswer.{CheckAnswer}
use Rattle.spec_calls.specs.Settings.{under_settings}
use Rattle.spec_calls.specs.Checks.{check_answer}
use Rattle.calls_shortest.specs.declared.ShortestAnswer.{ShortestAnswer}

-- a verdict in numbers, as of the checker, and a start
abbrev pub with_start : CheckAnswer → ℕ → ShortestAnswer
with_start a i = record { number = a.number; rule = a.rule; place = a.place; start = i }

unfoldable pub in_numbers : Shortest → ShortestAnswer
in_numbers x = with_start (check_answer x.judged) x.start

-- 1, then 13, 10 and 11 of the list
unfoldable pub shortest_call : List ℕ → List ℕ → ShortestAnswer
shortest_call settings list = under_settings settings (λ why. in_numbers (record { judged = Err why; start = 0 })) (λ s. in_numbers (shortest_answer (context_of s) list))
