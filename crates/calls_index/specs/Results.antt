-- What the calls on an index answer and leave in the lent buffer: rdram_index_make, rdram_index_add, rdram_index_query and
-- rdram_index_check (document 02, request b).
-- Assumes nothing.
use Rattle.std.specs.Prelude.{ℕ, List, length, Err, Ok, Result}
use Rattle.settings.specs.declared.Settings.{Settings}
use Rattle.record.specs.declared.Refusal.{Refusal}
use Rattle.record.specs.Refusal.{answer_of}
use Rattle.spec_rules.specs.Neighbour.{context_of}
use Rattle.spec_check.specs.Check.{records_of, rule_answer}
use Rattle.spec_calls.specs.Settings.{under_settings}
use Rattle.log_block.specs.Block.{list_of}
use Rattle.spec_index.specs.Index.{index_words, index_of}
use Rattle.spec_index.specs.Query.{queried}
use Rattle.spec_index.specs.Answers.{lent_after, add_answer, beside_answer, query_answer}
use Rattle.calls_index.specs.declared.IndexAnswer.{IndexAnswer}
use Rattle.spec_index.specs.declared.IndexRefusal.TheVariants.{Differs, Refused}
use Rattle.spec_index.specs.declared.IndexRefusal.{IndexRefusal}

-- an answer in numbers: "14 index, with the first word wrong, missing or surplus, from 0"
unfoldable pub index_answer : Result ℕ IndexRefusal → IndexAnswer
index_answer (Err (Refused why)) = record { number = (answer_of why).number; rule = (answer_of why).rule; place = (answer_of why).place; count = 0 }
index_answer (Err (Differs k)) = record { number = 14; rule = 0; place = k; count = 0 }
index_answer (Ok n) = record { number = 0; rule = 0; place = 0; count = n }

-- the answer, and the bytes of the lent buffer at exit: an index that is made, or the numbers that a query lists
pub record IndexResult : Type 0 where
  pub answer : IndexAnswer
  pub lent : List ℕ

-- of the buffer as it is lent: "a refusal changes no lent buffer" (lent_after)
module _ (lent : List ℕ) where
  abbrev pub index_by : Result ℕ IndexRefusal → List ℕ → IndexResult
  index_by x new = record { answer = index_answer x; lent = lent_after x new lent }

  abbrev pub index_refused : Refusal → IndexResult
  index_refused why = index_by (Err (Refused why)) lent

-- the index of a log, of which the first `kept` words are in the lent buffer already: 1, then 13, 12, 10, 14 of those words, 8.
-- rdram_index_make keeps none.
unfoldable pub index_add_call : List ℕ → List ℕ → ℕ → List ℕ → IndexResult
index_add_call settings log kept index =
    under_settings settings (index_refused index) (λ s. index_by index (add_answer s log kept index) (index_of s log))

-- a query by bank: 1, then 13 (log, then index), 4, 12, 10, 14, 8
unfoldable pub index_query_call : List ℕ → List ℕ → List ℕ → ℕ → List ℕ → IndexResult
index_query_call settings log index bank out =
    under_settings settings (index_refused out) (λ s. index_by out (query_answer s log index bank (length out)) (queried index bank))

-- a verdict on a log whose index has so many words
unfoldable pub judged_as : Result (Unit {0}) Refusal → ℕ → Result ℕ IndexRefusal
judged_as (Ok tt) words = Ok words
judged_as (Err why) words = Err (Refused why)

-- a log with its index under the rules: 13 (log, then index), 12, 10, 14, 11
unfoldable pub checked_answer : Settings → List ℕ → List ℕ → Result ℕ IndexRefusal
checked_answer s log index = beside_answer s log index (judged_as (rule_answer (context_of s) (records_of s (list_of log))) (index_words index))

unfoldable pub index_check_call : List ℕ → List ℕ → List ℕ → IndexAnswer
index_check_call settings log index = under_settings settings (λ why. index_answer (Err (Refused why))) (λ s. index_answer (checked_answer s log index))
