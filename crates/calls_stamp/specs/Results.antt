-- What the calls on logs that carry their settings answer and leave in the lent buffer (document 02, request i).
-- Assumes nothing.
use Rattle.std.specs.Prelude.{ℕ, cond, List, [], ltb, length, Err, Result}
use Rattle.record.specs.declared.Refusal.TheVariants.{Bank}
use Rattle.log_block.specs.Block.{log_of, blocks_in, list_of}
use Rattle.log_list.specs.Log.{encode_answer}
use Rattle.log_block.specs.Right.{whole_in}
use Rattle.log_stamp.specs.Stamp.{settings_of, right_stamped}
use Rattle.log_stamp.specs.Copy.{stamped_decode_answer, stamp_answer, unstamp_answer}
use Rattle.num.specs.Marks.{count_up_to}
use Rattle.spec_index.specs.Index.{index_words, index_of, words_of}
use Rattle.spec_index.specs.Query.{has_bit, queried}
use Rattle.spec_index.specs.Answers.{refused, index_right, count_or_full}
use Rattle.spec_rules.specs.Neighbour.{context_of}
use Rattle.spec_check.specs.Check.{records_of, rule_answer}
use Rattle.spec_calls.specs.declared.CheckAnswer.{CheckAnswer}
use Rattle.spec_calls.specs.Checks.{check_answer}
use Rattle.spec_calls.specs.Logs.{CopyResult, copy_by, copy_call}
use Rattle.calls_index.specs.Results.{IndexResult, index_by}
use Rattle.spec_index.specs.declared.IndexRefusal.TheVariants.{Refused}
use Rattle.spec_index.specs.declared.IndexRefusal.{IndexRefusal}
use Rattle.record.specs.declared.Refusal.{Refusal}

-- ---- lists and logs. The stamp is the settings record that the call is given.

-- rdram_stamped_encode: 1, then 13, 10, 8
unfoldable pub stamped_encode_call : List ℕ → List ℕ → List ℕ → CopyResult
stamped_encode_call settings list log = copy_call (log_of 14 settings list) log (λ s. encode_answer 14 s list (length log)) settings

-- rdram_stamped_decode: 13, 12, 17, 10, 8
unfoldable pub stamped_decode_call : List ℕ → List ℕ → CopyResult
stamped_decode_call log list = copy_by (list_of log) list (stamped_decode_answer log (length list))

-- rdram_log_stamp, "Old logs are moved to the new form with settings given": 1, then 13, 12, 10, 8
unfoldable pub stamp_call : List ℕ → List ℕ → List ℕ → CopyResult
stamp_call settings log out = copy_call (log_of 14 settings (list_of log)) out (λ s. stamp_answer s log (length out)) settings

-- rdram_log_unstamp, "and back without them": 13, 12, 17, 10, 8
unfoldable pub unstamp_call : List ℕ → List ℕ → CopyResult
unstamp_call log out = copy_by (log_of 15 [] (list_of log)) out (unstamp_answer log (length out))

-- ---- the checker

-- 13, 12, 17, 10, 11, by the settings that the log carries
unfoldable pub stamped_answer : List ℕ → Result (Unit {0}) Refusal
stamped_answer log = whole_in Err 512 log (right_stamped Err log (λ s. rule_answer (context_of s) (records_of s (list_of log))))

-- rdram_stamped_check
unfoldable pub stamped_check_call : List ℕ → CheckAnswer
stamped_check_call log = check_answer (stamped_answer log)

-- ---- the index

-- the index of a log into a lent buffer whose first `kept` words are there already and stay: 13, 12, 17, 10, 14 of those words, 8
unfoldable pub stamped_index_answer : List ℕ → ℕ → List ℕ → Result ℕ IndexRefusal
stamped_index_answer log kept index =
    whole_in refused 512 log
    (right_stamped refused log (λ s. index_right s log index kept (count_or_full (blocks_in log) (length index))))

-- rdram_stamped_index
unfoldable pub stamped_index_call : List ℕ → ℕ → List ℕ → IndexResult
stamped_index_call log kept index = index_by index (stamped_index_answer log kept index) (index_of (settings_of log) log)

-- a query into so many bytes: 13 (log, then index), 4, 12, 17, 10, 14, 8
unfoldable pub stamped_query_answer : List ℕ → List ℕ → ℕ → ℕ → Result ℕ IndexRefusal
stamped_query_answer log index bank room =
    whole_in refused 512 log
    (whole_in refused 4 index
    (cond (ltb bank 32)
    (right_stamped refused log
    (λ s. index_right s log index (words_of log index) (count_or_full (count_up_to (has_bit index bank) (index_words index)) room)))
    (Err (Refused Bank))))

-- rdram_stamped_query
unfoldable pub stamped_query_call : List ℕ → List ℕ → ℕ → List ℕ → IndexResult
stamped_query_call log index bank out = index_by out (stamped_query_answer log index bank (length out)) (queried index bank)
