-- What the calls on logs answer and leave in the lent buffer: rdram_log_encode and rdram_log_decode.
-- Assumes nothing.
use Rattle.std.specs.Prelude.{ℕ, List, [], length, Err, Ok, Result}
use Rattle.settings.specs.declared.Settings.{Settings as Figures}
use Rattle.record.specs.Refusal.{answer_of}
use Rattle.log_block.specs.Block.{log_of, list_of}
use Rattle.log_list.specs.Log.{copied, encode_answer, decode_answer}
use Rattle.spec_calls.specs.declared.CopyAnswer.{CopyAnswer}
use Rattle.spec_calls.specs.Settings.{under_settings}
use Rattle.record.specs.declared.Refusal.{Refusal}

-- a copying call's answer in numbers
unfoldable pub copy_answer : Result ℕ Refusal → CopyAnswer
copy_answer (Err why) = record { number = (answer_of why).number; place = (answer_of why).place; count = 0 }
copy_answer (Ok n) = record { number = 0; place = 0; count = n }

-- the answer, and the bytes of the lent buffer at exit: a log that is encoded, a list that is decoded
pub record CopyResult : Type 0 where
  pub answer : CopyAnswer
  pub lent : List ℕ

-- of what an accepted call makes, and the buffer as it is lent: "a refusal changes no lent buffer" (copied)
module _ (new lent : List ℕ) where
  abbrev pub copy_by : Result ℕ Refusal → CopyResult
  copy_by a = record { answer = copy_answer a; lent = copied a new lent }

  unfoldable pub copy_call : (Figures → Result ℕ Refusal) → List ℕ → CopyResult
  copy_call answer settings = under_settings settings (λ why. copy_by (Err why)) (λ s. copy_by (answer s))

-- 1, then 13, 10, 8
unfoldable pub log_encode_call : List ℕ → List ℕ → List ℕ → CopyResult
log_encode_call settings list log = copy_call (log_of 15 [] list) log (λ s. encode_answer 15 s list (length log)) settings

-- 1, then 13, 12, 10, 8
unfoldable pub log_decode_call : List ℕ → List ℕ → List ℕ → CopyResult
log_decode_call settings log list = copy_call (list_of log) list (λ s. decode_answer 15 s log (length list)) settings
