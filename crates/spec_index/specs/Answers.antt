-- What the calls on an index answer, in the order of their tests (document 02, request b, and document 01, "What is turned back").
-- Assumes nothing.
use Rattle.std.specs.Prelude.{ℕ, ◌/◌, cond, List, eqb, leb, ltb, length, Err, Ok, Result}
use Rattle.num.specs.Bytes.{splice}
use Rattle.settings.specs.declared.Settings.{Settings}
use Rattle.record.specs.declared.Refusal.{Refusal}
use Rattle.record.specs.declared.Refusal.TheVariants.{Bank, Full}
use Rattle.log_block.specs.Block.{blocks_in}
use Rattle.num.specs.Marks.{count_up_to}
use Rattle.log_block.specs.Right.{whole_in, right_log}
use Rattle.spec_index.specs.Index.{index_words, words_of, first_wrong}
use Rattle.spec_index.specs.Query.{has_bit}
use Rattle.spec_index.specs.declared.IndexRefusal.TheVariants.{Differs, Refused}
use Rattle.spec_index.specs.declared.IndexRefusal.{IndexRefusal}

-- a refusal of document 01's table
abbrev pub refused : Refusal → Result ℕ IndexRefusal
refused why = Err (Refused why)

-- the lent buffer after a call: what was made goes to its start, and "a refusal changes no lent buffer"
unfoldable pub lent_after : Result ℕ IndexRefusal → List ℕ → List ℕ → List ℕ
lent_after (Err why) new old = old
lent_after (Ok n) new old = splice old 0 new

-- "14 index, with the first word wrong, missing or surplus", of the words below n
abbrev pub index_right : Settings → List ℕ → List ℕ → ℕ → Result ℕ IndexRefusal → Result ℕ IndexRefusal
index_right s log index n next = cond (eqb (first_wrong s log index n) n) next (Err (Differs (first_wrong s log index n)))

-- "8 full": n words of four bytes in so many bytes
abbrev pub count_or_full : ℕ → ℕ → Result ℕ IndexRefusal
count_or_full n room = cond (leb n (room / 4)) (Ok n) (Err (Refused Full))

-- the index of a log into a lent buffer whose first `kept` words are there already and stay: 13, 12, 10, 14 of those words, 8
unfoldable pub add_answer : Settings → List ℕ → ℕ → List ℕ → Result ℕ IndexRefusal
add_answer s log kept index =
    whole_in refused 512 log (right_log refused 15 s log (index_right s log index kept (count_or_full (blocks_in log) (length index))))

-- 12 and 10 of a log of whole blocks, then 14 of an index beside it
abbrev pub right_beside : Settings → List ℕ → List ℕ → Result ℕ IndexRefusal → Result ℕ IndexRefusal
right_beside s log index next = right_log refused 15 s log (index_right s log index (words_of log index) next)

-- a log with its index: 13 (log, then index), 12, 10, 14, and then the answer of further tests
unfoldable pub beside_answer : Settings → List ℕ → List ℕ → Result ℕ IndexRefusal → Result ℕ IndexRefusal
beside_answer s log index next = whole_in refused 512 log (whole_in refused 4 index (right_beside s log index next))

-- a query into so many bytes: 13 (log, then index), 4, 12, 10, 14, 8
unfoldable pub query_answer : Settings → List ℕ → List ℕ → ℕ → ℕ → Result ℕ IndexRefusal
query_answer s log index bank room =
    whole_in refused 512 log
    (whole_in refused 4 index
    (cond (ltb bank 32)
    (right_beside s log index (count_or_full (count_up_to (has_bit index bank) (index_words index)) room))
    (Err (Refused Bank))))
