-- What the calls on an index promise together (document 02, request b), of settings bytes that say s.
-- Assumes nothing.
use Rattle.std.specs.Prelude.{ℕ, ◌*◌, ◌<◌, ◌≡◌, List, length, take, Some}
use Rattle.num.specs.Bytes.{splice, Bytes}
use Rattle.settings.specs.declared.Settings.{Settings}
use Rattle.settings.specs.Settings.{settings_read}
use Rattle.log_block.specs.Block.{blocks_in, block_at}
use Rattle.num.specs.Marks.{bit, count_up_to}
use Rattle.spec_index.specs.Touched.{touches, touched_word}
use Rattle.spec_index.specs.Index.{index_of}
use Rattle.spec_index.specs.Query.{scanned, Lists}
use Rattle.calls_index.specs.Results.{index_add_call, index_query_call, index_check_call}

-- "changes no lent buffer"
pub record RefusedIndexCalls : Type 0 where
  -- rdram_index_make and rdram_index_add
  pub add : (settings log : List ℕ) (kept : ℕ) (index : List ℕ)
      → ((index_add_call settings log kept index).answer.number ≡ 0 → ⊥) → (index_add_call settings log kept index).lent ≡ index
  -- rdram_index_query
  pub query : (settings log index : List ℕ) (bank : ℕ) (out : List ℕ)
      → ((index_query_call settings log index bank out).answer.number ≡ 0 → ⊥) → (index_query_call settings log index bank out).lent ≡ out

module _ (settings : List ℕ) (s : Settings) (says : settings_read settings ≡ Some s) where
  pub record IndexCalls : Type 0 where
    -- what rdram_index_add leaves at the start of the buffer is the index of the log, whatever words were kept
    pub made : (log : List ℕ) (kept : ℕ) (index : List ℕ) → (index_add_call settings log kept index).answer.number ≡ 0
        → (index_add_call settings log kept index).lent ≡ splice index 0 (index_of s log)
    -- and the words that were kept are as they were
    pub stays : (log : List ℕ) (kept : ℕ) (index : List ℕ) → Bytes index → (index_add_call settings log kept index).answer.number ≡ 0
        → take (4 * kept) (index_add_call settings log kept index).lent ≡ take (4 * kept) index
    -- "must equal a scan of the log": what a query writes, and its count
    pub scan : (log index : List ℕ) (bank : ℕ) (out : List ℕ) → Bytes index → (index_query_call settings log index bank out).answer.number ≡ 0
        → ((index_query_call settings log index bank out).lent ≡ splice out 0 (scanned s log bank))
        × (4 * (index_query_call settings log index bank out).answer.count ≡ length (scanned s log bank))
    -- block k is listed if and only if a packet of it names the bank, once, in rising order
    pub lists : (log index : List ℕ) (bank : ℕ) (out : List ℕ) → Bytes log → (index_query_call settings log index bank out).answer.number ≡ 0
        → Lists (λ k. touches s (block_at log k) bank) (blocks_in log) (scanned s log bank)
    -- an index that passes is the index of its log
    pub passes : (log index : List ℕ) → Bytes index → (index_check_call settings log index).number ≡ 0 → index ≡ index_of s log
