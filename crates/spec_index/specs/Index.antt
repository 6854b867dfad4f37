-- The index of a log, and how an index may differ from it (document 02, request b).
-- Assumes nothing.
use Rattle.std.specs.Prelude.{ℕ, zero, suc, ◌/◌, max, Bool, ◌&&◌, List, [], ◌++◌, eqb, ltb, length}
use Rattle.num.specs.Bytes.{bytes}
use Rattle.num.specs.Search.{first_false}
use Rattle.settings.specs.declared.Settings.{Settings}
use Rattle.log_block.specs.Block.{word_at, blocks_in, block_at}
use Rattle.spec_index.specs.Touched.{touched_word}

-- how many whole words an index has
abbrev pub index_words : List ℕ → ℕ
index_words index = length index / 4

-- of what the word of a block is
module _ (word : List ℕ → ℕ) where
  -- the words of the first n blocks, "low byte first"
  unfoldable pub words_up_to : List ℕ → ℕ → List ℕ
  words_up_to log zero = []
  words_up_to log (suc n) = words_up_to log n ++ bytes 4 (word (block_at log n))

  -- whether word k of an index is there, and is that of block k of the log, which is there
  unfoldable pub word_right : List ℕ → List ℕ → ℕ → Bool
  word_right log index k = (ltb k (index_words index) && ltb k (blocks_in log)) && eqb (word_at index k) (word (block_at log k))

-- "Beside the log goes an index, one 32-bit word per block"
unfoldable pub index_of : Settings → List ℕ → List ℕ
index_of s log = words_up_to (touched_word s) log (blocks_in log)

-- "the first word wrong, missing or surplus, from 0", of those below n, or n where there is none
unfoldable pub first_wrong : Settings → List ℕ → List ℕ → ℕ → ℕ
first_wrong s log index n = first_false (word_right (touched_word s) log index) n

-- as many words as index or log have
abbrev pub words_of : List ℕ → List ℕ → ℕ
words_of log index = max (index_words index) (blocks_in log)
