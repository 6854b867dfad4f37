-- A query by bank (document 02, request b): from the index, and by a scan of the log.
-- Assumes nothing.
use Rattle.std.specs.Prelude.{ℕ, zero, suc, ◌*◌, ◌<◌, ◌≡◌, Bool, true, cond, List, [], ◌++◌, length}
use Rattle.num.specs.Bytes.{bytes}
use Rattle.settings.specs.declared.Settings.{Settings}
use Rattle.log_block.specs.Block.{word_at, blocks_in, block_at}
use Rattle.num.specs.Marks.{bit, count_up_to}
use Rattle.spec_index.specs.Touched.{touches}
use Rattle.spec_index.specs.Index.{index_words}

-- the numbers below n at which f holds, "four bytes as in a block, in rising order"
unfoldable pub numbers_where : (ℕ → Bool) → ℕ → List ℕ
numbers_where f zero = []
numbers_where f (suc n) = numbers_where f n ++ cond (f n) (bytes 4 n) []

-- whether word k of an index has the bit of a bank
unfoldable pub has_bit : List ℕ → ℕ → ℕ → Bool
has_bit index bank k = bit (word_at index k) bank

-- "A query by bank lists block numbers"
unfoldable pub queried : List ℕ → ℕ → List ℕ
queried index bank = numbers_where (has_bit index bank) (index_words index)

-- the numbers of the blocks with a packet that names a bank: "a scan of the log"
unfoldable pub scanned : Settings → List ℕ → ℕ → List ℕ
scanned s log bank = numbers_where (λ k. touches s (block_at log k) bank) (blocks_in log)

-- what such a list says: each of its numbers is one at which f holds, each such number is there, and they rise
pub record Lists (f : ℕ → Bool) (n : ℕ) (list : List ℕ) : Type 0 where
  pub whole : length list ≡ 4 * count_up_to f n
  pub each : (i : ℕ) → i < count_up_to f n → (word_at list i < n) × (f (word_at list i) ≡ true)
  pub every : (k : ℕ) → k < n → f k ≡ true → (i : ℕ) × (i < count_up_to f n) × (word_at list i ≡ k)
  pub rising : (i j : ℕ) → i < j → j < count_up_to f n → word_at list i < word_at list j
