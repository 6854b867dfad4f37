-- Blocks of 512 bytes and the log that they make up (document 01, "Blocks"; document 02 i). A list of records is the list of its bytes.
-- A form of block is how many records a block has and what stands between them and its number: 15 and nothing, or "14 records [..], then
-- sixteen 16-bit numbers", the stamp. "Block number, count, zeros and check stay as bytes 480 to 511, and the same sum rule holds."
-- Assumes nothing.
use Rattle.std.specs.Prelude.{ℕ, zero, suc, ◌+◌, ◌-◌, ◌*◌, ◌/◌, ◌%◌, ◌^◌, Bool, ◌&&◌, ◌||◌, List, [], ◌++◌, length, ◌==◌, nat_eq, nat_le, slice_index}
use Rattle.num.specs.Bytes.{bytes, number, part, zeros}
use Rattle.num.specs.Search.{all_up_to, first_false}

-- word k of a block, low byte first
abbrev pub word_at : List ℕ → ℕ → ℕ
word_at b k = number (part b (4 * k) 4)

-- the sum of the first n words
unfoldable pub word_sum : List ℕ → ℕ → ℕ
word_sum b zero = 0
word_sum b (suc n) = word_sum b n + word_at b n

-- "Block: 15 records, block number 4 (from 0), records used 4 (1 to 15), zeros 20, check 4, unused records zero."
-- All of block k but its check word; recs are the bytes of its used records.
unfoldable pub block_body : List ℕ → ℕ → List ℕ → List ℕ
block_body stamp k recs =
    recs ++ (zeros (480 - length stamp - length recs) ++ (stamp ++ (bytes 4 k ++ (bytes 4 (length recs / 32) ++ zeros 20))))

-- "The 128 little-endian words sum to 0 modulo 2^32": the last is the negative of the sum of the others
unfoldable pub check_word : List ℕ → ℕ
check_word body = (2 ^ 32 - word_sum body 127 % 2 ^ 32) % 2 ^ 32

unfoldable pub block : List ℕ → ℕ → List ℕ → List ℕ
block stamp k recs = block_body stamp k recs ++ bytes 4 (check_word (block_body stamp k recs))

-- how many blocks of so many records n records take; "An empty list has no block"
abbrev pub block_count : ℕ → ℕ → ℕ
block_count per n = (n + (per - 1)) / per

-- the first n blocks of a list; block k has the records from per × k on, as many as a block has, or what is left of them
unfoldable pub log_up_to : ℕ → List ℕ → List ℕ → ℕ → List ℕ
log_up_to per stamp l zero = []
log_up_to per stamp l (suc n) = log_up_to per stamp l n ++ block stamp n (part l (32 * (per * n)) (32 * per))

-- the log of a list
unfoldable pub log_of : ℕ → List ℕ → List ℕ → List ℕ
log_of per stamp l = log_up_to per stamp l (block_count per (length l / 32))

-- block k of a log
abbrev pub block_at : List ℕ → ℕ → List ℕ
block_at log k = part log (512 * k) 512

-- what stands between the records of a block and its number
abbrev pub stamp_of : ℕ → List ℕ → List ℕ
stamp_of per b = part b (32 * per) (480 - 32 * per)

-- "records used 4"
abbrev pub used : List ℕ → ℕ
used b = number (part b 484 4)

-- whether the n bytes from index at on are zero
abbrev pub all_zero : List ℕ → ℕ → ℕ → Bool
all_zero b at n = all_up_to (λ i. nat_eq (slice_index b (at + i)) 0) n

-- "block number 4 (from 0)"
abbrev pub number_right : ℕ → List ℕ → Bool
number_right k b = number (part b 480 4) == k

-- "records used 4 (1 to 15)", "(used 1 to 14)"; "Only the last block may be short."
abbrev pub count_right : ℕ → Bool → List ℕ → Bool
count_right per last b = nat_le 1 (used b) && (nat_le (used b) per && (last || used b == per))

-- "zeros 20", "unused records zero"
abbrev pub zeros_right : ℕ → List ℕ → Bool
zeros_right per b = all_zero b 488 20 && all_zero b (32 * used b) (32 * per - 32 * used b)

-- "The 128 little-endian words sum to 0 modulo 2^32."
abbrev pub sum_right : List ℕ → Bool
sum_right b = word_sum b 128 % 2 ^ 32 == 0

-- whether b is block k of a log, and its last block where last says so; "12 block: block number, count, block zeros,
-- unused records or check wrong"
unfoldable pub block_right : ℕ → ℕ → Bool → List ℕ → Bool
block_right per k last b = number_right k b && (count_right per last b && (zeros_right per b && sum_right b))

-- how many whole blocks a log has
abbrev pub blocks_in : List ℕ → ℕ
blocks_in log = length log / 512

-- the first block of a log that is not right, or the number of blocks where all are
unfoldable pub first_bad_block : ℕ → List ℕ → ℕ
first_bad_block per log = first_false (λ k. block_right per k (k + 1 == blocks_in log) (block_at log k)) (blocks_in log)

-- the used records of the first n blocks
unfoldable pub list_up_to : List ℕ → ℕ → List ℕ
list_up_to log zero = []
list_up_to log (suc n) = list_up_to log n ++ part (block_at log n) 0 (32 * used (block_at log n))

-- the list that a log keeps, whatever its form
unfoldable pub list_of : List ℕ → List ℕ
list_of log = list_up_to log (blocks_in log)
