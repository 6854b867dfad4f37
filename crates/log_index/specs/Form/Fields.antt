-- The bank that a record names, read from its fields without a test of the others: right for every record that is one.
-- Assumes nothing.
use Rattle.std.specs.Prelude.{ℕ, ◌+◌, ◌*◌, ◌/◌, ◌%◌, ◌^◌, Bool, not, cond, ◌&&◌, ◌||◌, List, eqb}
use Rattle.num.specs.Bytes.{number, part}
use Rattle.log_block.specs.Block.{used}
use Rattle.num.specs.Marks.{word}
use Rattle.spec_index.specs.Touched.{some_up_to}

-- whether a record of this head (kind and spare bytes) and word names a bank: a ROW record, or a COL record whose COP is not 0
abbrev pub fields_name : ℕ → ℕ → Bool
fields_name head w = eqb head 0 || (eqb head 1 && not (eqb (w / 2 ^ 17 % 16) 0))

-- the bank field
abbrev pub bank_field : ℕ → ℕ → ℕ
bank_field head w = cond (eqb head 0) (w / 2 ^ 13 % 32) (w / 2 ^ 29 % 32)

-- of the record that starts at a place
unfoldable pub fields_at : List ℕ → ℕ → ℕ → Bool
fields_at l at b =
    let head : ℕ = number (part l (at + 4) 4) in
    let w : ℕ = number (part l (at + 8) 8) in
    fields_name head w && eqb (bank_field head w) b

-- the word of the first n records of a block, so read
unfoldable pub fields_up_to : List ℕ → ℕ → ℕ
fields_up_to block n = word (λ b. some_up_to (λ i. fields_at block (32 * i) b) n) 32

-- and of those that it uses
unfoldable pub fields_word : List ℕ → ℕ
fields_word block = fields_up_to block (used block)
