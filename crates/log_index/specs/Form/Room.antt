-- The tests 14 and 8 of the words that an index has and of the room for it, with words read from the fields of records.
-- Assumes nothing.
use Rattle.std.specs.Prelude.{ℕ, cond, List, eqb, length, Err, Result}
use Rattle.num.specs.Search.{first_false}
use Rattle.log_block.specs.Block.{blocks_in}
use Rattle.spec_index.specs.Index.{word_right}
use Rattle.spec_index.specs.Answers.{count_or_full}
use Rattle.log_index.specs.Form.Fields.{fields_word}
use Rattle.spec_index.specs.declared.IndexRefusal.TheVariants.{Differs}
use Rattle.spec_index.specs.declared.IndexRefusal.{IndexRefusal}

unfoldable pub room_answer : List ℕ → ℕ → List ℕ → Result ℕ IndexRefusal
room_answer log kept index =
    let wrong : ℕ = first_false (word_right fields_word log index) kept in
    cond (eqb wrong kept) (count_or_full (blocks_in log) (length index)) (Err (Differs wrong))
