-- The test 14 of an index beside its log, with words read from the fields of records.
-- Assumes nothing.
use Rattle.std.specs.Prelude.{ℕ, cond, List, eqb, Err, Ok, Result}
use Rattle.num.specs.Search.{first_false}
use Rattle.spec_index.specs.Index.{index_words, words_of, word_right}
use Rattle.log_index.specs.Form.Fields.{fields_word}
use Rattle.spec_index.specs.declared.IndexRefusal.TheVariants.{Differs}
use Rattle.spec_index.specs.declared.IndexRefusal.{IndexRefusal}

unfoldable pub beside_fields : List ℕ → List ℕ → Result ℕ IndexRefusal
beside_fields log index =
    let wrong : ℕ = first_false (word_right fields_word log index) (words_of log index) in
    cond (eqb wrong (words_of log index)) (Ok (index_words index)) (Err (Differs wrong))
