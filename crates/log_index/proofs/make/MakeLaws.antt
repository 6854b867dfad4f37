-- The index of a log as it is written word by word, and what the tests before it say.
-- Assumes nothing.
use Rattle.std.specs.Prelude.{Err, Ok, Result}
use Prim.Native.Nat.{ℕ, ◌+◌, ◌*◌, ◌/◌, ◌%◌, ◌≤◌}
use mathlib.Core.Path.{◌≡◌, refl, sym, ap, ◌∙◌}
use mathlib.Core.Bool.{Bool, true, false, cond}
use mathlib.Core.List.{List, ◌++◌}
use native.Mathlib.Nat.{zero-add}
use native.Mathlib.Omega.{arith}
use borrow.Author.Tests.{eqb-true, eq-eqb, leb-true}
use lib.Dec.{eqb, leb}
use lib.ListN.{length, drop, take-append-drop}
use Rattle.num.specs.Bytes.{bytes, part, splice, Bytes}
use Rattle.num.specs.Search.{first_false}
use Rattle.num.proofs.SearchLaws.{first-same}
use Rattle.num.proofs.SpliceLaws.{splice-next}
use Rattle.settings.specs.declared.Settings.{Settings}
use Rattle.record.specs.declared.Refusal.{Refusal}
use Rattle.record.specs.declared.Refusal.TheVariants.{Full, Word, Block, Length}
use Rattle.record.specs.Record.{first_bad, records_in}
use Rattle.log_block.specs.Block.{blocks_in, block_at, first_bad_block, list_of}
use Rattle.log_block.proofs.CountLaws.{Records}
use Rattle.log_block.specs.Right.{right_log}
use Rattle.spec_index.specs.Touched.{touched_word}
use Rattle.spec_index.specs.Index.{words_up_to, word_right, index_of, first_wrong}
use Rattle.spec_index.specs.Answers.{refused, index_right, count_or_full, add_answer}
use Rattle.spec_index.proofs.IndexLaws.{words-next, length-words, words-by, right_by, kept-are, kept-most}
use Rattle.log_index.specs.Form.Fields.{fields_word}
use Rattle.log_index.proofs.words.FieldLaws.{word-said}
use Rattle.log_index.specs.Form.Room.{room_answer}
use Rattle.spec_index.specs.declared.IndexRefusal.TheVariants.{Differs, Refused}
use Rattle.spec_index.specs.declared.IndexRefusal.{IndexRefusal}

-- ---- words written in turn

-- bytes whose first ones are xs
pub splice-kept : (l xs : List ℕ) (n : ℕ) → length xs ≡ n → part l 0 n ≡ xs → l ≡ splice l 0 xs
splice-kept l xs n h e = sym (ap (λ (i : ℕ). xs ++ drop i l) (zero-add (length xs) ∙ h) ∙ ap (λ (x : List ℕ). x ++ drop n l) (sym e) ∙ take-append-drop n l)

module _ (word : List ℕ → ℕ) (log l : List ℕ) where
  pub words-turn : (k : ℕ) → 4 * k ≤ length l → splice (splice l 0 (words_up_to word log k)) (4 * k) (bytes 4 (word (block_at log k))) ≡ splice l 0 (words_up_to word log (k + 1))
  words-turn k h = rw (words-next word log k) (splice-next l (words_up_to word log k) (bytes 4 (word (block_at log k))) (4 * k) (length-words word log k) h)

-- ---- the tests of a log

-- document 01's form
pub fifteen : Records 15
fifteen = (omega arith, omega arith)

-- a log of blocks of so many records that passes 12 and 10
pub record Passed (per : ℕ) (s : Settings) (log : List ℕ) : Type 0 where
  pub right : first_bad_block per log ≡ blocks_in log
  pub good : first_bad s (list_of log) ≡ records_in (list_of log)

-- an accepted call passed each test on its way
pick-copy : (t : Bool) (x : Result ℕ Refusal) (r : Refusal) (n : ℕ) → cond t x (Err r) ≡ Ok n → (t ≡ true) × (x ≡ Ok n)
pick-copy true x r n e = (refl, e)
pick-copy false x r n e = absurd (let z : ◌≡◌ {A = ℕ} 0 1 = cc in omega arith)

pub right-passed : (s : Settings) (log : List ℕ) (m n : ℕ) → right_log Err 15 s log (Ok m) ≡ Ok n → Passed 15 s log
right-passed s log m n e =
    let a = pick-copy (eqb (first_bad_block 15 log) (blocks_in log)) _ (Block (first_bad_block 15 log)) n e in
    let b = pick-copy (eqb (first_bad s (list_of log)) (records_in (list_of log))) (Ok m) (Word (first_bad s (list_of log))) n a.1 in
    record { right = eqb-true _ _ a.0; good = eqb-true _ _ b.0 }

-- the same refusal, whatever comes of it
pub right-refused : (s : Settings) (log : List ℕ) (m : ℕ) (why : Refusal) (next : Result ℕ IndexRefusal) → right_log Err 15 s log (Ok m) ≡ Err why
    → right_log refused 15 s log next ≡ Err (Refused why)
right-refused s log m why next = go (eqb (first_bad_block 15 log) (blocks_in log)) (eqb (first_bad s (list_of log)) (records_in (list_of log)))
  where
    go : (a b : Bool)
        → cond a (cond b (Ok m) (Err (Word (first_bad s (list_of log))))) (Err (Block (first_bad_block 15 log))) ≡ Err why
        → cond a (cond b next (Err (Refused (Word (first_bad s (list_of log)))))) (Err (Refused (Block (first_bad_block 15 log)))) ≡ Err (Refused why)
    go true true e = absurd (let z : ◌≡◌ {A = ℕ} 0 1 = cc in omega arith)
    go true false e = cc
    go false b e = cc

pub right-next : (s : Settings) (log : List ℕ) (next : Result ℕ IndexRefusal) → Passed 15 s log → right_log refused 15 s log next ≡ next
right-next s log next p = rw (eq-eqb _ _ p.right, eq-eqb _ _ p.good)

-- ---- words read from the fields

module _ (s : Settings) (per : ℕ) (form : Records per) (log : List ℕ) (w : Bytes log) (p : Passed per s log) where
  pub words-said : words_up_to fields_word log (blocks_in log) ≡ index_of s log
  unfolding index_of
  words-said = words-by fields_word (touched_word s) log (blocks_in log) (λ k h. word-said s per form log p.right p.good w k h)

  pub wrong-said : (index : List ℕ) (n : ℕ) → first_false (word_right fields_word log index) n ≡ first_wrong s log index n
  unfolding first_wrong
  wrong-said index n =
      first-same (word_right fields_word log index) (word_right (touched_word s) log index) n
      (λ k h. right_by fields_word (touched_word s) log index k (λ l. word-said s per form log p.right p.good w k l))

  pub room-said : (kept : ℕ) (index : List ℕ) → room_answer log kept index ≡ index_right s log index kept (count_or_full (blocks_in log) (length index))
  unfolding room_answer
  room-said kept index = rw (wrong-said index kept)

-- ---- an accepted call

pub pick : (t : Bool) (x : Result ℕ IndexRefusal) (r : Refusal) (n : ℕ) → cond t x (Err (Refused r)) ≡ Ok n → (t ≡ true) × (x ≡ Ok n)
pick true x r n e = (refl, e)
pick false x r n e = absurd (let z : ◌≡◌ {A = ℕ} 0 1 = cc in omega arith)

pub pick_same : (t : Bool) (x : Result ℕ IndexRefusal) (k n : ℕ) → cond t x (Err (Differs k)) ≡ Ok n → (t ≡ true) × (x ≡ Ok n)
pick_same true x k n e = (refl, e)
pick_same false x k n e = absurd (let z : ◌≡◌ {A = ℕ} 0 1 = cc in omega arith)

pub record Added (s : Settings) (log : List ℕ) (kept : ℕ) (index : List ℕ) (n : ℕ) : Type 0 where
  pub whole : length log % 512 ≡ 0
  pub passed : Passed 15 s log
  pub same : first_wrong s log index kept ≡ kept
  pub room-enough : 4 * blocks_in log ≤ length index
  pub count-is : n ≡ blocks_in log

pub added : (s : Settings) (log : List ℕ) (kept : ℕ) (index : List ℕ) (n : ℕ) → add_answer s log kept index ≡ Ok n → Added s log kept index n
unfolding add_answer
added s log kept index n e =
    let a = pick (eqb (length log % 512) 0) _ Length n e in
    let b = pick (eqb (first_bad_block 15 log) (blocks_in log)) _ (Block (first_bad_block 15 log)) n a.1 in
    let c = pick (eqb (first_bad s (list_of log)) (records_in (list_of log))) _ (Word (first_bad s (list_of log))) n b.1 in
    let d = pick_same (eqb (first_wrong s log index kept) kept) _ (first_wrong s log index kept) n c.1 in
    let f = pick (leb (blocks_in log) (length index / 4)) (Ok (blocks_in log)) Full n d.1 in
    let g : blocks_in log ≤ length index / 4 = leb-true _ _ f.0 in
    record {
      whole = eqb-true _ 0 a.0;
      passed = record { right = eqb-true _ _ b.0; good = eqb-true _ _ c.0 };
      same = eqb-true _ _ d.0;
      room-enough = omega arith;
      count-is = cc f.1;
    }

-- the words that are kept, as the fields say them
pub kept-said : (s : Settings) (per : ℕ) → Records per → (log : List ℕ) (kept : ℕ) (index : List ℕ) → Bytes log → Bytes index → Passed per s log
    → first_wrong s log index kept ≡ kept → part index 0 (4 * kept) ≡ words_up_to fields_word log kept
kept-said s per form log kept index w v p same =
    let m = kept-most s log index kept same in
    kept-are s log index kept v same
    ∙ sym (words-by fields_word (touched_word s) log kept (λ k h. word-said s per form log p.right p.good w k (omega arith)))
