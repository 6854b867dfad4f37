-- The promises of the calls on an index.
-- Assumes nothing.
use Rattle.std.specs.Prelude.{Err, None, Ok, Option, Result, Some}
use Prim.Native.Nat.{ℕ, zero, suc, ◌+◌, ◌*◌, ◌%◌, ◌<◌, ◌≤◌}
use mathlib.Core.Path.{◌≡◌, refl, sym, ap, ◌∙◌}
use mathlib.Core.List.{List, ◌++◌}
use mathlib.Core.Logic.{⊎_elim}
use native.Mathlib.Nat.{eq-or-lt_of_le, le_of_suc-le-suc}
use native.Mathlib.Omega.{arith}
use borrow.Author.Tests.{eqb-true}
use lib.Dec.{eqb}
use lib.ListN.{length, take, drop}
use Rattle.num.specs.Bytes.{bytes, part, splice, Bytes}
use Rattle.num.proofs.PartLaws.{part_left, part-all}
use Rattle.settings.specs.declared.Settings.{Settings}
use Rattle.settings.specs.Settings.{settings_read}
use Rattle.record.specs.declared.Refusal.TheVariants as refusal
use Rattle.record.proofs.RefusalLaws.{refused-number}
use Rattle.log_block.specs.Block.{blocks_in, block_at}
use Rattle.spec_calls.specs.Settings.{by_settings, under_settings}
use Rattle.spec_index.specs.Touched.{touched_word}
use Rattle.num.specs.Marks.{count_up_to}
use Rattle.spec_index.specs.Index.{index_words, words_up_to, index_of}
use Rattle.spec_index.specs.Query.{queried, scanned, has_bit}
use Rattle.spec_index.specs.Answers.{lent_after, add_answer, beside_answer, query_answer}
use Rattle.spec_index.proofs.IndexLaws.{length-words, kept-are, kept-most, passes-is}
use Rattle.spec_index.proofs.ListLaws.{length-listed}
use Rattle.spec_index.proofs.QueryLaws.{query-is-scan, scan-lists}
use Rattle.log_index.proofs.make.MakeLaws.{fifteen, pick, added}
use Rattle.log_index.proofs.query.QueryLaws.{Queried, query-passed, beside-passed}
use Rattle.calls_index.specs.Results.{index_answer, IndexResult, index_by, index_add_call, index_query_call, checked_answer, index_check_call}
use Rattle.calls_index.specs.Theorems.{RefusedIndexCalls, IndexCalls}
use Rattle.spec_index.specs.declared.IndexRefusal.TheVariants.{Differs, Refused}
use Rattle.spec_index.specs.declared.IndexRefusal.{IndexRefusal}

-- ---- refused calls

pub kept_by : (lent new : List ℕ) (x : Result ℕ IndexRefusal) → ((index_answer x).number ≡ 0 → ⊥) → lent_after x new lent ≡ lent
unfolding index_answer lent_after
kept_by lent new (Err (Refused why)) n = refl
kept_by lent new (Err (Differs k)) n = refl
kept_by lent new (Ok k) n = absurd (n refl)

kept_under : (settings lent : List ℕ) (answer : Settings → Result ℕ IndexRefusal) (new : Settings → List ℕ)
    → let x : IndexResult = under_settings settings (λ why. index_by lent (Err (Refused why)) lent) (λ s. index_by lent (answer s) (new s)) in
    (x.answer.number ≡ 0 → ⊥) → x.lent ≡ lent
unfolding under_settings
kept_under settings lent answer new = go (settings_read settings)
  where
    go : (r : Option Settings) → let x : IndexResult = by_settings r (λ why. index_by lent (Err (Refused why)) lent) (λ s. index_by lent (answer s) (new s)) in
        (x.answer.number ≡ 0 → ⊥) → x.lent ≡ lent
    go None n = kept_by lent lent (Err (Refused refusal.Settings)) n
    go (Some s) n = kept_by lent (new s) (answer s) n

pub refused-index-calls : RefusedIndexCalls
unfolding index_add_call index_query_call
refused-index-calls =
    record {
      add = λ settings log kept index. kept_under settings index (λ s. add_answer s log kept index) (λ s. index_of s log);
      query = λ settings log index bank out. kept_under settings out (λ s. query_answer s log index bank (length out)) (λ s. queried index bank);
    }

-- ---- accepted calls

counted : (x : Result ℕ IndexRefusal) → (index_answer x).number ≡ 0 → (n : ℕ) × (x ≡ Ok n)
unfolding index_answer
counted (Err (Refused why)) e = absurd (refused-number why e)
counted (Err (Differs k)) e = absurd (omega arith)
counted (Ok n) e = (n, refl)

-- the first words of an index are those of the first blocks
words-front : (word : List ℕ → ℕ) (log : List ℕ) (n k : ℕ) → k ≤ n → part (words_up_to word log n) 0 (4 * k) ≡ words_up_to word log k
unfolding words_up_to
words-front word log zero k h =
    let e : k ≡ 0 = omega arith in
    rw e refl
words-front word log (suc n) k h =
    ⊎_elim
    (λ e. let l = length-words word log (suc n) in rw e (part-all (words_up_to word log (suc n)) (4 * suc n) (omega arith)))
    (λ m. let l = length-words word log n in part_left (words_up_to word log n) (bytes 4 (word (block_at log n))) 0 (4 * k) (omega arith) ∙ words-front word log n k (le_of_suc-le-suc m))
    (eq-or-lt_of_le h)

queried-length : (index : List ℕ) (bank : ℕ) → length (queried index bank) ≡ 4 * count_up_to (has_bit index bank) (index_words index)
unfolding queried
queried-length index bank = length-listed (has_bit index bank) (index_words index)

module _ (settings : List ℕ) (s : Settings) (says : settings_read settings ≡ Some s) where
  add_is : (log : List ℕ) (kept : ℕ) (index : List ℕ) → index_add_call settings log kept index ≡ index_by index (add_answer s log kept index) (index_of s log)
  unfolding index_add_call under_settings
  add_is log kept index = rw says

  query-is : (log index : List ℕ) (bank : ℕ) (out : List ℕ) → index_query_call settings log index bank out ≡ index_by out (query_answer s log index bank (length out)) (queried index bank)
  unfolding index_query_call under_settings
  query-is log index bank out = rw says

  made : (log : List ℕ) (kept : ℕ) (index : List ℕ) → (index_add_call settings log kept index).answer.number ≡ 0
      → (index_add_call settings log kept index).lent ≡ splice index 0 (index_of s log)
  unfolding lent_after
  made log kept index e =
      let i = add_is log kept index in
      let n = counted (add_answer s log kept index) (rw i at e) in
      rw (i, n.1)

  stays : (log : List ℕ) (kept : ℕ) (index : List ℕ) → Bytes index → (index_add_call settings log kept index).answer.number ≡ 0
      → take (4 * kept) (index_add_call settings log kept index).lent ≡ take (4 * kept) index
  unfolding index_of
  stays log kept index w e =
      let n = counted (add_answer s log kept index) (rw (add_is log kept index) at e) in
      let a = added s log kept index n.0 n.1 in
      let m = kept-most s log index kept a.same in
      let l = length-words (touched_word s) log (blocks_in log) in
      ap (take (4 * kept)) (made log kept index e)
      ∙ part_left (index_of s log) (drop (0 + length (index_of s log)) index) 0 (4 * kept) (omega arith)
      ∙ words-front (touched_word s) log (blocks_in log) kept m
      ∙ sym (kept-are s log index kept w a.same)

  asked : (log index : List ℕ) (bank : ℕ) (out : List ℕ) → (index_query_call settings log index bank out).answer.number ≡ 0
      → (n : ℕ) × (query_answer s log index bank (length out) ≡ Ok n)
  asked log index bank out e = counted (query_answer s log index bank (length out)) (rw (query-is log index bank out) at e)

  scan : (log index : List ℕ) (bank : ℕ) (out : List ℕ) → Bytes index → (index_query_call settings log index bank out).answer.number ≡ 0
      → ((index_query_call settings log index bank out).lent ≡ splice out 0 (scanned s log bank))
      × (4 * (index_query_call settings log index bank out).answer.count ≡ length (scanned s log bank))
  unfolding lent_after index_answer
  scan log index bank out w e =
      let n = asked log index bank out e in
      let q = query-passed s log index bank (length out) n.0 n.1 in
      let same = passes-is s log index w q.words q.beside.same in
      let found : queried index bank ≡ scanned s log bank = ap (λ (x : List ℕ). queried x bank) same ∙ query-is-scan s log bank q.bank-right in
      let long : length (queried index bank) ≡ 4 * n.0 = queried-length index bank ∙ ap (λ (x : ℕ). 4 * x) (sym q.count-is) in
      (rw (query-is log index bank out, n.1, found), rw (query-is log index bank out, n.1) (sym long ∙ ap length found))

  passes : (log index : List ℕ) → Bytes index → (index_check_call settings log index).number ≡ 0 → index ≡ index_of s log
  unfolding index_check_call under_settings checked_answer beside_answer
  passes log index w e =
      let n = counted (checked_answer s log index) (rw says at e) in
      let a = pick (eqb (length log % 512) 0) _ refusal.Length n.0 n.1 in
      let b = pick (eqb (length index % 4) 0) _ refusal.Length n.0 a.1 in
      let c = beside-passed s log index _ n.0 b.1 in
      passes-is s log index w (eqb-true _ 0 b.0) c.0.same

  pub index-calls : IndexCalls settings s says
  index-calls =
      record {
        made = made;
        stays = stays;
        scan = scan;
        lists = λ log index bank out w e.
            let n = asked log index bank out e in
            scan-lists s 15 fifteen log bank w (query-passed s log index bank (length out) n.0 n.1).beside.passed.right;
        passes = passes;
      }
