-- The calls on logs that carry their settings, together: round trips, the check and the index.
-- Assumes nothing.
use Rattle.std.specs.Prelude.{Err, None, Ok, Option, Result, Some}
use Prim.Native.Nat.{ℕ, zero, suc, ◌+◌, ◌*◌, ◌/◌, ◌%◌, ◌^◌, ◌<◌, ◌≤◌}
use mathlib.Core.Path.{◌≡◌, refl, sym, ◌∙◌, ap}
use mathlib.Core.Bool.{cond}
use mathlib.Core.List.{List, []}
use native.Mathlib.Omega.{arith}
use borrow.Author.Tests.{eq-eqb}
use lib.ListN.{length, take}
use Rattle.num.specs.Bytes.{splice, Bytes}
use Rattle.num.specs.Search.{first_false}
use Rattle.num.proofs.SpliceLaws.{part-splice}
use Rattle.settings.specs.declared.Settings.{Settings}
use Rattle.settings.specs.Settings.{settings_read}
use Rattle.record.specs.declared.Record.{Record}
use Rattle.record.specs.declared.Refusal.TheVariants as refusal
use Rattle.record.specs.Record.{first_bad, records_in}
use Rattle.record.proofs.RefusalLaws.{refused-number}
use Rattle.log_block.specs.Block.{block_count, log_of, blocks_in, list_of}
use Rattle.log_block.proofs.LogThenList.{log-length, log-blocks}
use Rattle.log_block.proofs.ListThenLog.{list-none, list-whole}
use Rattle.log_list.specs.Log.{copied, encode_answer}
use Rattle.log_list.proofs.CopyLaws.{encoded}
use Rattle.spec_index.specs.Index.{index_of, words_up_to}
use Rattle.spec_index.specs.Answers.{lent_after}
use Rattle.spec_rules.specs.Neighbour.{Context, context_of}
use Rattle.spec_rules.specs.Broken.{first_broken}
use Rattle.spec_check.specs.Check.{records_up_to, records_of, rule_answer, records_answer, list_answer}
use Rattle.spec_calls.specs.Settings.{under_settings}
use Rattle.spec_calls.specs.Checks.{check_answer, check_call}
use Rattle.spec_calls.specs.Logs.{copy_answer, CopyResult, copy_by, copy_call}
use Rattle.spec_calls.specs.RoundTrip.{blocks_written, records_written, Counts}
use Rattle.log_stamp.specs.Stamp.{stamp_at, settings_of}
use Rattle.log_stamp.specs.Copy.{stamped_decode_answer, stamp_answer, unstamp_answer}
use Rattle.log_stamp.proofs.StampLaws.{fourteen, right-next}
use Rattle.log_stamp.proofs.CopyLaws.{Stamped, stamped, unstamped, decoded}
use Rattle.calls_index.specs.Results.{index_answer, index_by}
use Rattle.calls_stamp.specs.Results.{stamped_encode_call, stamped_decode_call, stamp_call, unstamp_call, stamped_answer, stamped_check_call, stamped_index_answer, stamped_index_call}
use Rattle.calls_stamp.specs.Theorems.{Carries, StampedCalls}
use Rattle.calls_stamp.proofs.TripLaws.{fifteen, accepted-is, made-settings, made_list, made-passed, made-whole, decodes, moves-back, moved_back, made_again, encodes, moves-again, moved-again}
use Rattle.spec_index.specs.declared.IndexRefusal.TheVariants.{Differs, Refused}
use Rattle.record.specs.declared.Refusal.{Refusal}
use Rattle.spec_index.specs.declared.IndexRefusal.{IndexRefusal}

-- ---- accepted calls

record Counted (a : Result ℕ Refusal) : Type 0 where
  n : ℕ
  is : a ≡ Ok n

counted : (a : Result ℕ Refusal) → (copy_answer a).number ≡ 0 → Counted a
unfolding copy_answer
counted (Err why) e = absurd (refused-number why e)
counted (Ok k) e = record { n = k; is = refl }

record Under (answer : Settings → Result ℕ Refusal) (settings : List ℕ) : Type 0 where
  s : Settings
  says : settings_read settings ≡ Some s
  made : Counted (answer s)

module _ (new lent : List ℕ) where
  under : (answer : Settings → Result ℕ Refusal) (settings : List ℕ) → (copy_call new lent answer settings).answer.number ≡ 0 → Under answer settings
  unfolding under_settings copy_call copy_answer
  under answer settings e = go (settings_read settings) refl
    where
      go : (x : Option Settings) → settings_read settings ≡ x → Under answer settings
      go None r = absurd (refused-number refusal.Settings (rw r at e))
      go (Some s) r = record { s = s; says = r; made = counted (answer s) (rw r at e) }

  call-is : (answer : Settings → Result ℕ Refusal) (settings : List ℕ) (s : Settings) → settings_read settings ≡ Some s → copy_call new lent answer settings ≡ copy_by new lent (answer s)
  unfolding under_settings copy_call
  call-is answer settings s r = rw r

  -- what was written to the start of the lent buffer, of so many bytes for each block or record
  written : (size n : ℕ) (a : Result ℕ Refusal) → a ≡ Ok n → length new ≡ size * n
      → take (size * (copy_by new lent a).answer.count) (copy_by new lent a).lent ≡ new
  unfolding copied copy_answer
  written size n a e l = rw e (part-splice lent 0 new (size * n) l (omega arith))

  answers : (n : ℕ) (a : Result ℕ Refusal) → a ≡ Ok n → Counts (copy_by new lent a) n
  unfolding copy_answer
  answers n a e = rw e

-- ---- what each call has written

module _ (settings : List ℕ) (s : Settings) (says : settings_read settings ≡ Some s) where
  fits : 32 * 14 + length settings ≡ 480
  fits = let e = (accepted-is settings s says).0 in omega arith

  encoded-blocks : (list log : List ℕ) (n : ℕ) → encode_answer 14 s list (length log) ≡ Ok n → blocks_written (stamped_encode_call settings list log) ≡ log_of 14 settings list
  unfolding blocks_written stamped_encode_call
  encoded-blocks list log n e =
      let c = (encoded 14 s list (length log) n e).count-is in
      let l = log-length 14 settings (omega arith) fits list in
      rw (call-is (log_of 14 settings list) log (λ s. encode_answer 14 s list (length log)) settings s says)
      (written (log_of 14 settings list) log 512 n _ e (l ∙ ap (λ (x : ℕ). 512 * x) (sym c)))

  stamped-blocks : (old out : List ℕ) (n : ℕ) → stamp_answer s old (length out) ≡ Ok n → blocks_written (stamp_call settings old out) ≡ log_of 14 settings (list_of old)
  unfolding blocks_written stamp_call
  stamped-blocks old out n e =
      let c = (stamped s old (length out) n e).fits.count-is in
      let l = log-length 14 settings (omega arith) fits (list_of old) in
      rw (call-is (log_of 14 settings (list_of old)) out (λ s. stamp_answer s old (length out)) settings s says)
      (written (log_of 14 settings (list_of old)) out 512 n _ e (l ∙ ap (λ (x : ℕ). 512 * x) (sym c)))

unstamped-blocks : (log out : List ℕ) (n : ℕ) → unstamp_answer log (length out) ≡ Ok n → blocks_written (unstamp_call log out) ≡ log_of 15 [] (list_of log)
unfolding blocks_written unstamp_call
unstamped-blocks log out n e =
    let c = (unstamped log (length out) n e).fits.count-is in
    let l = log-length 15 [] (omega arith) refl (list_of log) in
    written (log_of 15 [] (list_of log)) out 512 n _ e (l ∙ ap (λ (x : ℕ). 512 * x) (sym c))

decoded-records : (log list : List ℕ) (n : ℕ) → stamped_decode_answer log (length list) ≡ Ok n → records_written (stamped_decode_call log list) ≡ list_of log
unfolding records_written stamped_decode_call
decoded-records log list n e =
    let d = decoded log (length list) n e in
    let w = list-whole 14 fourteen log d.passed.right in
    let c = d.count-is in
    written (list_of log) list 32 n _ e (omega arith)

-- ---- the check

-- no record breaks no rule
none-broken : (cx : Context) (s : Settings) (l : List ℕ) → l ≡ [] → rule_answer cx (records_of s l) ≡ (Ok tt)
unfolding rule_answer records_of records_up_to first_broken first_false
none-broken cx s l e = rw e

check-same : (settings list log : List ℕ) (s : Settings) → settings_read settings ≡ Some s → (n : ℕ) → encode_answer 14 s list (length log) ≡ Ok n
    → stamped_answer (log_of 14 settings list) ≡ list_answer (context_of s) list
unfolding stamped_answer list_answer records_answer context_of
check-same settings list log s says n e =
    let t = encoded 14 s list (length log) n e in
    let new : List ℕ = log_of 14 settings list in
    let p = made-passed settings s says list t.whole t.good t.number_fits in
    rw (
      eq-eqb _ 0 (made-whole settings s says list t.whole),
      right-next Err new (λ x. rule_answer (context_of x) (records_of x (list_of new))) p,
      eq-eqb _ 0 t.whole,
      eq-eqb _ _ t.good,
      made_list settings s says list t.whole,
    )
    (go t.whole (blocks_in new) refl)
  where
    go : length list % 32 ≡ 0 → (m : ℕ) → blocks_in (log_of 14 settings list) ≡ m
        → rule_answer (context_of (settings_of (log_of 14 settings list))) (records_of (settings_of (log_of 14 settings list)) list) ≡ rule_answer (context_of s) (records_of s list)
    go w zero e =
        let none : list ≡ [] = sym (made_list settings s says list w) ∙ list-none (log_of 14 settings list) e in
        none-broken (context_of (settings_of (log_of 14 settings list))) (settings_of (log_of 14 settings list)) list none ∙ sym (none-broken (context_of s) s list none)
    go w (suc m) e = ap (λ (x : Settings). rule_answer (context_of x) (records_of x list)) (made-settings settings s says list w (omega arith))

-- ---- the index

-- an empty log has an empty index, whatever the settings
none-indexed : (s t : Settings) (log : List ℕ) → blocks_in log ≡ 0 → index_of s log ≡ index_of t log
unfolding index_of words_up_to
none-indexed s t log e = rw e

index-lent : (x : Result ℕ IndexRefusal) (new old : List ℕ) → (index_answer x).number ≡ 0 → lent_after x new old ≡ splice old 0 new
unfolding index_answer lent_after
index-lent (Err (Refused why)) new old e = absurd (refused-number why e)
index-lent (Err (Differs k)) new old e = absurd (omega arith)
index-lent (Ok n) new old e = refl

moved-index : (settings old : List ℕ) (s : Settings) → settings_read settings ≡ Some s → length (list_of old) % 32 ≡ 0 → (m : ℕ)
    → blocks_in (log_of 14 settings (list_of old)) ≡ m
    → index_of (settings_of (log_of 14 settings (list_of old))) (log_of 14 settings (list_of old)) ≡ index_of s (log_of 14 settings (list_of old))
moved-index settings old s says w zero e = none-indexed (settings_of (log_of 14 settings (list_of old))) s (log_of 14 settings (list_of old)) e
moved-index settings old s says w (suc m) e = ap (λ (x : Settings). index_of x (log_of 14 settings (list_of old))) (made-settings settings s says (list_of old) w (omega arith))

pub stamped-calls : StampedCalls
unfolding stamped_encode_call stamped_decode_call stamp_call unstamp_call stamped_check_call check_call stamped_index_call under_settings
stamped-calls =
    record {
      list_back = λ settings list log room e h.
          let u = under (log_of 14 settings list) log (λ s. encode_answer 14 s list (length log)) settings e in
          let t = encoded 14 u.s list (length log) u.made.n u.made.is in
          let d = decodes settings u.s u.says list t.whole t.good t.number_fits (length room) h in
          rw (encoded-blocks settings u.s u.says list log u.made.n u.made.is) (
            answers (list_of (log_of 14 settings list)) room (records_in list) _ d,
            decoded-records (log_of 14 settings list) room (records_in list) d ∙ made_list settings u.s u.says list t.whole,
          );
      log_back = λ settings log list room s says carries w e h.
          let c = counted (stamped_decode_answer log (length list)) e in
          let k = decoded log (length list) c.n c.is in
          let t = encodes settings s says log carries w k.whole k.passed (length room) h in
          rw (decoded-records log list c.n c.is) (
            ap (λ (x : CopyResult). x.answer) (call-is (log_of 14 settings (list_of log)) room (λ s. encode_answer 14 s (list_of log) (length room)) settings s says)
                ∙ answers (log_of 14 settings (list_of log)) room (blocks_in log) _ t,
            encoded-blocks settings s says (list_of log) room (blocks_in log) t ∙ made_again settings s says log carries w k.whole k.passed,
          );
      old-new-old = λ settings log out room w e h.
          let u = under (log_of 14 settings (list_of log)) out (λ s. stamp_answer s log (length out)) settings e in
          let t = stamped u.s log (length out) u.made.n u.made.is in
          let b = moves-back settings u.s u.says log w t.whole t.right t.good t.fits.number_fits (length room) h in
          rw (stamped-blocks settings u.s u.says log out u.made.n u.made.is) (
            answers (log_of 15 [] (list_of (log_of 14 settings (list_of log)))) room (blocks_in log) _ b,
            unstamped-blocks (log_of 14 settings (list_of log)) room (blocks_in log) b
                ∙ moved_back settings u.s u.says log w t.whole t.right t.good t.fits.number_fits,
          );
      new-old-new = λ settings log out room s says carries w e h.
          let c = counted (unstamp_answer log (length out)) e in
          let k = unstamped log (length out) c.n c.is in
          let t = moves-again settings s says log carries w k.whole k.passed k.fits.number_fits (length room) h in
          rw (unstamped-blocks log out c.n c.is) (
            ap (λ (x : CopyResult). x.answer) (call-is (log_of 14 settings (list_of (log_of 15 [] (list_of log)))) room (λ s. stamp_answer s (log_of 15 [] (list_of log)) (length room)) settings s says)
                ∙ answers (log_of 14 settings (list_of (log_of 15 [] (list_of log)))) room (blocks_in log) _ t,
            stamped-blocks settings s says (log_of 15 [] (list_of log)) room (blocks_in log) t
                ∙ moved-again settings s says log carries w k.whole k.passed k.fits.number_fits,
          );
      check-is = λ settings list log e.
          let u = under (log_of 14 settings list) log (λ s. encode_answer 14 s list (length log)) settings e in
          rw (encoded-blocks settings u.s u.says list log u.made.n u.made.is, u.says)
          (ap check_answer (check-same settings list log u.s u.says u.made.n u.made.is));
      index_is = λ settings log out index s says e i.
          let u = under (log_of 14 settings (list_of log)) out (λ s. stamp_answer s log (length out)) settings e in
          let same : u.s ≡ s = (accepted-is settings u.s u.says).1 ∙ sym (accepted-is settings s says).1 in
          let b = stamped-blocks settings u.s u.says log out u.made.n u.made.is in
          let w = list-whole 15 fifteen log (stamped u.s log (length out) u.made.n u.made.is).right in
          let new : List ℕ = log_of 14 settings (list_of log) in
          rw b
          (index-lent (stamped_index_answer new 0 index) (index_of (settings_of new) new) index (rw b at i)
          ∙ ap (splice index 0) (moved-index settings log s says w (blocks_in new) refl));
    }
