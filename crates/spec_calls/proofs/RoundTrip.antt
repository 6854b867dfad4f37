-- The two round trips of the calls on logs: those of accepted settings (log/proofs/RoundTrip.antt), with the settings read from bytes
-- and the answers in numbers.
-- Assumes nothing.
use Rattle.std.specs.Prelude.{Err, None, Ok, Option, Result, Some}
use Prim.Native.Nat.{ℕ, ◌*◌, ◌/◌}
use mathlib.Core.Path.{◌≡◌, refl, sym, ap, ◌∙◌}
use mathlib.Core.List.{List, []}
use native.Mathlib.Omega.{arith}
use lib.ListN.{length, take}
use Rattle.num.proofs.SpliceLaws.{part-splice}
use Rattle.settings.specs.declared.Settings.{Settings}
use Rattle.settings.specs.Settings.{settings_read}
use Rattle.record.specs.declared.Refusal.TheVariants as refusal
use Rattle.record.proofs.RefusalLaws.{refused-number}
use Rattle.log_list.specs.Log.{copied, encode_answer, decode_answer}
use Rattle.log_list.proofs.CopyLaws.{encoded, decoded}
use Rattle.log_list.proofs.RoundTrip.{decode-encoded, encode-decoded}
use Rattle.log_block.specs.Block.{log_of, list_of}
use Rattle.log_block.proofs.CountLaws.{Records}
use Rattle.log_block.proofs.LogThenList.{log-length, log-then-list}
use Rattle.log_block.proofs.ListThenLog.{list-whole, list-then-log}
use Rattle.spec_calls.specs.Settings.{under_settings}
use Rattle.spec_calls.specs.Logs.{copy_answer, CopyResult, copy_by, copy_call, log_encode_call, log_decode_call}
use Rattle.spec_calls.specs.RoundTrip.{blocks_written, records_written, LogRoundTrips}
use Rattle.record.specs.declared.Refusal.{Refusal}

-- a call under settings that are accepted, and its count
pub record Copies (answer : Settings → Result ℕ Refusal) (settings : List ℕ) : Type 0 where
  pub s : Settings
  pub read : settings_read settings ≡ Some s
  pub count : ℕ
  pub is : answer s ≡ Ok count

module _ (new lent : List ℕ) (answer : Settings → Result ℕ Refusal) (settings : List ℕ) where
  -- number 0 is that of no refusal
  copies : (copy_call new lent answer settings).answer.number ≡ 0 → Copies answer settings
  unfolding under_settings copy_answer copy_call
  copies e = go (settings_read settings) refl
    where
      made : (s : Settings) → settings_read settings ≡ Some s → (a : Result ℕ Refusal) → answer s ≡ a → (copy_answer a).number ≡ 0 → Copies answer settings
      made s r (Err why) h n = absurd (refused-number why n)
      made s r (Ok k) h n = record { s = s; read = r; count = k; is = h }

      go : (x : Option Settings) → settings_read settings ≡ x → Copies answer settings
      go None r = absurd (refused-number refusal.Settings (rw r at e))
      go (Some s) r = made s r (answer s) refl (rw r at e)

  result-is : (c : Copies answer settings) → copy_call new lent answer settings ≡ copy_by new lent (Ok c.count)
  unfolding under_settings copy_call
  result-is c = rw (c.read, c.is)

  -- what was written to the start of the lent buffer, of so many bytes for each block or record
  written : (size : ℕ) (c : Copies answer settings) → length new ≡ size * c.count
      → take (size * (copy_call new lent answer settings).answer.count) (copy_call new lent answer settings).lent ≡ new
  unfolding copied copy_answer
  written size c l = rw (result-is c) (part-splice lent 0 new (size * c.count) l (omega arith))

-- document 01's form
fifteen : Records 15
fifteen = (omega arith, omega arith)

module _ (settings : List ℕ) where
  blocks-are : (list log : List ℕ) → Copies (λ s. encode_answer 15 s list (length log)) settings → blocks_written (log_encode_call settings list log) ≡ log_of 15 [] list
  unfolding blocks_written log_encode_call
  blocks-are list log c =
      let t = encoded 15 c.s list (length log) c.count c.is in
      written (log_of 15 [] list) log (λ s. encode_answer 15 s list (length log)) settings 512 c (log-length 15 [] (omega arith) refl list ∙ ap (λ n. 512 * n) (sym t.count-is))

  records-are : (log list : List ℕ) → Copies (λ s. decode_answer 15 s log (length list)) settings → records_written (log_decode_call settings log list) ≡ list_of log
  unfolding records_written log_decode_call
  records-are log list c =
      let t = decoded 15 c.s log (length list) c.count c.is in
      written (list_of log) list (λ s. decode_answer 15 s log (length list)) settings 32 c (omega (arith, list-whole 15 fifteen log t.right, t.count-is))

pub log-round-trips : LogRoundTrips
unfolding copy_answer log_encode_call log_decode_call
log-round-trips =
    record {
      list_back = λ settings list log room e h.
          let c = copies (log_of 15 [] list) log (λ s. encode_answer 15 s list (length log)) settings e in
          let t = decode-encoded 15 [] fifteen refl c.s list room (length log) c.count c.is h in
          let d : Copies (λ s. decode_answer 15 s (log_of 15 [] list) (length room)) settings = record { s = c.s; read = c.read; count = length list / 32; is = t.0 } in
          rw (blocks-are settings list log c) (
            ap (λ (x : CopyResult). x.answer) (result-is (list_of (log_of 15 [] list)) room (λ s. decode_answer 15 s (log_of 15 [] list) (length room)) settings d),
            records-are settings (log_of 15 [] list) room d ∙ log-then-list 15 [] (omega arith) refl list (encoded 15 c.s list (length log) c.count c.is).whole,
          );
      log_back = λ settings log list room w e h.
          let c = copies (list_of log) list (λ s. decode_answer 15 s log (length list)) settings e in
          let k = decoded 15 c.s log (length list) c.count c.is in
          let t = encode-decoded 15 [] fifteen refl c.s log room (length list) c.count w c.is h (λ k l. refl) in
          let d : Copies (λ s. encode_answer 15 s (list_of log) (length room)) settings = record { s = c.s; read = c.read; count = length log / 512; is = t.0 } in
          rw (records-are settings log list c) (
            ap (λ (x : CopyResult). x.answer) (result-is (log_of 15 [] (list_of log)) room (λ s. encode_answer 15 s (list_of log) (length room)) settings d),
            blocks-are settings (list_of log) room d ∙ list-then-log 15 fifteen log k.right w [] (λ k l. refl) k.whole,
          );
    }
