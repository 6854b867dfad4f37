-- The two round trips of the calls: what was encoded is decoded, and an accepted log encodes back to the same bytes. A
-- refused call changes no lent buffer.
-- Assumes nothing.
use Rattle.std.specs.Prelude.{Err, Ok}
use Prim.Native.Nat.{ℕ, ◌+◌, ◌*◌, ◌/◌, ◌<◌, ◌≤◌}
use mathlib.Core.Path.{◌≡◌}
use mathlib.Core.List.{List}
use native.Mathlib.Omega.{arith}
use borrow.Author.Tests.{eq-eqb, le-leb}
use lib.ListN.{length}
use Rattle.num.specs.Bytes.{splice, Bytes}
use Rattle.settings.specs.declared.Settings.{Settings}
use Rattle.record.specs.declared.Refusal.{Refusal}
use Rattle.record.specs.Record.{records_in}
use Rattle.log_block.specs.Block.{log_of, block_at, stamp_of, blocks_in, list_of}
use Rattle.log_list.specs.Log.{copied, encode_answer, encode_log, decode_answer, decode_log}
use Rattle.log_block.proofs.CountLaws.{Records}
use Rattle.log_block.proofs.LogThenList.{log-whole, log-right, log-then-list}
use Rattle.log_block.proofs.ListThenLog.{list-whole, list-blocks, blocks-most, list-then-log}
use Rattle.log_list.proofs.CopyLaws.{encoded, decoded}

-- of blocks of so many records, with this stamp
module _ (per : ℕ) (stamp : List ℕ) (form : Records per) (fits : 32 * per + length stamp ≡ 480) where
  -- a list that was encoded, in however much room, is decoded from its log into any list that has room for it
  pub decode-encoded : (s : Settings) (l list : List ℕ) (room n : ℕ) → encode_answer per s l room ≡ Ok n → length l ≤ length list
      → (decode_answer per s (log_of per stamp l) (length list) ≡ Ok (records_in l)) × (decode_log per s (log_of per stamp l) list ≡ splice list 0 l)
  unfolding decode_answer decode_log copied
  decode-encoded s l list room n e h =
      let t = encoded per s l room n e in
      let same = log-then-list per stamp form.0 fits l t.whole in
      let a : decode_answer per s (log_of per stamp l) (length list) ≡ Ok (records_in l) =
      rw (
        same,
        eq-eqb _ 0 (log-whole per stamp form.0 fits l),
        eq-eqb _ _ (log-right per stamp form.0 fits l t.whole t.number_fits),
        eq-eqb _ _ t.good,
        le-leb (records_in l) (length list / 32) (omega arith),
      )
      in
      (a, rw (a, same))

  -- a log that was decoded, into however much room, and whose blocks have this stamp, is encoded from its list into any log that has
  -- room for it
  pub encode-decoded : (s : Settings) (log l : List ℕ) (room n : ℕ) → Bytes log → decode_answer per s log room ≡ Ok n → length log ≤ length l
      → ((k : ℕ) → k < blocks_in log → stamp_of per (block_at log k) ≡ stamp)
      → (encode_answer per s (list_of log) (length l) ≡ Ok (blocks_in log)) × (encode_log per stamp s (list_of log) l ≡ splice l 0 log)
  unfolding encode_answer encode_log copied
  encode-decoded s log l room n w e h stamps =
      let t = decoded per s log room n e in
      let most = blocks-most per form log t.right w in
      let a : encode_answer per s (list_of log) (length l) ≡ Ok (blocks_in log) =
      rw (
        eq-eqb _ 0 (list-whole per form log t.right),
        eq-eqb _ _ t.good,
        list-blocks per form log t.right,
        le-leb (blocks_in log) (length l / 512) (omega arith),
        le-leb (blocks_in log) _ most,
      )
      in
      (a, rw (a, list-then-log per form log t.right w stamp stamps t.whole))

  -- "a refusal changes no lent buffer"
  pub encode-refused : (s : Settings) (l log : List ℕ) (r : Refusal) → encode_answer per s l (length log) ≡ Err r → encode_log per stamp s l log ≡ log
  unfolding encode_log copied
  encode-refused s l log r e = rw e

  pub decode-refused : (s : Settings) (log list : List ℕ) (r : Refusal) → decode_answer per s log (length list) ≡ Err r → decode_log per s log list ≡ list
  unfolding decode_log copied
  decode-refused s log list r e = rw e
