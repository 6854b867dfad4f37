-- The fields of a record say the bank that it names.
-- Assumes nothing.
use Rattle.std.specs.Prelude.{None, Option, Some}
use Prim.Native.Nat.{ℕ, zero, suc, ◌+◌, ◌*◌, ◌/◌, ◌%◌, ◌^◌, ◌<◌, ◌≤◌}
use mathlib.Core.Path.{◌≡◌, refl, sym, ap, ap₂, ◌∙◌}
use mathlib.Core.Bool.{Bool, true, false, cond, not, ◌&&◌, ◌||◌, true≢false}
use mathlib.Core.List.{List}
use native.Mathlib.Omega.{arith}
use borrow.Author.Tests.{eqb-true, eq-eqb}
use lib.Dec.{eqb, ltb}
use lib.ListN.{length, get_or}
use Rattle.num.specs.Bytes.{number, part, Bytes}
use Rattle.num.proofs.PartLaws.{length_part, part-part, byte_at, Bytes-part}
use Rattle.num.proofs.SearchLaws.{first-before}
use Rattle.settings.specs.declared.Settings.{Settings}
use Rattle.packet.specs.declared.RowPacket.TheVariants.{Act, Prer, Refa, Refp}
use Rattle.packet.specs.declared.ColPacket.TheVariants.{Nocop, Wr, Rd}
use Rattle.packet.specs.Row.{device_head, row_of, row_decoded}
use Rattle.packet.specs.Col.{mask_said, mask_of, col_of, col_decoded}
use Rattle.record.specs.declared.Record.TheVariants.{DataOf}
use Rattle.record.specs.Record.{is_known, row_record, col_record, record_of, record_read, well_formed, record_at, records_in, first_bad}
use Rattle.record.proofs.RecordLaws.{field_in, head_in}
use Rattle.num.proofs.bits.BitLaws.{word_same}
use Rattle.log_block.specs.Block.{used, blocks_in, block_at, first_bad_block, list_of}
use Rattle.log_block.proofs.CountLaws.{Records}
use Rattle.log_block.proofs.ListThenLog.{used-most, used-few, length-next, part-list}
use Rattle.log_block.proofs.ReadLaws.{list-within}
use Rattle.spec_index.specs.Touched.{some_up_to, row_names, col_names, names, said_names, touches, touched_word}
use Rattle.log_index.specs.Form.Fields.{fields_name, bank_field, fields_at, fields_up_to, fields_word}
use Rattle.packet.specs.declared.RowPacket.{RowPacket}
use Rattle.packet.specs.declared.ColPacket.{ColPacket}
use Rattle.record.specs.declared.Record.{Record}

none : {P : Type 0} → false ≡ true → P
none e = absurd (true≢false (sym e))

-- ---- the tests of a word, by their outcomes

row-tests : (at bank row b : ℕ) (head av low p a r : Bool)
    → let d : Option RowPacket = cond head (cond av (cond low (Some (Act bank row)) None) (cond p (Some (Prer bank)) (cond a (Some (Refa bank)) (cond r (Some (Refp bank)) None)))) None in
    is_known (row_record at d) ≡ true → said_names (row_record at d) b ≡ eqb bank b
unfolding row_record is_known said_names names row_names
row-tests at bank row b false av low p a r e = none e
row-tests at bank row b true true true p a r e = refl
row-tests at bank row b true true false p a r e = none e
row-tests at bank row b true false low true a r e = refl
row-tests at bank row b true false low false true r e = refl
row-tests at bank row b true false low false false true e = refl
row-tests at bank row b true false low false false false e = none e

row-bank : (at device rows w b : ℕ) → is_known (row_record at (row_decoded device rows w)) ≡ true
    → said_names (row_record at (row_decoded device rows w)) b ≡ eqb (w / 2 ^ 13 % 32) b
unfolding row_decoded row_of
row-bank at device rows w b e = row-tests at (w / 2 ^ 13 % 32) (w % 2 ^ 12) b (eqb (w / 2 ^ 18) (device_head device)) (eqb (w / 2 ^ 12 % 2) 1) (ltb (w % 2 ^ 12) rows) (eqb (w % 2 ^ 12) 0x600) (eqb (w % 2 ^ 12) 0x0C0) (eqb (w % 2 ^ 12) 0x540) e

col-tests : (at bank column mask b : ℕ) (head none_named zeros low w wa r ra : Bool)
    → let access : Option ColPacket =
    cond w (Some (Wr bank column mask false)) (cond wa (Some (Wr bank column mask true)) (cond r (Some (Rd bank column mask false)) (cond ra (Some (Rd bank column mask true)) None))) in
    let d : Option ColPacket = cond head (cond none_named (cond zeros (Some (Nocop mask)) None) (cond low access None)) None in
    is_known (col_record at d) ≡ true → said_names (col_record at d) b ≡ (not none_named && eqb bank b)
unfolding col_record is_known said_names names col_names
col-tests at bank column mask b false n z low w wa r ra e = none e
col-tests at bank column mask b true true true low w wa r ra e = refl
col-tests at bank column mask b true true false low w wa r ra e = none e
col-tests at bank column mask b true false z false w wa r ra e = none e
col-tests at bank column mask b true false z true true wa r ra e = refl
col-tests at bank column mask b true false z true false true r ra e = refl
col-tests at bank column mask b true false z true false false true ra e = refl
col-tests at bank column mask b true false z true false false false true e = refl
col-tests at bank column mask b true false z true false false false false e = none e

col-bank : (at device columns w b : ℕ) → is_known (col_record at (col_decoded device columns w)) ≡ true
    → said_names (col_record at (col_decoded device columns w)) b ≡ (not (eqb (w / 2 ^ 17 % 16) 0) && eqb (w / 2 ^ 29 % 32) b)
unfolding col_decoded col_of
col-bank at device columns w b e = col-tests at (w / 2 ^ 29 % 32) (w / 2 ^ 21 % 128) (mask_of (w / 2 ^ 16 % 2) (w % 2 ^ 16)) b
    ((eqb (w / 2 ^ 34) (2 ^ 5 + device) && eqb (w / 2 ^ 28 % 2) 0) && mask_said device (w / 2 ^ 16 % 2) (w % 2 ^ 16))
    (eqb (w / 2 ^ 17 % 16) 0) (eqb (w / 2 ^ 29 % 32) 0 && eqb (w / 2 ^ 21 % 128) 0) (ltb (w / 2 ^ 21 % 128) columns) (eqb (w / 2 ^ 17 % 16) 1) (eqb (w / 2 ^ 17 % 16) 5) (eqb (w / 2 ^ 17 % 16) 3) (eqb (w / 2 ^ 17 % 16) 7) e

-- ---- a record

abbrev by_fields : ℕ → ℕ → ℕ → Bool
by_fields head w b = fields_name head w && eqb (bank_field head w) b

said-none : (at x y b : ℕ) → said_names (Some (DataOf (record { 0 = at }) (record { dqa = x; dqb = y }))) b ≡ false
unfolding said_names names
said-none at x y b = refl

not_known : {P : Type 0} → is_known None ≡ true → P
unfolding is_known
not_known e = none e

of_fields : (s : Settings) (at kind w x y b : ℕ) → is_known (record_of s at kind w x y) ≡ true → said_names (record_of s at kind w x y) b ≡ by_fields kind w b
unfolding record_of
of_fields s at kind w x y b = go (eqb kind 2) refl (eqb w 0) (eqb x 0 && eqb y 0) (eqb kind 0) refl (eqb kind 1) refl
  where
    no-bank : said_names (Some (DataOf (record { 0 = at }) (record { dqa = x; dqb = y }))) b ≡ by_fields 2 w b
    no-bank = said-none at x y b

    row : Option Record
    row = row_record at (row_decoded s.device s.rows w)

    col : Option Record
    col = col_record at (col_decoded s.device s.columns w)

    dat : Option Record
    dat = Some (DataOf (record { 0 = at }) (record { dqa = x; dqb = y }))

    go : (two : Bool) → eqb kind 2 ≡ two → (z d : Bool) → (nought : Bool) → eqb kind 0 ≡ nought → (one : Bool) → eqb kind 1 ≡ one
        → let r : Option Record = cond two (cond z dat None) (cond d (cond nought row (cond one col None)) None) in
        is_known r ≡ true → said_names r b ≡ by_fields kind w b
    go true p true d nought q one o e = rw (eqb-true kind 2 p) no-bank
    go true p false d nought q one o e = not_known e
    go false p z false nought q one o e = not_known e
    go false p z true true q one o e = rw (eqb-true kind 0 q) (row-bank at s.device s.rows w b e)
    go false p z true false q true o e = rw (eqb-true kind 1 o) (col-bank at s.device s.columns w b e)
    go false p z true false q false o e = not_known e

-- the fields of a record that is one say the bank that it names
pub fields-said : (s : Settings) (l : List ℕ) (at b : ℕ) → at + 32 ≤ length l → get_or l (at + 4) 0 < 256
    → well_formed s (part l at 32) ≡ true → said_names (record_read s (part l at 32)) b ≡ fields_at l at b
unfolding well_formed record_read fields_at
fields-said s l at b h g e = go (eqb (number (part (part l at 32) 5 3)) 0) refl e
  where
    r : Option Record
    r = record_of s (number (part (part l at 32) 0 4)) (number (part (part l at 32) 4 1)) (number (part (part l at 32) 8 8)) (number (part (part l at 32) 16 8)) (number (part (part l at 32) 24 8))

    go : (t : Bool) → eqb (number (part (part l at 32) 5 3)) 0 ≡ t → is_known (cond t r None) ≡ true
        → said_names (cond t r None) b ≡ by_fields (number (part l (at + 4) 4)) (number (part l (at + 8) 8)) b
    go false q k = not_known k
    go true q k =
        let x : ℕ = number (part l (at + 4) 4) in
        let p = head_in l at x h g refl in
        let z = eqb-true (number (part (part l at 32) 5 3)) 0 q in
        let kind : number (part (part l at 32) 4 1) ≡ x = omega arith in
        of_fields s _ _ _ _ _ b k ∙ ap₂ (λ (n w : ℕ). by_fields n w b) kind (field_in l at 8 8 (omega arith))

-- ---- a block

some_same : (f g : ℕ → Bool) (n : ℕ) → ((i : ℕ) → i < n → f i ≡ g i) → some_up_to f n ≡ some_up_to g n
unfolding some_up_to
some_same f g zero h = refl
some_same f g (suc n) h = ap₂ ◌||◌ (some_same f g n (λ i l. h i (omega arith))) (h n (omega arith))

-- of a block whose used records are records
block-said : (s : Settings) (block : List ℕ) → length block ≡ 512 → Bytes block → used block ≤ 15
    → ((i : ℕ) → i < used block → well_formed s (record_at block i) ≡ true) → fields_word block ≡ touched_word s block
unfolding fields_word fields_up_to touched_word touches
block-said s block l w u formed =
    word_same (λ b. some_up_to (λ i. fields_at block (32 * i) b) (used block)) (λ b. some_up_to (λ i. said_names (record_read s (record_at block i)) b) (used block)) 32
    (λ b h. some_same (λ i. fields_at block (32 * i) b) (λ i. said_names (record_read s (record_at block i)) b) (used block)
    (λ i m. sym (fields-said s block (32 * i) b (omega arith) (byte_at block w (32 * i + 4)) (formed i m))))

-- of a log of blocks of so many records
module _ (s : Settings) (per : ℕ) (form : Records per) (log : List ℕ) (right : first_bad_block per log ≡ blocks_in log)
    (good : first_bad s (list_of log) ≡ records_in (list_of log)) where
  -- record i of block k is record per × k + i of the list that a right log keeps
  formed-at : (k : ℕ) → k < blocks_in log → (i : ℕ) → i < used (block_at log k) → well_formed s (record_at (block_at log k) i) ≡ true
  unfolding first_bad
  formed-at k h i m =
      let u = used-most per form log right k h in
      let n = length-next per form log right k h in
      let w = list-within log (k + 1) (omega arith) in
      let f = first-before (λ j. well_formed s (record_at (list_of log) j)) (records_in (list_of log)) (per * k + i) (omega arith) in
      let a : 32 * (per * k + i) ≡ 32 * (per * k) + 32 * i = omega arith in
      let z : 0 + 32 * i ≡ 32 * i = omega arith in
      let e : record_at (list_of log) (per * k + i) ≡ record_at (block_at log k) i =
      ap (λ (x : ℕ). part (list_of log) x 32) a
      ∙ sym (part-part (list_of log) (32 * (per * k)) (32 * per) (32 * i) 32 (omega arith))
      ∙ ap (λ (x : List ℕ). part x (32 * i) 32) (part-list per form log right k h)
      ∙ part-part (block_at log k) 0 (32 * used (block_at log k)) (32 * i) 32 (omega arith)
      ∙ ap (λ (x : ℕ). part (block_at log k) x 32) z
      in
      sym (ap (well_formed s) e) ∙ f

  -- the word of a block of a log that passes 12 and 10
  pub word-said : Bytes log → (k : ℕ) → k < blocks_in log → fields_word (block_at log k) ≡ touched_word s (block_at log k)
  word-said w k h =
      block-said s (block_at log k) (length_part log (512 * k) 512 (omega arith)) (Bytes-part log (512 * k) 512 w) (used-few per form log right k h) (formed-at k h)
