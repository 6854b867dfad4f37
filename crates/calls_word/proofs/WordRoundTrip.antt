-- The two round trips of the calls on packet words: a word that was encoded is decoded to the packet's numbers, and the
-- numbers of a word that was decoded are encoded to that word.
-- Assumes nothing.
use Rattle.std.specs.Prelude.{None, Option, Some}
use Prim.Native.Nat.{ℕ, zero, suc, ◌<◌, ◌≤◌}
use mathlib.Core.Path.{◌≡◌, refl}
use mathlib.Core.Bool.{Bool, true, false, cond, ◌&&◌, and-eq-true_iff}
use mathlib.Core.List.{List}
use mathlib.Core.Logic.{⊎_elim}
use native.Mathlib.Omega.{arith}
use lib.Dec.{eqb, leb}
use borrow.Author.Tests.{eqb-true, eqb-false, ne_eqb, leb-true, leb-false}
use Rattle.settings.specs.declared.Settings.{Settings}
use Rattle.settings.specs.Settings.{settings_read}
use Rattle.settings.proofs.SettingsLaws.{Bounds, bounds, accepted-valid}
use Rattle.packet.specs.declared.RowPacket.TheVariants.{Act, Prer, Refa, Refp}
use Rattle.packet.specs.declared.ColPacket.TheVariants.{Nocop, Wr, Rd}
use Rattle.packet.specs.Row.{row_word, row_fits, row_coded, row_decoded}
use Rattle.packet.specs.Col.{col_word, col_fits, col_coded, col_decoded}
use Rattle.packet.proofs.Choices.{passed, chosen}
use Rattle.packet.proofs.RowLaws.{row-decode-encode, row-encode-decode}
use Rattle.packet.proofs.ColLaws.{col-decode-encode, col-encode-decode}
use Rattle.record.specs.declared.Refusal.TheVariants as refusal
use Rattle.record.specs.Refusal.{answer_of}
use Rattle.record.proofs.RefusalLaws.{refused-number}
use Rattle.spec_calls.specs.Settings.{under_settings}
use Rattle.calls_word.specs.declared.PacketAnswer.{PacketAnswer}
use Rattle.calls_word.specs.Words.{fields_right, row_command, col_command, command_coded, no_word_answer, why_no_word, word_answer, word_encode_call, row_numbers, col_numbers, no_packet, row_answer, col_answer, packet_answer, word_decode_call}
use Rattle.packet.specs.declared.RowPacket.{RowPacket}
use Rattle.packet.specs.declared.ColPacket.{ColPacket}

-- the kind of a command's word: ROW for 0 to 3, and else COL
abbrev pub kind_of_command : ℕ → ℕ
kind_of_command command = cond (leb command 3) 0 1

-- ---- what was encoded is decoded

no_word : (w : ℕ) → None ≡ Some w → ⊥
no_word w e = let z : ◌≡◌ {A = ℕ} 0 1 = cc in omega arith

inner : (x w : ℕ) → Some x ≡ Some w → x ≡ w
inner x w e = cc

-- an accepted packet in numbers
abbrev numbers : ℕ → ℕ → ℕ → ℕ → PacketAnswer
numbers command bank place mask = record { number = 0; command = command; bank = bank; place = place; mask = mask }

-- two fields that are not used are 0
zeros : (x y : ℕ) → (eqb x 0 && eqb y 0) ≡ true → (x ≡ 0) × (y ≡ 0)
zeros x y e = let p = (and-eq-true_iff (eqb x 0) (eqb y 0)).0 e in (eqb-true x 0 p.0, eqb-true y 0 p.1)

row_is : (command bank place mask : ℕ) → leb command 3 ≡ true → fields_right command bank place mask ≡ true
    → row_numbers (row_command command bank place) ≡ numbers command bank place mask
unfolding fields_right row_command row_numbers
row_is zero bank place mask l f = rw (eqb-true mask 0 f)
row_is (suc zero) bank place mask l f = let z = zeros place mask f in rw (z.0, z.1)
row_is (suc (suc zero)) bank place mask l f = let z = zeros place mask f in rw (z.0, z.1)
row_is (suc (suc (suc zero))) bank place mask l f = let z = zeros place mask f in rw (z.0, z.1)
row_is (suc (suc (suc (suc n)))) bank place mask l f = absurd (omega (arith, leb-true (suc (suc (suc (suc n)))) 3 l))

col-is : (command bank place mask : ℕ) → leb command 3 ≡ false → fields_right command bank place mask ≡ true
    → col_numbers (col_command command bank place mask) ≡ numbers command bank place mask
unfolding fields_right col_command col_numbers
col-is command bank place mask l f = go (eqb command 4) refl
  where
    -- the commands with a column
    access : 5 ≤ command → command ≤ 8 → (t : Bool) → eqb command 5 ≡ t → (u : Bool) → eqb command 6 ≡ u → (v : Bool) → eqb command 7 ≡ v
        → col_numbers (col_command command bank place mask) ≡ numbers command bank place mask
    access m h true p u q v o = rw (eqb-true command 5 p)
    access m h false p true q v o = rw (eqb-true command 6 q)
    access m h false p false q true o = rw (eqb-true command 7 o)
    access m h false p false q false o = let c : command ≡ 8 = omega (arith, eqb-false command 5 p, eqb-false command 6 q, eqb-false command 7 o) in rw c

    go : (t : Bool) → eqb command 4 ≡ t → col_numbers (col_command command bank place mask) ≡ numbers command bank place mask
    go true p = let c = eqb-true command 4 p in let z = zeros bank place (rw c at f) in rw (c, z.0, z.1)
    go false p =
        let m : 3 < command = leb-false command 3 l in
        let n = ne_eqb command 0 (λ z. omega arith) in
        let h : command ≤ 8 = leb-true command 8 (rw (n, l, p) at f) in
        access (omega (arith, eqb-false command 4 p)) h (eqb command 5) refl (eqb command 6) refl (eqb command 7) refl

-- the packet of a command's word, where it has one, is the command
decoded : (s : Settings) → Bounds s → (command bank place mask w : ℕ) → command_coded s command bank place mask ≡ Some w
    → packet_answer s (kind_of_command command) w ≡ numbers command bank place mask
unfolding command_coded row_coded col_coded packet_answer row_answer col_answer
decoded s b command bank place mask w e =
    let row = row_command command bank place in
    let col = col_command command bank place mask in
    let f = passed (fields_right command bank place mask) _ None (Some w) (no_word w) e in
    ⊎_elim
    (λ k. let g = passed (row_fits s.rows row) (Some (row_word s.device row)) None (Some w) (no_word w) k.1 in
    rw (k.0, ← inner _ w g.1, row-decode-encode s.device s.rows row b.rows-most g.0) (row_is command bank place mask k.0 f.0))
    (λ k. let g = passed (col_fits s.columns col) (Some (col_word s.device col)) None (Some w) (no_word w) k.1 in
    rw (k.0, ← inner _ w g.1, col-decode-encode s.device s.columns col (omega arith) b.columns-most g.0) (col-is command bank place mask k.0 f.0))
    (chosen (leb command 3) _ _ _ f.1)

-- what was encoded is decoded
pub word-decode-encode : (settings : List ℕ) (command bank place mask : ℕ) → (word_encode_call settings command bank place mask).number ≡ 0
    → word_decode_call settings (kind_of_command command) (word_encode_call settings command bank place mask).word ≡ record { number = 0; command = command; bank = bank; place = place; mask = mask }
unfolding under_settings word_answer no_word_answer word_encode_call word_decode_call
word-decode-encode settings command bank place mask e = go (settings_read settings) refl
  where
    word : (s : Settings) → Bounds s → (c : Option ℕ) → command_coded s command bank place mask ≡ c → (word_answer (why_no_word s command bank place) c).number ≡ 0
        → packet_answer s (kind_of_command command) (word_answer (why_no_word s command bank place) c).word ≡ numbers command bank place mask
    word s b None q e = absurd (refused-number (why_no_word s command bank place) e)
    word s b (Some w) q e = decoded s b command bank place mask w q

    go : (r : Option Settings) → settings_read settings ≡ r
        → word_decode_call settings (kind_of_command command) (word_encode_call settings command bank place mask).word ≡ numbers command bank place mask
    go None q = absurd (refused-number refusal.Settings (rw q at e))
    go (Some s) q = rw q (word s (bounds s (accepted-valid settings s q)) (command_coded s command bank place mask) refl (rw q at e))

-- ---- what was decoded is encoded

-- the numbers of an accepted answer have the word
abbrev Encodes : Settings → ℕ → PacketAnswer → Type 0
Encodes s w a = a.number ≡ 0 → command_coded s a.command a.bank a.place a.mask ≡ Some w

row_back : (s : Settings) (w : ℕ) (d : Option RowPacket) → row_decoded s.device s.rows w ≡ d → Encodes s w (row_answer d)
unfolding row_answer row_numbers no_packet answer_of command_coded fields_right row_command row_coded
row_back s w None e n = absurd (omega arith)
row_back s w (Some (Act bank row)) e n = let b = row-encode-decode s.device s.rows w (Act bank row) e in rw (b.0, b.1)
row_back s w (Some (Prer bank)) e n = let b = row-encode-decode s.device s.rows w (Prer bank) e in rw (b.0, b.1)
row_back s w (Some (Refa bank)) e n = let b = row-encode-decode s.device s.rows w (Refa bank) e in rw (b.0, b.1)
row_back s w (Some (Refp bank)) e n = let b = row-encode-decode s.device s.rows w (Refp bank) e in rw (b.0, b.1)

col-back : (s : Settings) (w : ℕ) (d : Option ColPacket) → col_decoded s.device s.columns w ≡ d → Encodes s w (col_answer d)
unfolding col_answer col_numbers no_packet answer_of command_coded fields_right col_command col_coded
col-back s w None e n = absurd (omega arith)
col-back s w (Some (Nocop mask)) e n = let b = col-encode-decode s.device s.columns w (Nocop mask) e in rw (b.0, b.1)
col-back s w (Some (Wr bank column mask false)) e n = let b = col-encode-decode s.device s.columns w (Wr bank column mask false) e in rw (b.0, b.1)
col-back s w (Some (Wr bank column mask true)) e n = let b = col-encode-decode s.device s.columns w (Wr bank column mask true) e in rw (b.0, b.1)
col-back s w (Some (Rd bank column mask false)) e n = let b = col-encode-decode s.device s.columns w (Rd bank column mask false) e in rw (b.0, b.1)
col-back s w (Some (Rd bank column mask true)) e n = let b = col-encode-decode s.device s.columns w (Rd bank column mask true) e in rw (b.0, b.1)

no-back : (s : Settings) (w : ℕ) → Encodes s w (no_packet (refusal.Word 0))
unfolding no_packet answer_of
no-back s w n = absurd (omega arith)

either : (P : PacketAnswer → Type 0) (t : Bool) (x y : PacketAnswer) → P x → P y → P (cond t x y)
either P true x y p q = p
either P false x y p q = q

packet-back : (s : Settings) (kind w : ℕ) → Encodes s w (packet_answer s kind w)
unfolding packet_answer
packet-back s kind w =
    either (Encodes s w) (eqb kind 0) _ _ (row_back s w _ refl)
    (either (Encodes s w) (eqb kind 1) _ _ (col-back s w _ refl) (no-back s w))

-- the numbers of a word that was decoded are encoded to that word
pub word-encode-decode : (settings : List ℕ) (kind w : ℕ) (a : PacketAnswer) → word_decode_call settings kind w ≡ a → a.number ≡ 0
    → word_encode_call settings a.command a.bank a.place a.mask ≡ record { number = 0; word = w }
unfolding under_settings word_answer no_packet word_encode_call word_decode_call
word-encode-decode settings kind w a e n = rw (← e) (go (settings_read settings) refl (rw (← e) at n))
  where
    go : (r : Option Settings) → settings_read settings ≡ r → (word_decode_call settings kind w).number ≡ 0
        → let b : PacketAnswer = word_decode_call settings kind w in word_encode_call settings b.command b.bank b.place b.mask ≡ record { number = 0; word = w }
    go None q n = absurd (refused-number refusal.Settings (rw q at n))
    go (Some s) q n = rw q (rw (packet-back s kind w (rw q at n)))
