-- What the calls on packet words answer: rdram_word_encode and rdram_word_decode.
-- Commands: 0 ACT, 1 PRER, 2 REFA, 3 REFP, 4 NOCOP, 5 WR, 6 RD, 7 WRA, 8 RDA. A packet's place is the row of ACT and the column of
-- WR, RD, WRA and RDA.
-- Assumes nothing.
use Rattle.std.specs.Prelude.{ℕ, Bool, cond, ◌&&◌, ◌||◌, List, eqb, leb, None, Option, Some}
use Rattle.settings.specs.declared.Settings.{Settings}
use Rattle.packet.specs.declared.RowPacket.{RowPacket}
use Rattle.packet.specs.declared.RowPacket.TheVariants.{Act, Prer, Refa, Refp}
use Rattle.packet.specs.declared.ColPacket.{ColPacket}
use Rattle.packet.specs.declared.ColPacket.TheVariants.{Nocop, Wr, Rd}
use Rattle.packet.specs.Row.{row_coded, row_decoded}
use Rattle.packet.specs.Col.{col_coded, col_decoded}
use Rattle.record.specs.declared.Refusal.{Refusal}
use Rattle.record.specs.declared.Refusal.TheVariants as refusal
use Rattle.record.specs.Refusal.{answer_of}
use Rattle.spec_calls.specs.Settings.{under_settings}
use Rattle.calls_word.specs.declared.WordAnswer.{WordAnswer}
use Rattle.calls_word.specs.declared.PacketAnswer.{PacketAnswer}

-- whether a command is one, and the fields that it does not use are 0
unfoldable pub fields_right : ℕ → ℕ → ℕ → ℕ → Bool
fields_right command bank place mask =
    cond (eqb command 0) (eqb mask 0)
    (cond (leb command 3) (eqb place 0 && eqb mask 0)
    (cond (eqb command 4) (eqb bank 0 && eqb place 0)
    (leb command 8)))

unfoldable pub row_command : ℕ → ℕ → ℕ → RowPacket
row_command command bank place =
    cond (eqb command 0) (Act bank place) (cond (eqb command 1) (Prer bank) (cond (eqb command 2) (Refa bank) (Refp bank)))

-- WRA and RDA, from 7 on, close their bank
unfoldable pub col_command : ℕ → ℕ → ℕ → ℕ → ColPacket
col_command command bank place mask =
    let close : Bool = leb 7 command in
    cond (eqb command 4) (Nocop mask) (cond (eqb command 5 || eqb command 7) (Wr bank place mask close) (Rd bank place mask close))

-- the word of a command with these fields, where it has one under the settings
unfoldable pub command_coded : Settings → ℕ → ℕ → ℕ → ℕ → Option ℕ
command_coded s command bank place mask =
    cond (fields_right command bank place mask)
    (cond (leb command 3)
    (row_coded s.device s.rows (row_command command bank place))
    (col_coded s.device s.columns (col_command command bank place mask)))
    None

unfoldable pub no_word_answer : Refusal → WordAnswer
no_word_answer r = record { number = (answer_of r).number; word = 0 }

-- why a command with these fields has no word: a bank above 31, a row of ACT not below rows, a column of WR, RD, WRA or RDA not
-- below columns; else 10
unfoldable pub why_no_word : Settings → ℕ → ℕ → ℕ → Refusal
why_no_word s command bank place =
    cond (leb bank 31)
    (cond (eqb command 0 && leb s.rows place) refusal.Row
    (cond ((leb 5 command && leb command 8) && leb s.columns place) refusal.Column (refusal.Word 0)))
    refusal.Bank

unfoldable pub word_answer : Refusal → Option ℕ → WordAnswer
word_answer why None = no_word_answer why
word_answer why (Some w) = record { number = 0; word = w }

-- 1 for settings out of range, then 4, 5, 6 and 10 for fields that have no word
unfoldable pub word_encode_call : List ℕ → ℕ → ℕ → ℕ → ℕ → WordAnswer
word_encode_call settings command bank place mask =
    under_settings settings no_word_answer (λ s. word_answer (why_no_word s command bank place) (command_coded s command bank place mask))

-- a packet in numbers
unfoldable pub row_numbers : RowPacket → PacketAnswer
row_numbers (Act bank row) = record { number = 0; command = 0; bank = bank; place = row; mask = 0 }
row_numbers (Prer bank) = record { number = 0; command = 1; bank = bank; place = 0; mask = 0 }
row_numbers (Refa bank) = record { number = 0; command = 2; bank = bank; place = 0; mask = 0 }
row_numbers (Refp bank) = record { number = 0; command = 3; bank = bank; place = 0; mask = 0 }

unfoldable pub col_numbers : ColPacket → PacketAnswer
col_numbers (Nocop mask) = record { number = 0; command = 4; bank = 0; place = 0; mask = mask }
col_numbers (Wr bank column mask close) = record { number = 0; command = cond close 7 5; bank = bank; place = column; mask = mask }
col_numbers (Rd bank column mask close) = record { number = 0; command = cond close 8 6; bank = bank; place = column; mask = mask }

unfoldable pub no_packet : Refusal → PacketAnswer
no_packet r = record { number = (answer_of r).number; command = 0; bank = 0; place = 0; mask = 0 }

unfoldable pub row_answer : Option RowPacket → PacketAnswer
row_answer None = no_packet (refusal.Word 0)
row_answer (Some p) = row_numbers p

unfoldable pub col_answer : Option ColPacket → PacketAnswer
col_answer None = no_packet (refusal.Word 0)
col_answer (Some p) = col_numbers p

-- kind 0 is ROW, 1 COL; 10 for another kind and for a word that no coder writes
unfoldable pub packet_answer : Settings → ℕ → ℕ → PacketAnswer
packet_answer s kind w =
    cond (eqb kind 0) (row_answer (row_decoded s.device s.rows w))
    (cond (eqb kind 1) (col_answer (col_decoded s.device s.columns w)) (no_packet (refusal.Word 0)))

-- 1 for settings out of range, then 10
unfoldable pub word_decode_call : List ℕ → ℕ → ℕ → PacketAnswer
word_decode_call settings kind w = under_settings settings no_packet (λ s. packet_answer s kind w)
