-- Records that the walk knows by their numbers, and tests that are enough for them to break no rule. The laws in proofs/ say so.
-- Assumes nothing.
use Rattle.std.specs.Prelude.{ℕ, ◌+◌, ◌/◌, ◌%◌, ◌^◌, Bool, true, false, not, ◌&&◌, ◌||◌, List, eqb, leb}
use Rattle.num.specs.Bytes.{number, part}
use Rattle.settings.specs.declared.Settings.{Settings}
use Rattle.settings.specs.declared.PacketAt.{PacketAt}
use Rattle.settings.specs.Instants.{horizon}
use Rattle.packet.specs.declared.ColPacket.{ColPacket}
use Rattle.packet.specs.declared.ColPacket.TheVariants.{Rd}
use Rattle.record.specs.declared.Record.{Record}
use Rattle.record.specs.declared.Record.TheVariants.{ColAt, DataOf}
use Rattle.spec_rules.specs.declared.BankTrack.{BankTrack}
use Rattle.spec_rules.specs.declared.LastInstants.{LastInstants}
use Rattle.spec_rules.specs.declared.Buffer.{Buffer}
use Rattle.spec_rules.specs.declared.Buffer.TheVariants.{Empty, One, Two}
use Rattle.spec_rules.specs.History.{is_open}
use Rattle.check_walk.specs.declared.Fields.{Fields}

-- the numbers of the record at a place
abbrev pub fields_at : List ℕ → ℕ → Fields
fields_at b i = record { at = record { 0 = number (part b i 4) }; head = number (part b (i + 4) 4); word = number (part b (i + 8) 8) }

-- its data are 0
abbrev pub empty_at : List ℕ → ℕ → Bool
empty_at b i = eqb (number (part b (i + 16) 8)) 0 && eqb (number (part b (i + 24) 8)) 0

-- the bank and the column that a COL word names
abbrev pub bank_in : ℕ → ℕ
bank_in w = w / 2 ^ 29 % 32

abbrev pub column_in : ℕ → ℕ
column_in w = w / 2 ^ 21 % 128

-- RD with M = 0
abbrev pub read_packet : ℕ → ColPacket
read_packet w = Rd (bank_in w) (column_in w) 0xFFFF false

abbrev pub read_record : Fields → Record
read_record f = ColAt f.at (read_packet f.word)

abbrev pub data_record : List ℕ → ℕ → Record
data_record b i = DataOf (record { 0 = number (part b i 4) }) (record { dqa = number (part b (i + 16) 8); dqb = number (part b (i + 24) 8) })

-- an RD may come beside the waiting writes: no data are due, no closing write waits, and not two
unfoldable pub reads_beside : Buffer → Bool → Bool
reads_beside Empty due = true
reads_beside (One x) due = not (due || x.close)
reads_beside (Two x y) due = false

-- an RD with M = 0 breaks no other rule; the distance from the last COL packet is asked though there was none
abbrev pub reads_now : Settings → PacketAt → LastInstants → BankTrack → Bool
reads_now s t l own =
    (leb 4 t.0 && leb (t.0 + s.cac) horizon)
    && ((leb l.packet.0 t.0 && leb (l.col.0 + s.cc) t.0) && (is_open own.bank && leb (own.act.0 + s.rcd) t.0))

abbrev pub read_lasts : PacketAt → LastInstants → LastInstants
read_lasts t l = record { packet = t; row = l.row; col = t; pre = l.pre; rd = t; implied = l.implied }
