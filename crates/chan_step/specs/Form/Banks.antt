-- What a packet at t makes of one bank, as code stores it. The laws in proofs/ say that these are the banks after the packet.
-- Assumes nothing.
use Rattle.std.specs.Prelude.{ℕ, Bool, cond, List, get_or, set}
use Rattle.settings.specs.declared.Settings.{Settings}
use Rattle.settings.specs.declared.PacketAt.{PacketAt}
use Rattle.packet.specs.declared.RowPacket.{RowPacket}
use Rattle.packet.specs.declared.RowPacket.TheVariants.{Act, Prer, Refa, Refp}
use Rattle.packet.specs.declared.ColPacket.{ColPacket}
use Rattle.packet.specs.declared.ColPacket.TheVariants.{Nocop, Wr, Rd}
use Rattle.record.specs.declared.Record.{Record}
use Rattle.record.specs.declared.Record.TheVariants.{RowAt, ColAt, DataOf}
use Rattle.spec_rules.specs.declared.Bank.TheVariants.{Closed, Open, Refresh}
use Rattle.spec_rules.specs.declared.BankTrack.{BankTrack}
use Rattle.spec_rules.specs.History.{is_closed}
use Rattle.spec_rules.specs.Channel.{idle}
use Rattle.chan_view.specs.Form.Beside.{low_of, high_of}

-- the bank that an ACT opens on a row, that a REFA refreshes, that a PRER or REFP names
abbrev pub act_track : ℕ → PacketAt → BankTrack → BankTrack
act_track row t k = record { bank = Open row; opened = t; act = t; pre = k.pre; rd = k.rd; retire = k.retire }

abbrev pub refa_track : PacketAt → BankTrack → BankTrack
refa_track t k = record { bank = Refresh; opened = t; act = k.act; pre = k.pre; rd = k.rd; retire = k.retire }

abbrev pub prer_track : PacketAt → BankTrack → BankTrack
prer_track t k = record { bank = Closed; opened = k.opened; act = k.act; pre = t; rd = k.rd; retire = k.retire }

-- a neighbour of that bank: one that was not closed is closed by it
abbrev pub side_track : PacketAt → BankTrack → BankTrack
side_track t k =
    record { bank = Closed; opened = k.opened; act = k.act; pre = cond (is_closed k.bank) k.pre t; rd = k.rd; retire = k.retire }

-- the bank of an RD, and of the write that a COL packet retires
abbrev pub read_track : PacketAt → BankTrack → BankTrack
read_track t k = record { bank = k.bank; opened = k.opened; act = k.act; pre = k.pre; rd = t; retire = k.retire }

abbrev pub retired_track : PacketAt → BankTrack → BankTrack
retired_track t k = record { bank = k.bank; opened = k.opened; act = k.act; pre = k.pre; rd = k.rd; retire = t }

-- bank x changed, where there is such a bank
unfoldable pub changed : (BankTrack → BankTrack) → ℕ → List BankTrack → List BankTrack
changed f x l = set l x (f (get_or l x idle))

-- all banks after a PRER or REFP to bank b, its own packet or implied, those beside it being these
abbrev pub closed_banks : PacketAt → ℕ → ℕ → ℕ → List BankTrack → List BankTrack
closed_banks t b low high l = changed (side_track t) high (changed (side_track t) low (changed (prer_track t) b l))

-- all banks after a ROW packet
unfoldable pub row_banks : Settings → PacketAt → RowPacket → List BankTrack → List BankTrack
row_banks s t (Act b row) l = changed (act_track row t) b l
row_banks s t (Prer b) l = closed_banks t b (low_of s b) (high_of s b) l
row_banks s t (Refa b) l = changed (refa_track t) b l
row_banks s t (Refp b) l = closed_banks t b (low_of s b) (high_of s b) l

-- after a COL packet, once the write that it retires has left; and after that retire, of a write to bank w
unfoldable pub col_banks : PacketAt → ColPacket → List BankTrack → List BankTrack
col_banks t (Nocop m) l = l
col_banks t (Wr b c m x) l = l
col_banks t (Rd b c m x) l = changed (read_track t) b l

abbrev pub retired_banks : Bool → ℕ → PacketAt → List BankTrack → List BankTrack
retired_banks leaves w t l = cond leaves (changed (retired_track t) w l) l

-- after a packet, once that write has left
unfoldable pub banks_next : Settings → Record → List BankTrack → List BankTrack
banks_next s (RowAt t p) l = row_banks s t p l
banks_next s (ColAt t p) l = col_banks t p l
banks_next s (DataOf t d) l = l
