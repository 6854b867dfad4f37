-- Records and the write buffer as code reads them: flags with one bank, and number 32 for no bank.
-- Assumes nothing.
use Rattle.std.specs.Prelude.{ℕ, ◌+◌, max, Bool, true, false, not, ◌&&◌, ◌||◌, cond, leb}
use Rattle.settings.specs.declared.Settings.{Settings}
use Rattle.settings.specs.declared.PacketAt.{PacketAt}
use Rattle.packet.specs.declared.RowPacket.{RowPacket}
use Rattle.packet.specs.declared.RowPacket.TheVariants.{Act, Prer, Refa, Refp}
use Rattle.packet.specs.declared.ColPacket.{ColPacket}
use Rattle.packet.specs.declared.ColPacket.TheVariants.{Nocop, Wr, Rd}
use Rattle.record.specs.declared.Record.{Record}
use Rattle.record.specs.declared.Record.TheVariants.{RowAt, ColAt, DataOf}
use Rattle.spec_rules.specs.declared.Bank.{Bank}
use Rattle.spec_rules.specs.declared.Bank.TheVariants.{Closed, Open, Refresh}
use Rattle.spec_rules.specs.declared.Buffer.{Buffer}
use Rattle.spec_rules.specs.declared.Buffer.TheVariants.{Empty, One, Two}
use Rattle.chan_view.specs.declared.View.{View}
use Rattle.chan_view.specs.declared.Seen.{Seen}
use Rattle.chan_view.specs.declared.Seen.TheVariants.{Packet, Data}
use Rattle.chan_view.specs.declared.Held.{Held}
use Rattle.spec_rules.specs.Packets.{carries}
use Rattle.spec_rules.specs.Channel.{never}

-- ---- records

-- a packet at an instant that is no command
abbrev pub plain : PacketAt → View
plain t =
    record {
      at = t;
      bank = 0;
      column = 0;
      state = Closed;
      opens = false;
      acts = false;
      precharges = false;
      reads = false;
      writes = false;
      row = false;
      col = false;
      other = false;
      masked = false;
      close = false;
    }

-- a ROW packet to a bank
abbrev pub row_to : PacketAt → ℕ → Bank → Bool → Bool → Bool → View
row_to t b state opens acts precharges =
    record {
      at = t;
      bank = b;
      column = 0;
      state = state;
      opens = opens;
      acts = acts;
      precharges = precharges;
      reads = false;
      writes = false;
      row = true;
      col = false;
      other = false;
      masked = false;
      close = false;
    }

unfoldable pub row_view : PacketAt → RowPacket → View
row_view t (Act b r) = row_to t b (Open r) true true false
row_view t (Prer b) = row_to t b Closed false false true
row_view t (Refa b) = row_to t b Refresh true false false
row_view t (Refp b) = row_to t b Closed false false true

-- a COL packet
abbrev pub col_to : PacketAt → ℕ → ℕ → Bool → Bool → Bool → ℕ → Bool → View
col_to t b c reads writes other mask close =
    record {
      at = t;
      bank = b;
      column = c;
      state = Closed;
      opens = false;
      acts = false;
      precharges = false;
      reads = reads;
      writes = writes;
      row = false;
      col = true;
      other = other;
      masked = carries mask;
      close = close;
    }

unfoldable pub col_view : PacketAt → ColPacket → View
col_view t (Nocop m) = col_to t 0 0 false false true m false
col_view t (Wr b c m x) = col_to t b c false true true m x
col_view t (Rd b c m x) = col_to t b c true false false m x

unfoldable pub seen_of : Record → Seen
seen_of (RowAt t p) = Packet (row_view t p)
seen_of (ColAt t p) = Packet (col_view t p)
seen_of (DataOf t d) = Data t

-- how long after a packet the last of what it sets itself comes: its data, or the PRER that an RDA implies
abbrev pub delay_of : Settings → View → ℕ
delay_of s v = cond v.reads (cond v.close (max s.cac s.offp) s.cac) (cond v.writes s.cwd 0)

-- ---- the write buffer

unfoldable pub held_of : Buffer → Bool → Held
held_of Empty due = record { waits = false; two = false; due = false; bank = 32; at = never; close = false; next = 32; next_close = false; newest = never }
held_of (One x) due = record { waits = true; two = false; due = due; bank = x.bank; at = x.at; close = x.close; next = 32; next_close = false; newest = x.at }
held_of (Two x y) due =
    record { waits = true; two = true; due = due; bank = x.bank; at = x.at; close = x.close; next = y.bank; next_close = y.close; newest = y.at }

-- whether a packet retires the older write: it is a COL packet other than RD, and tRTR has passed since the WR
abbrev pub leaves : Settings → Held → View → Bool
leaves s h v = h.waits && (v.other && leb (h.at.0 + s.rtr) v.at.0)

-- whether a packet retires a closing write
abbrev pub leaves_closing : Settings → Held → View → Bool
leaves_closing s h v = h.close && leaves s h v

-- whether a packet implies a PRER: an RDA by itself, another by the retire of a closing write
abbrev pub implies_by : Settings → Held → View → Bool
implies_by s h v = (v.reads && v.close) || leaves_closing s h v

-- the bank of a packet's PRER, its own or an implied one; of other packets the bank that they name
abbrev pub centre_of : Settings → Held → View → ℕ
centre_of s h v = cond (leaves_closing s h v) h.bank v.bank

-- whether a packet may leave the waiting writes as they are
abbrev pub stays_by : Held → View → Bool
stays_by h v = cond h.two (not v.col) (not h.waits || (not v.other || v.writes))
