-- What the rules ask of each command at least, by the last instants of the channel and of the banks that it concerns. The laws in
-- proofs/ say that these are the bounds of the table of distances.
-- Assumes nothing.
use Rattle.std.specs.Prelude.{ℕ, ◌+◌, ◌-◌, max, Bool, not, ◌&&◌, ◌||◌, cond, leb}
use Rattle.settings.specs.declared.Settings.{Settings}
use Rattle.settings.specs.declared.PacketAt.{PacketAt}
use Rattle.spec_rules.specs.declared.BankTrack.{BankTrack}
use Rattle.spec_rules.specs.declared.LastInstants.{LastInstants}
use Rattle.spec_rules.specs.Checks.{since}
use Rattle.chan_view.specs.declared.View.{View}
use Rattle.chan_view.specs.declared.Held.{Held}
use Rattle.chan_view.specs.declared.Tracks.{Tracks}
use Rattle.chan_view.specs.Form.Bounds.{bound_if}
use Rattle.chan_view.specs.Form.View.{stays_by}

-- ---- by command

-- rules 1, 2 and 17 of a ROW packet, and what else is asked of it
abbrev pub on_row : LastInstants → ℕ → ℕ
on_row l rest = max l.packet.0 (max (since l.row.0 4) (max rest l.implied.0))

-- rules 1 and 3 of a COL packet, and what else is asked of it
abbrev pub on_col : Settings → LastInstants → ℕ → ℕ
on_col s l rest = max l.packet.0 (max (since l.col.0 s.cc) rest)

-- ACT and REFA: act, which rule 5 asks, and rule 7; pre is the latest of the bank and its neighbours
unfoldable pub open_bound : Settings → LastInstants → ℕ → PacketAt → ℕ
open_bound s l act pre = on_row l (max act (since pre.0 s.rp))

-- a PRER: rules 6, 8 and 13; opened, rd and retire are the latest of the bank and its neighbours
abbrev pub prer_bound : Settings → LastInstants → PacketAt → PacketAt → PacketAt → ℕ
prer_bound s l opened rd retire = max (since opened.0 s.ras) (max (since l.pre.0 s.pp) (max (since rd.0 s.rdp) (since retire.0 s.rtp)))

-- PRER and REFP, by the same instants
unfoldable pub close_bound : Settings → LastInstants → PacketAt → PacketAt → PacketAt → ℕ
close_bound s l opened rd retire = on_row l (prer_bound s l opened rd retire)

-- the latest of three instants
abbrev pub latest : PacketAt → PacketAt → PacketAt → PacketAt
latest a b c = record { 0 = max (max a.0 b.0) c.0 }

-- an RDA or the retire of a closing write: what its PRER asks of it, tOFFP earlier; the tracks are of its bank and the neighbours
unfoldable pub implied_bound : Settings → LastInstants → BankTrack → BankTrack → BankTrack → ℕ
implied_bound s l own low high =
    prer_bound s l (latest own.opened low.opened high.opened) (latest own.rd low.rd high.rd) (latest own.retire low.retire high.retire) - s.offp

-- RD, but for the PRER that it implies: rule 10; act is that of its bank
unfoldable pub read_bound : Settings → LastInstants → PacketAt → ℕ
read_bound s l act = on_col s l (since act.0 s.rcd)

-- WR, but for what it retires: rules 10 and 11
unfoldable pub write_bound : Settings → LastInstants → PacketAt → ℕ
write_bound s l act = on_col s l (max (since act.0 (s.rcd - s.rtr)) (since l.rd.0 (s.cc + s.cac - s.cwd)))

-- NOCOP, but for what it retires
unfoldable pub nocop_bound : Settings → LastInstants → ℕ
nocop_bound s l = on_col s l 0

-- a retire, but for the PRER that it implies: rules 10 and 12; at is the instant of the WR, act that of its bank
unfoldable pub retire_bound : Settings → PacketAt → PacketAt → ℕ
retire_bound s at act = max (at.0 + s.rtr) (since act.0 s.rcd)

-- ---- a packet

-- the latest of a bank and its neighbours
abbrev pub opened_near : Tracks → PacketAt
opened_near k = latest k.own.opened k.low.opened k.high.opened

abbrev pub pre_near : Tracks → PacketAt
pre_near k = latest k.own.pre k.low.pre k.high.pre

abbrev pub rd_near : Tracks → PacketAt
rd_near k = latest k.own.rd k.low.rd k.high.rd

abbrev pub retire_near : Tracks → PacketAt
retire_near k = latest k.own.retire k.low.retire k.high.retire

-- but for what it retires; act is what rule 5 asks of an ACT or REFA
unfoldable pub packet_bound : Settings → View → Tracks → ℕ → LastInstants → ℕ
packet_bound s v k act l =
    cond v.opens (open_bound s l act (pre_near k))
    (cond v.precharges (close_bound s l (opened_near k) (rd_near k) (retire_near k))
    (cond v.reads (max (read_bound s l k.own.act) (bound_if v.close (implied_bound s l k.own k.low k.high)))
    (cond v.writes (write_bound s l k.own.act) (nocop_bound s l))))

-- whether a packet may leave the waiting writes as they are: rules 12 and 17
abbrev pub may_stay_by : Held → View → Bool
may_stay_by h v = stays_by h v && (not (h.close || h.next_close) || not (v.row || v.writes))

-- whether a packet that is free to come from this instant on retires the older write: tRTR has passed there, or it may not leave it
abbrev pub leaves_from : Settings → Held → View → ℕ → Bool
leaves_from s h v free = h.waits && (v.other && (not (may_stay_by h v) || leb (h.at.0 + s.rtr) free))

-- what the rules ask of the retire of the older write
unfoldable pub retire_least : Settings → Held → Tracks → LastInstants → ℕ
retire_least s h k l = max (retire_bound s h.at k.held.act) (bound_if h.close (implied_bound s l k.held k.low k.high))

-- the bank whose neighbours count: of a packet that may retire a closing write that write's, else the one that it names
abbrev pub centre_by : Held → View → ℕ
centre_by h v = cond (v.other && h.close) h.bank v.bank

-- the least instant from now on
unfoldable pub least_by : Settings → View → Held → Tracks → ℕ → LastInstants → ℕ → ℕ
least_by s v h k act l now =
    let free : ℕ = max now (max 4 (packet_bound s v k act l)) in
    cond (leaves_from s h v free) (max free (retire_least s h k l)) free
