-- Whether a record breaks no rule, where it implies no PRER and no closing write waits, by command: it fits, its instant is not
-- before its least instant, its data are in time, and what leaves is right. The laws in proofs/ say so.
-- Assumes nothing.
use Rattle.std.specs.Prelude.{ℕ, ◌+◌, max, Bool, not, ◌&&◌, ◌||◌, cond, eqb, leb}
use Rattle.settings.specs.declared.Settings.{Settings}
use Rattle.settings.specs.declared.PacketAt.{PacketAt}
use Rattle.settings.specs.Instants.{horizon, is_instant}
use Rattle.packet.specs.declared.RowPacket.{RowPacket}
use Rattle.packet.specs.declared.RowPacket.TheVariants.{Act, Prer, Refa, Refp}
use Rattle.packet.specs.declared.ColPacket.{ColPacket}
use Rattle.packet.specs.declared.ColPacket.TheVariants.{Nocop, Wr, Rd}
use Rattle.record.specs.declared.Record.{Record}
use Rattle.record.specs.declared.Record.TheVariants.{RowAt, ColAt, DataOf}
use Rattle.spec_rules.specs.declared.BankTrack.{BankTrack}
use Rattle.spec_rules.specs.declared.LastInstants.{LastInstants}
use Rattle.spec_rules.specs.Neighbour.{context_of, near}
use Rattle.spec_rules.specs.History.{is_closed, is_open}
use Rattle.spec_rules.specs.Checks.{since}
use Rattle.chan_view.specs.declared.Held.{Held}
use Rattle.chan_view.specs.declared.Tracks.{Tracks}
use Rattle.chan_view.specs.Form.View.{seen_of}
use Rattle.chan_step.specs.Form.Lasts.{retires_by}
use Rattle.chan_judge.specs.Form.Tests.{data_rule}
use Rattle.chan_least.specs.Form.Least.{open_bound, close_bound, read_bound, write_bound, nocop_bound, opened_near, pre_near, rd_near, retire_near}

-- a packet is in range, no data are due and no closing write waits
abbrev pub comes_well : PacketAt → Held → Bool
comes_well t h = is_instant t.0 && not (h.due || (h.close || h.next_close))

-- what rule 5 asks at most where no bank was opened after newest: just what it asks, where tRR is not above tRC and newest is the
-- latest of all
abbrev pub act_by : Settings → Tracks → PacketAt → ℕ
act_by s k newest = max (since newest.0 s.rr) (since (opened_near k).0 s.rc)

abbrev pub closed_near : Tracks → Bool
closed_near k = is_closed k.own.bank && (is_closed k.low.bank && is_closed k.high.bank)

-- rule 14: a PRER or REFP to bank b loses a write to bank x, where one waits
abbrev pub loses : Settings → ℕ → Bool → ℕ → BankTrack → Bool
loses s b waits x k = waits && (near (context_of s) b x && not (is_closed k.bank))

-- and of the two that may wait it loses none
abbrev pub loses_none : Settings → ℕ → Held → Tracks → Bool
loses_none s b h k = not (loses s b h.waits h.bank k.held) && not (loses s b h.two h.next k.next)

module _ (s : Settings) (t : PacketAt) (k : Tracks) (l : LastInstants) where
  -- ACT and REFA; act is what rule 5 asks
  unfoldable pub opens_well : ℕ → Bool
  opens_well act = closed_near k && leb (open_bound s l act (pre_near k)) t.0

  -- PRER and REFP
  unfoldable pub closes_well : ℕ → Held → Bool
  closes_well b h = loses_none s b h k && leb (close_bound s l (opened_near k) (rd_near k) (retire_near k)) t.0

  -- RD, which retires nothing, with this mask
  unfoldable pub reads_well : ℕ → Bool
  reads_well m = leb (t.0 + s.cac) horizon && (eqb m 0xFFFF && (is_open k.own.bank && leb (read_bound s l k.own.act) t.0))

  -- WR, but for what it retires
  unfoldable pub writes_well : Bool
  writes_well = leb (t.0 + s.cwd) horizon && (is_open k.own.bank && leb (write_bound s l k.own.act) t.0)

-- what a COL packet with this mask retires, if it does; stays says whether it may leave the waiting writes
unfoldable pub leaves_well : Settings → PacketAt → Tracks → Bool → ℕ → Bool → Bool
leaves_well s t k stays m out = cond out (is_open k.held.bank && leb (since k.held.act.0 s.rcd) t.0) (stays && eqb m 0xFFFF)

unfoldable pub row_well : Settings → PacketAt → RowPacket → Held → Tracks → LastInstants → ℕ → Bool
row_well s t (Act b row) h k l act = opens_well s t k l act
row_well s t (Prer b) h k l act = closes_well s t k l b h
row_well s t (Refa b) h k l act = opens_well s t k l act
row_well s t (Refp b) h k l act = closes_well s t k l b h

-- a NOCOP may leave none, a WR one; no RD comes where two wait, and no RDA here
unfoldable pub col_well : Settings → PacketAt → ColPacket → Held → Tracks → LastInstants → Bool → Bool
col_well s t (Nocop m) h k l out = leaves_well s t k (not h.waits) m out && leb (nocop_bound s l) t.0
col_well s t (Wr b c m x) h k l out = leaves_well s t k (not h.two) m out && writes_well s t k l
col_well s t (Rd b c m x) h k l out = not (h.two || x) && reads_well s t k l m

unfoldable pub record_well : Settings → Record → Held → Tracks → LastInstants → ℕ → Bool
record_well s (RowAt t p) h k l act = comes_well t h && row_well s t p h k l act
record_well s (ColAt t p) h k l act = comes_well t h && col_well s t p h k l (retires_by s h (seen_of (ColAt t p)))
record_well s (DataOf t d) h k l act = eqb (data_rule s h t) 0
