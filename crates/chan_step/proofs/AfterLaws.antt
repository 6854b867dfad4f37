-- The state after a record, part by part: banks, last instants, write buffer, and whether data are due.
-- Assumes nothing.
use Rattle.std.specs.Prelude.{Option, None, Some}
use Prim.Native.Nat.{ℕ, ◌+◌}
use mathlib.Core.Path.{◌≡◌, refl, ap, ap₂, sym, ◌∙◌}
use mathlib.Core.Bool.{Bool, true, false, ◌&&◌, and-false}
use mathlib.Core.List.{List}
use native.Mathlib.Omega.{arith}
use lib.Dec.{leb}
use lib.ListN.{length}
use Rattle.settings.specs.declared.Settings.{Settings}
use Rattle.settings.specs.declared.PacketAt.{PacketAt}
use Rattle.settings.specs.declared.DataAt.{DataAt}
use Rattle.packet.specs.declared.RowPacket.{RowPacket}
use Rattle.packet.specs.declared.RowPacket.TheVariants.{Act, Prer, Refa, Refp}
use Rattle.packet.specs.declared.ColPacket.{ColPacket}
use Rattle.packet.specs.declared.ColPacket.TheVariants.{Nocop, Wr, Rd}
use Rattle.record.specs.declared.Record.{Record}
use Rattle.record.specs.declared.Record.TheVariants.{RowAt, ColAt, DataOf}
use Rattle.spec_rules.specs.declared.BankTrack.{BankTrack}
use Rattle.spec_rules.specs.declared.LastInstants.{LastInstants}
use Rattle.spec_rules.specs.declared.Write.{Write}
use Rattle.spec_rules.specs.declared.Buffer.{Buffer}
use Rattle.spec_rules.specs.declared.Buffer.TheVariants.{Empty, One, Two}
use Rattle.spec_rules.specs.declared.Channel.{Channel}
use Rattle.spec_rules.specs.Neighbour.{Context, context_of}
use Rattle.spec_rules.specs.Packets.{traits, row_traits, col_traits, instant}
use Rattle.spec_rules.specs.History.{first, only_write, loads, only, retire_implies}
use Rattle.spec_rules.specs.Channel.{waiting_of, buffer_of, after_packet, after_retire, after_implied, after_data, leaving_of, after}
use Rattle.spec_rules.proofs.TrackLaws.{keeps-all}
use Rattle.spec_rules.proofs.ByRule.{implied_bank, row-implied-bank}
use Rattle.chan_view.specs.declared.View.{View}
use Rattle.chan_view.specs.declared.Seen.TheVariants.{Packet, Data}
use Rattle.chan_view.specs.declared.Held.{Held}
use Rattle.chan_view.specs.Form.Beside.{low_of, high_of}
use Rattle.chan_view.specs.Form.View.{row_view, col_view, seen_of, held_of, leaves, implies_by, centre_of}
use Rattle.chan_view.proofs.ViewLaws.{row_shows, col-shows, leaving-is, implies-at}
use Rattle.chan_step.specs.Form.Banks.{closed_banks, row_banks, col_banks, retired_banks, banks_next}
use Rattle.chan_step.specs.Form.Lasts.{lasts_next, implied_lasts, left_buffer, joined_buffer, col_buffer, buffer_next}
use Rattle.chan_step.proofs.BankLaws.{sides, act-banks, refa-banks, prer-banks, refp-banks, implied-banks, rd-banks, wr-banks, nocop-banks, retired-banks}

-- a state from its parts
abbrev pub channel_of : List BankTrack → LastInstants → Buffer → Bool → Channel
channel_of banks lasts buffer due = record { banks = banks; lasts = lasts; buffer = buffer; due = due }

-- the writes that wait say all of the buffer
pub buffer-same : (b : Buffer) → buffer_of (waiting_of b) ≡ b
unfolding buffer_of waiting_of
buffer-same Empty = refl
buffer-same (One x) = refl
buffer-same (Two x y) = refl

-- ---- the packet itself

module _ (s : Settings) (ch : Channel) (e : length ch.banks ≡ 32) (t : PacketAt) where
  row-packet : (p : RowPacket) → after_packet (context_of s) ch (RowAt t p) ≡ channel_of (row_banks s t p ch.banks) (lasts_next (RowAt t p) ch.lasts) ch.buffer (row_view t p).writes
  unfolding after_packet row_banks lasts_next row_view traits row_traits instant loads
  row-packet (Act b row) = rw (act-banks (context_of s) ch t b row, buffer-same ch.buffer)
  row-packet (Prer b) = rw (prer-banks (context_of s) ch t e b (low_of s b) (high_of s b) (sides s b), buffer-same ch.buffer)
  row-packet (Refa b) = rw (refa-banks (context_of s) ch t b, buffer-same ch.buffer)
  row-packet (Refp b) = rw (refp-banks (context_of s) ch t e b (low_of s b) (high_of s b) (sides s b), buffer-same ch.buffer)

-- once the write that it retires has left
module _ (s : Settings) (banks : List BankTrack) (lasts : LastInstants) (out : Bool) (b : Buffer) (due : Bool) (t : PacketAt) where
  abbrev left : Channel
  left = channel_of banks lasts (left_buffer out b) due

  col-packet : (p : ColPacket) → after_packet (context_of s) left (ColAt t p) ≡ channel_of (col_banks t p banks) (lasts_next (ColAt t p) lasts) (col_buffer t p out b) (col_view t p).writes
  unfolding after_packet col_banks lasts_next col_buffer joined_buffer col_view traits col_traits instant loads
  col-packet (Nocop m) = rw (nocop-banks (context_of s) left t m, buffer-same (left_buffer out b))
  col-packet (Wr x c m z) = rw (wr-banks (context_of s) left t x c m z)
  col-packet (Rd x c m z) = rw (rd-banks (context_of s) left t x c m z, buffer-same (left_buffer out b))

-- ---- the retire before it

module _ (s : Settings) (ch : Channel) (t : PacketAt) (v : View) where
  abbrev held : Held
  held = held_of ch.buffer ch.due

  retire-after : after_retire t.0 (only_write (leaves s held v) (first (waiting_of ch.buffer))) ch
      ≡ channel_of (retired_banks (leaves s held v) held.bank t ch.banks) ch.lasts (left_buffer (leaves s held v) ch.buffer) ch.due
  unfolding held_of waiting_of left_buffer buffer_of after_retire
  retire-after = go ch.buffer refl (v.other && leb (held.at.0 + s.rtr) v.at.0) refl
    where
      go : (b : Buffer) → ch.buffer ≡ b → (u : Bool) → (v.other && leb (held.at.0 + s.rtr) v.at.0) ≡ u
          → after_retire t.0 (only_write (leaves s held v) (first (waiting_of ch.buffer))) ch
          ≡ channel_of (retired_banks (leaves s held v) held.bank t ch.banks) ch.lasts (left_buffer (leaves s held v) ch.buffer) ch.due
      go Empty q u p = rw q
      go (One x) q true p = rw (p, q, retired-banks t x ch.banks)
      go (One x) q false p = rw (p, q)
      go (Two x y) q true p = rw (p, q, retired-banks t x ch.banks)
      go (Two x y) q false p = rw (p, q)

-- ---- the PRER that it implies

module _ (cx : Context) (ch : Channel) (t : PacketAt) where
  -- that of a retire may as well come after the packet, which changes no bank
  later-nocop : (u m : ℕ) (o : Option ℕ) → after_packet cx (after_implied cx u o ch) (ColAt t (Nocop m)) ≡ after_implied cx u o (after_packet cx ch (ColAt t (Nocop m)))
  unfolding after_packet after_implied traits col_traits
  later-nocop u m None = refl
  later-nocop u m (Some x) = rw (nocop-banks cx (after_implied cx u (Some x) ch) t m, nocop-banks cx ch t m)

  later-wr : (u b c m : ℕ) (z : Bool) (o : Option ℕ) → after_packet cx (after_implied cx u o ch) (ColAt t (Wr b c m z)) ≡ after_implied cx u o (after_packet cx ch (ColAt t (Wr b c m z)))
  unfolding after_packet after_implied traits col_traits
  later-wr u b c m z None = refl
  later-wr u b c m z (Some x) = rw (wr-banks cx (after_implied cx u (Some x) ch) t b c m z, wr-banks cx ch t b c m z)

module _ (cx : Context) (ch : Channel) (t : PacketAt) where
  abbrev retired : ColPacket → Channel
  retired p = after_retire t.0 (leaving_of cx ch (ColAt t p)) ch

  abbrev then : ℕ
  then = t.0 + cx.settings.offp

  -- so a COL packet comes first, with its retire, and one PRER at most last
  implied-last : (p : ColPacket) → after cx ch (ColAt t p) ≡ after_implied cx then (implied_bank cx ch (ColAt t p)) (after_packet cx (retired p) (ColAt t p))
  unfolding after after_implied traits col_traits
  implied-last (Nocop m) = later-nocop cx (retired (Nocop m)) t then m (retire_implies (leaving_of cx ch (ColAt t (Nocop m))))
  implied-last (Wr b c m z) = later-wr cx (retired (Wr b c m z)) t then b c m z (retire_implies (leaving_of cx ch (ColAt t (Wr b c m z))))
  implied-last (Rd b c m true) = rw (keeps-all cx (ColAt t (Rd b c m true)) (waiting_of ch.buffer) refl)
  implied-last (Rd b c m false) = rw (keeps-all cx (ColAt t (Rd b c m false)) (waiting_of ch.buffer) refl)

-- by the banks beside
pub implied-after : (s : Settings) (ch : Channel) → length ch.banks ≡ 32 → (t : PacketAt) (b : ℕ)
    → after_implied (context_of s) t.0 (Some b) ch ≡ channel_of (closed_banks t b (low_of s b) (high_of s b) ch.banks) (implied_lasts t ch.lasts) ch.buffer ch.due
unfolding after_implied
implied-after s ch e t b = rw (implied-banks (context_of s) ch t e b (low_of s b) (high_of s b) (sides s b))

-- ---- the record

col-at : (t : PacketAt) (p : ColPacket) → (col_view t p).at ≡ t
unfolding col_view
col-at t (Nocop m) = refl
col-at t (Wr b c m z) = refl
col-at t (Rd b c m z) = refl

module _ (s : Settings) (ch : Channel) (e : length ch.banks ≡ 32) where
  abbrev waiting : Held
  waiting = held_of ch.buffer ch.due

  -- after a packet and the retire that it makes, but for the PRER that either implies
  abbrev pub next_by : Record → View → Channel
  next_by r v =
      channel_of (banks_next s r (retired_banks (leaves s waiting v) waiting.bank v.at ch.banks)) (lasts_next r ch.lasts)
      (buffer_next r (leaves s waiting v) ch.buffer) v.writes

  -- and after that PRER
  abbrev implied_by : View → ℕ → Channel → Channel
  implied_by v u c = after_implied (context_of s) u (only (implies_by s waiting v) (Some (centre_of s waiting v))) c

  -- a ROW packet retires nothing and implies none
  row_next_lem : (t : PacketAt) (p : RowPacket) → after (context_of s) ch (RowAt t p) ≡ next_by (RowAt t p) (row_view t p)
  unfolding after banks_next buffer_next row_view
  row_next_lem t (Act b row) = rw (and-false waiting.waits) (row-packet s ch e t (Act b row))
  row_next_lem t (Prer b) = rw (and-false waiting.waits) (row-packet s ch e t (Prer b))
  row_next_lem t (Refa b) = rw (and-false waiting.waits) (row-packet s ch e t (Refa b))
  row_next_lem t (Refp b) = rw (and-false waiting.waits) (row-packet s ch e t (Refp b))

  row-after : (t : PacketAt) (p : RowPacket) → let v = row_view t p in after (context_of s) ch (RowAt t p) ≡ implied_by v (v.at.0 + s.offp) (next_by (RowAt t p) v)
  unfolding after_implied
  row-after t p =
      let v : View = row_view t p in
      row_next_lem t p
      ∙ ap (λ (o : Option ℕ). after_implied (context_of s) (v.at.0 + s.offp) o (next_by (RowAt t p) v))
      (sym (sym (implies-at s ch (RowAt t p) v (row_shows t p)) ∙ row-implied-bank (context_of s) ch t p))

  col-next : (t : PacketAt) (p : ColPacket) → let v = col_view t p in
      after_packet (context_of s) (after_retire t.0 (leaving_of (context_of s) ch (ColAt t p)) ch) (ColAt t p)
      ≡ channel_of (col_banks t p (retired_banks (leaves s waiting v) waiting.bank t ch.banks)) (lasts_next (ColAt t p) ch.lasts) (col_buffer t p (leaves s waiting v) ch.buffer) v.writes
  col-next t p =
      let v : View = col_view t p in
      ap (λ (o : Option Write). after_packet (context_of s) (after_retire t.0 o ch) (ColAt t p)) (leaving-is s ch.buffer ch.due (ColAt t p) v (col-shows t p))
      ∙ ap (λ (c : Channel). after_packet (context_of s) c (ColAt t p)) (retire-after s ch t v)
      ∙ col-packet s (retired_banks (leaves s waiting v) waiting.bank t ch.banks) ch.lasts (leaves s waiting v) ch.buffer ch.due t p

  col-after : (t : PacketAt) (p : ColPacket) → let v = col_view t p in after (context_of s) ch (ColAt t p) ≡ implied_by v (v.at.0 + s.offp) (next_by (ColAt t p) v)
  unfolding banks_next buffer_next context_of
  col-after t p =
      let v : View = col_view t p in
      implied-last (context_of s) ch t p
      ∙ ap₂ (after_implied (context_of s) (t.0 + s.offp)) (implies-at s ch (ColAt t p) v (col-shows t p)) (col-next t p)
      ∙ ap (λ (u : PacketAt). implied_by v (u.0 + s.offp)
      (channel_of (col_banks t p (retired_banks (leaves s waiting v) waiting.bank u ch.banks)) (lasts_next (ColAt t p) ch.lasts) (col_buffer t p (leaves s waiting v) ch.buffer) v.writes)) (sym (col-at t p))

  pub packet-after : (r : Record) (v : View) → seen_of r ≡ Packet v → after (context_of s) ch r ≡ implied_by v (v.at.0 + s.offp) (next_by r v)
  unfolding seen_of
  packet-after (RowAt t p) v q = let z : row_view t p ≡ v = cc in rw z at (row-after t p)
  packet-after (ColAt t p) v q = let z : col_view t p ≡ v = cc in rw z at (col-after t p)
  packet-after (DataOf t d) v q = absurd (let z : ◌≡◌ {A = ℕ} 0 1 = cc in omega arith)

  pub data-after : (r : Record) (t : DataAt) → seen_of r ≡ Data t → after (context_of s) ch r ≡ channel_of ch.banks ch.lasts ch.buffer false
  unfolding seen_of after after_data
  data-after (RowAt u p) t q = absurd (let z : ◌≡◌ {A = ℕ} 0 1 = cc in omega arith)
  data-after (ColAt u p) t q = absurd (let z : ◌≡◌ {A = ℕ} 0 1 = cc in omega arith)
  data-after (DataOf u d) t q = refl
