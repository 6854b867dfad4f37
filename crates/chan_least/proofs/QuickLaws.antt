-- Where the quick test passes, a record breaks no rule. Of a record that implies no PRER, while no closing write waits, it passes just
-- there, where it is asked with what rule 5 asks.
-- Assumes nothing.
use Rattle.std.specs.Prelude.{None, Option, Some}
use Prim.Native.Nat.{ℕ, ◌+◌, ◌-◌}
use mathlib.Core.Path.{◌≡◌, refl, ap, ◌∙◌, sym}
use mathlib.Core.Bool.{Bool, true, false, not, ◌&&◌, ◌||◌, cond, and-true, and-false, and_assoc, and_comm, or-true, or-false}
use native.Mathlib.Nat.{add-zero}
use native.Mathlib.Omega.{arith}
use lib.Dec.{eqb, leb, leb-zero}
use lib.ListN.{length}
use Rattle.settings.specs.declared.PacketAt.{PacketAt}
use Rattle.settings.specs.declared.DataAt.{DataAt}
use Rattle.settings.specs.declared.Settings.{Settings}
use Rattle.settings.specs.Instants.{horizon, arrival, is_instant}
use Rattle.packet.specs.declared.RowPacket.{RowPacket}
use Rattle.packet.specs.declared.RowPacket.TheVariants.{Act, Prer, Refa, Refp}
use Rattle.packet.specs.declared.ColPacket.{ColPacket}
use Rattle.packet.specs.declared.ColPacket.TheVariants.{Nocop, Wr, Rd}
use Rattle.record.specs.declared.Record.{Record}
use Rattle.record.specs.declared.Record.TheVariants.{RowAt, ColAt, DataOf}
use Rattle.spec_rules.specs.declared.Bank.{Bank}
use Rattle.spec_rules.specs.declared.LastInstants.{LastInstants}
use Rattle.spec_rules.specs.declared.Bank.TheVariants.{Closed, Open, Refresh}
use Rattle.spec_rules.specs.declared.Buffer.{Buffer}
use Rattle.spec_rules.specs.declared.Buffer.TheVariants.{Empty, One, Two}
use Rattle.spec_rules.specs.declared.Channel.{Channel}
use Rattle.spec_rules.specs.Neighbour.{context_of}
use Rattle.spec_rules.specs.History.{is_open}
use Rattle.spec_rules.specs.Checks.{since, judged}
use Rattle.spec_rules.proofs.Bools.{not-both, leb-max}
use Rattle.spec_rules.proofs.EarliestLaws.{lowest-every}
use Rattle.chan_view.specs.declared.View.{View}
use Rattle.chan_view.specs.declared.Held.{Held}
use Rattle.chan_view.specs.declared.Tracks.{Tracks}
use Rattle.chan_view.specs.declared.Seen.TheVariants.{Packet}
use Rattle.chan_view.specs.Form.Beside.{tracks_of}
use Rattle.chan_view.specs.Form.View.{row_to, col_to, row_view, col_view, seen_of, held_of, centre_of}
use Rattle.chan_step.specs.Form.Lasts.{retires_by}
use Rattle.chan_judge.specs.Form.Tests.{act_over, in_time, prer_of, pin_tests, row_tests, col_tests, buffer_tests, packet_rule}
use Rattle.chan_judge.proofs.ArrivalLaws.{arrives-in-time}
use Rattle.chan_judge.proofs.JudgeLaws.{judged-packet}
use Rattle.chan_least.specs.Form.Least.{open_bound, close_bound, read_bound, write_bound, nocop_bound, opened_near, pre_near, rd_near, retire_near}
use Rattle.chan_least.specs.Form.Quick.{comes_well, closed_near, loses_none, opens_well, closes_well, reads_well, writes_well, leaves_well, row_well, col_well, record_well}
use Rattle.chan_least.proofs.LeastLaws.{since-zero, three-since}

-- ---- data that come in time, and late

module _ (p : PacketAt) (delay : ℕ) (a : Option DataAt) (e : a ≡ arrival p delay) where
  pub comes : (u : DataAt) → a ≡ Some u → leb (p.0 + delay) horizon ≡ true
  unfolding in_time
  comes u q = sym (arrives-in-time p delay) ∙ ap in_time (sym e ∙ q)

  pub is-late : a ≡ None → leb (p.0 + delay) horizon ≡ false
  unfolding in_time
  is-late q = sym (arrives-in-time p delay) ∙ ap in_time (sym e ∙ q)

-- ---- a packet by its tests, command by command

and-left-comm : (a b c : Bool) → a && (b && c) ≡ b && (a && c)
and-left-comm true b c = refl
and-left-comm false true c = refl
and-left-comm false false c = refl

and-twice : (a b : Bool) → a && (a && b) ≡ a && b
and-twice true b = refl
and-twice false b = refl

not-not : (a : Bool) → not (not a) ≡ a
not-not true = refl
not-not false = refl

-- rule 14
kept-write : (w n c : Bool) → not (w && n) || c ≡ not (w && (n && not c))
kept-write false n c = refl
kept-write true false c = refl
kept-write true true true = refl
kept-write true true false = refl

-- rule 12: who may leave the waiting writes
stays-free : (two waits : Bool) → cond two true (not waits || true) ≡ true
stays-free true waits = refl
stays-free false waits = or-true (not waits)

stays-one : (two waits : Bool) → cond two false (not waits || true) ≡ not two
stays-one true waits = refl
stays-one false waits = or-true (not waits)

stays-none : (two waits : Bool) → (two ≡ true → waits ≡ true) → cond two false (not waits || false) ≡ not waits
stays-none true waits e = rw (e refl)
stays-none false waits e = or-false (not waits)

-- f, i, d: not before 4, not past the limit, no data due; p, r: what the pins ask; the others in the order of their rules
open-shuffle : (f i p r c a q d e : Bool) → ((f && i) && (i && p)) && (r && (c && (a && (q && (d && e))))) ≡ ((f && i) && d) && (c && (p && (r && ((a && q) && e))))
open-shuffle f i p r c a q d e = simp (and_assoc, and_comm, and-left-comm, and-twice)

close-shuffle : (f i p r o u x y z d e : Bool)
    → ((f && i) && (i && p)) && (r && (o && (u && ((x && y) && (z && (d && e)))))) ≡ ((f && i) && d) && (z && (p && (r && ((o && (u && (x && y))) && e))))
close-shuffle f i p r o u x y z d e = simp (and_assoc, and_comm, and-left-comm, and-twice)

read-shuffle : (f i y p r o a w d m : Bool)
    → ((f && i) && (y && (i && p))) && (r && (o && (a && (w && (d && m))))) ≡ ((f && i) && d) && (w && (y && (m && (o && (p && (r && a))))))
read-shuffle f i y p r o a w d m = simp (and_assoc, and_comm, and-left-comm, and-twice)

nocop-shuffle : (f i p r o a w d m : Bool) → ((f && i) && (i && p)) && (r && (o && (a && (w && (d && m))))) ≡ ((f && i) && d) && ((o && (a && (w && m))) && (p && r))
nocop-shuffle f i p r o a w d m = simp (and_assoc, and_comm, and-left-comm, and-twice)

write-shuffle : (f i y p r b o a c e w d m : Bool)
    → ((f && i) && (y && (i && p))) && (r && ((b && o) && ((a && c) && (e && (w && (d && m)))))) ≡ ((f && i) && d) && ((o && (a && (w && m))) && (y && (b && (p && (r && (c && e))))))
write-shuffle f i y p r b o a c e w d m = simp (and_assoc, and_comm, and-left-comm, and-twice)

-- rules 9, 10, 12 and 16 of what leaves: out = it does, o = its bank is open, w = it need not, m = M is 0
leaves-part : (out o w m : Bool) (act n : ℕ) → (not out || o) && (leb (cond out act 0) n && ((out || w) && (m || out))) ≡ cond out (o && leb act n) (w && m)
leaves-part true o w m act n = rw (or-true m, and-true (leb act n))
leaves-part false o w m act n = rw (leb-zero n, or-false m)

-- while no closing write waits
module _ (s : Settings) (t : PacketAt) (h : Held) (k : Tracks) (act : ℕ) (l : LastInstants) (older : h.close ≡ false) (newer : h.next_close ≡ false) where
  -- no rule is found
  abbrev none_found : View → Bool
  none_found v = eqb (packet_rule s v h k act l) 0

  abbrev kept : ℕ → Bool
  kept bound = leb bound t.0

  abbrev kept-data : ℕ → Bool
  kept-data delay = leb (t.0 + delay) horizon

  -- in range, and no data due
  abbrev comes-well : Bool
  comes-well = is_instant t.0 && not h.due

  open-well : (b : ℕ) (state : Bank) (acts : Bool) → none_found (row_to t b state true acts false) ≡ comes-well && opens_well s t k l act
  unfolding packet_rule prer_of pin_tests row_tests col_tests buffer_tests opens_well open_bound
  open-well b state acts =
      lowest-every 0 _
      ∙ simp (older, newer, leb-zero, and-true, and-false, add-zero t.0, since-zero, three-since, leb-max, stays-free)
      (open-shuffle (leb 4 t.0) (leb t.0 horizon) (kept l.packet.0) (kept (since l.row.0 4)) (closed_near k) (kept act) (kept (since (pre_near k).0 s.rp)) (not h.due) (kept l.implied.0))

  close-well : (b : ℕ) → none_found (row_to t b Closed false false true) ≡ comes-well && closes_well s t k l b h
  unfolding packet_rule prer_of pin_tests row_tests col_tests buffer_tests closes_well close_bound
  close-well b =
      lowest-every 0 _
      ∙ simp (older, newer, leb-zero, and-true, and-false, add-zero t.0, since-zero, three-since, leb-max, kept-write, stays-free)
      (close-shuffle (leb 4 t.0) (leb t.0 horizon) (kept l.packet.0) (kept (since l.row.0 4)) (kept (since (opened_near k).0 s.ras)) (kept (since l.pre.0 s.pp))
      (kept (since (rd_near k).0 s.rdp)) (kept (since (retire_near k).0 s.rtp)) (loses_none s b h k) (not h.due) (kept l.implied.0))

  read-well : (b c m : ℕ) → none_found (col_to t b c true false false m false) ≡ comes-well && (not h.two && reads_well s t k l m)
  unfolding packet_rule prer_of pin_tests row_tests col_tests buffer_tests reads_well read_bound
  read-well b c m =
      lowest-every 0 _
      ∙ simp (older, newer, leb-zero, and-false, add-zero t.0, leb-max, stays-one, or-false, not-not, and-true)
      (read-shuffle (leb 4 t.0) (leb t.0 horizon) (kept-data s.cac) (kept l.packet.0) (kept (since l.col.0 s.cc)) (is_open k.own.bank) (kept (since k.own.act.0 s.rcd)) (not h.two) (not h.due) (eqb m 0xFFFF))

  -- what leaves, as tests and as one
  abbrev out : Bool
  out = h.waits && kept (h.at.0 + s.rtr)

  abbrev leaves-tests : Bool → ℕ → Bool
  leaves-tests w m = (not out || is_open k.held.bank) && (kept (cond out (since k.held.act.0 s.rcd) 0) && ((out || w) && (eqb m 0xFFFF || out)))

  leaves-are : (w u : Bool) → w ≡ u → (m : ℕ) → leaves-tests w m ≡ leaves_well s t k u m out
  unfolding leaves_well
  leaves-are w u e m = leaves-part out (is_open k.held.bank) w (eqb m 0xFFFF) (since k.held.act.0 s.rcd) t.0 ∙ rw e

  -- what rule 12 has of a NOCOP and of a WR
  abbrev nocop-stays : Bool
  nocop-stays = cond h.two false (not h.waits || false)

  abbrev write-stays : Bool
  write-stays = cond h.two false (not h.waits || true)

  nocop-well : (h.two ≡ true → h.waits ≡ true) → (m : ℕ)
      → none_found (col_to t 0 0 false false true m false) ≡ comes-well && (leaves_well s t k (not h.waits) m out && leb (nocop_bound s l) t.0)
  unfolding packet_rule prer_of pin_tests row_tests col_tests buffer_tests nocop_bound
  nocop-well e m =
      lowest-every 0 _
      ∙ simp (older, newer, leb-zero, and-false, add-zero t.0, leb-max, and-true, not-not)
      (nocop-shuffle (leb 4 t.0) (leb t.0 horizon) (kept l.packet.0) (kept (since l.col.0 s.cc)) (not out || is_open k.held.bank) (kept (cond out (since k.held.act.0 s.rcd) 0))
      (out || nocop-stays) (not h.due) (eqb m 0xFFFF || out)
      ∙ ap (λ (b : Bool). comes-well && (b && (kept l.packet.0 && kept (since l.col.0 s.cc)))) (leaves-are nocop-stays (not h.waits) (stays-none h.two h.waits e) m))

  write-well : (b c m : ℕ) (x : Bool) → none_found (col_to t b c false true true m x) ≡ comes-well && (leaves_well s t k (not h.two) m out && writes_well s t k l)
  unfolding packet_rule prer_of pin_tests row_tests col_tests buffer_tests writes_well write_bound
  write-well b c m x =
      lowest-every 0 _
      ∙ simp (older, newer, leb-zero, and-false, add-zero t.0, leb-max, and-true, not-not)
      (write-shuffle (leb 4 t.0) (leb t.0 horizon) (kept-data s.cwd) (kept l.packet.0) (kept (since l.col.0 s.cc)) (is_open k.own.bank) (not out || is_open k.held.bank)
      (kept (cond out (since k.held.act.0 s.rcd) 0)) (kept (since k.own.act.0 (s.rcd - s.rtr))) (kept (since l.rd.0 (s.cc + s.cac - s.cwd)))
      (out || write-stays) (not h.due) (eqb m 0xFFFF || out)
      ∙ ap (λ (b : Bool). comes-well && (b && (kept-data s.cwd && (is_open k.own.bank && (kept l.packet.0
      && (kept (since l.col.0 s.cc) && (kept (since k.own.act.0 (s.rcd - s.rtr)) && kept (since l.rd.0 (s.cc + s.cac - s.cwd))))))))) (leaves-are write-stays (not h.two) (stays-one h.two h.waits) m))

-- ---- a record, in a state

-- where two writes wait, one does
two-wait : (b : Buffer) (due : Bool) → (held_of b due).two ≡ true → (held_of b due).waits ≡ true
unfolding held_of
two-wait Empty due e = e
two-wait (One x) due e = refl
two-wait (Two x y) due e = refl

-- a record implies no PRER itself
unfoldable pub is_plain : Record → Bool
is_plain (RowAt t p) = true
is_plain (ColAt t (Nocop m)) = true
is_plain (ColAt t (Wr b c m x)) = true
is_plain (ColAt t (Rd b c m x)) = not x
is_plain (DataOf t d) = true

module _ (s : Settings) (ch : Channel) (e : length ch.banks ≡ 32) where
  abbrev buffered : Held
  buffered = held_of ch.buffer ch.due

  -- by the tracks of a bank and its neighbours, and what rule 5 asks
  abbrev well_at : Record → ℕ → Bool
  well_at r b = record_well s r buffered (tracks_of s ch.banks b b buffered) ch.lasts (act_over s ch.banks b)

  module _ (older : buffered.close ≡ false) (newer : buffered.next_close ≡ false) where
    judged-none : (r : Record) (v : View) → seen_of r ≡ Packet v
        → eqb (judged (context_of s) ch r) 0 ≡ eqb (packet_rule s v buffered (tracks_of s ch.banks v.bank v.bank buffered) (act_over s ch.banks v.bank) ch.lasts) 0
    judged-none r v q = ap (λ (n : ℕ). eqb n 0) (sym (judged-packet s ch r e v q) ∙ ap (λ (c : ℕ). packet_rule s v buffered (tracks_of s ch.banks v.bank c buffered) (act_over s ch.banks v.bank) ch.lasts) centre)
      where
        centre : centre_of s buffered v ≡ v.bank
        centre = rw older

    -- no closing write waits
    comes-plain : (t : PacketAt) (x : Bool) → (is_instant t.0 && not buffered.due) && x ≡ comes_well t buffered && x
    comes-plain t x = rw (older, newer, or-false buffered.due)

    row-well : (t : PacketAt) (p : RowPacket) → eqb (judged (context_of s) ch (RowAt t p)) 0 ≡ well_at (RowAt t p) (row_view t p).bank
    unfolding seen_of row_view record_well row_well
    row-well t (Act b row) = judged-none (RowAt t (Act b row)) _ refl ∙ open-well s t buffered _ _ ch.lasts older newer b (Open row) true ∙ comes-plain t _
    row-well t (Prer b) = judged-none (RowAt t (Prer b)) _ refl ∙ close-well s t buffered _ _ ch.lasts older newer b ∙ comes-plain t _
    row-well t (Refa b) = judged-none (RowAt t (Refa b)) _ refl ∙ open-well s t buffered _ _ ch.lasts older newer b Refresh false ∙ comes-plain t _
    row-well t (Refp b) = judged-none (RowAt t (Refp b)) _ refl ∙ close-well s t buffered _ _ ch.lasts older newer b ∙ comes-plain t _

    col-well : (t : PacketAt) (p : ColPacket) → is_plain (ColAt t p) ≡ true → eqb (judged (context_of s) ch (ColAt t p)) 0 ≡ well_at (ColAt t p) (col_view t p).bank
    unfolding is_plain seen_of col_view record_well col_well retires_by
    col-well t (Nocop m) z = judged-none (ColAt t (Nocop m)) _ refl ∙ nocop-well s t buffered _ _ ch.lasts older newer (two-wait ch.buffer ch.due) m ∙ comes-plain t _
    col-well t (Wr b c m x) z = judged-none (ColAt t (Wr b c m x)) _ refl ∙ write-well s t buffered _ _ ch.lasts older newer b c m x ∙ comes-plain t _
    col-well t (Rd b c m true) z = not-both false z refl
    col-well t (Rd b c m false) z =
        judged-none (ColAt t (Rd b c m false)) _ refl ∙ read-well s t buffered _ _ ch.lasts older newer b c m ∙ rw (or-false buffered.two) (comes-plain t _)

    -- exactly where a record breaks no rule
    pub packet-well : (r : Record) (v : View) → seen_of r ≡ Packet v → is_plain r ≡ true → eqb (judged (context_of s) ch r) 0 ≡ well_at r v.bank
    unfolding seen_of
    packet-well (RowAt t p) v q z = let z : row_view t p ≡ v = cc in rw z at (row-well t p)
    packet-well (ColAt t p) v q z = let y : col_view t p ≡ v = cc in rw y at (col-well t p z)
    packet-well (DataOf t d) v q z = absurd (let z : ◌≡◌ {A = ℕ} 0 1 = cc in omega arith)
