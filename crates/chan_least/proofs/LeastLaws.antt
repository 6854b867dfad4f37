-- The bounds by command are those of the table of distances, so the least instant by them is that of the rules.
-- Assumes nothing.
use Rattle.std.specs.Prelude.{Some}
use Prim.Native.Nat.{ℕ, ◌+◌, ◌-◌, max}
use mathlib.Core.Path.{◌≡◌, refl, ap, ap₂, ◌∙◌, sym}
use mathlib.Core.Bool.{Bool, true, false, not, ◌&&◌, ◌||◌, or-false, cond}
use native.Mathlib.Nat.{add-zero}
use native.Mathlib.Omega.{arith}
use borrow.Author.Tests.{eqb-true}
use lib.Dec.{eqb, leb}
use lib.ListN.{length}
use Rattle.settings.specs.declared.Settings.{Settings}
use Rattle.settings.specs.declared.PacketAt.{PacketAt}
use Rattle.settings.specs.declared.DataAt.{DataAt}
use Rattle.packet.specs.declared.RowPacket.{RowPacket}
use Rattle.packet.specs.declared.RowPacket.TheVariants.{Act, Prer, Refa, Refp}
use Rattle.packet.specs.declared.ColPacket.{ColPacket}
use Rattle.packet.specs.declared.ColPacket.TheVariants.{Nocop, Wr, Rd}
use Rattle.record.specs.declared.Record.{Record}
use Rattle.record.specs.declared.Record.TheVariants.{RowAt, ColAt, DataOf}
use Rattle.spec_rules.specs.declared.Write.{Write}
use Rattle.spec_rules.specs.declared.Buffer.{Buffer}
use Rattle.spec_rules.specs.declared.Buffer.TheVariants.{Empty, One, Two}
use Rattle.spec_rules.specs.declared.Channel.{Channel}
use Rattle.spec_rules.specs.Neighbour.{bank_count, context_of, near}
use Rattle.spec_rules.specs.Packets.{Traits, traits, row_traits, col_traits, retire_traits}
use Rattle.spec_rules.specs.History.{only, any_write, has}
use Rattle.spec_rules.specs.Distances.{Kind, ACT, only_act, PRER, RD, retire, distances}
use Rattle.spec_rules.specs.Channel.{track_of, waiting_of}
use Rattle.spec_rules.specs.Checks.{since, last_at, bound_banks, bounds}
use Rattle.spec_rules.specs.Earliest.{earliest, bound_implied, may_stay, slot_from, least_from}
use Rattle.spec_rules.specs.Earliest as Earliest
use Rattle.spec_rules.proofs.ByCommand.{act-bounds, refa-bounds, prer-bounds, nocop-bounds, rd-bounds, wr-bounds, retire-bounds, implied-bounds}
use Rattle.spec_rules.proofs.Bools.{and_left}
use Rattle.spec_rules.proofs.ByRule.{act-once}
use Rattle.chan_view.specs.declared.View.{View}
use Rattle.chan_view.specs.declared.Seen.TheVariants.{Packet, Data}
use Rattle.chan_view.specs.declared.Held.{Held}
use Rattle.chan_view.specs.declared.Tracks.{Tracks}
use Rattle.chan_view.specs.Form.Beside.{low_of, high_of, tracks_of}
use Rattle.chan_view.specs.Form.Bounds.{bound_if, three}
use Rattle.chan_view.specs.Form.View.{row_view, col_view, seen_of, held_of}
use Rattle.chan_view.proofs.BoundLaws.{near-bound, own-bound, since-max}
use Rattle.chan_view.proofs.ViewLaws.{Shows, seen-shows, stays-is}
use Rattle.chan_judge.specs.Form.Tests.{act_over}
use Rattle.chan_least.specs.Form.Least.{on_row, on_col, open_bound, close_bound, implied_bound, read_bound, write_bound, nocop_bound, retire_bound, packet_bound, may_stay_by, leaves_from, retire_least, centre_by, least_by}

-- no distance asks the earlier instant itself
pub since-zero : (n : ℕ) → since n 0 ≡ n
since-zero n = go (eqb n 0) refl
  where
    go : (c : Bool) → eqb n 0 ≡ c → cond c 0 (n + 0) ≡ n
    go true e = omega (arith, eqb-true)
    go false e = add-zero n

max_assoc : (a b c : ℕ) → max a (max b c) ≡ max (max a b) c
max_assoc a b c = omega arith

-- what is asked last, apart
open-parts : (a b c d : ℕ) → max a (max b (max c d)) ≡ max (max (max a b) c) d
open-parts a b c d = omega arith

close-parts : (a b c d e : ℕ) → max a (max b (max c (max d e))) ≡ max (max a (max b (max c d))) e
close-parts a b c d e = ap (λ (n : ℕ). max a (max b n)) (max_assoc c d e) ∙ ap (max a) (max_assoc b (max c d) e) ∙ max_assoc a (max b (max c d)) e

-- no PRER asks nothing, however much earlier
max_none : (a g : ℕ) → max a (0 - g) ≡ a
max_none a g = omega arith

-- three instants ask what the latest of them does
pub three-since : (a b c gap : ℕ) → three a b c gap ≡ since (max (max a b) c) gap
three-since a b c gap = sym (since-max (max a b) c gap ∙ ap (λ (n : ℕ). max n (since c gap)) (since-max a b gap))

module _ (s : Settings) (ch : Channel) (e : length ch.banks ≡ 32) where
  -- a bank and its neighbours ask what the latest of them does
  pub near-latest : (a : Kind) (gap b : ℕ) → bound_banks (context_of s) ch (near (context_of s)) a gap b
      ≡ since (max (max (last_at (track_of ch b) a) (last_at (track_of ch (low_of s b)) a)) (last_at (track_of ch (high_of s b)) a)) gap
  near-latest a gap b = near-bound s ch e a gap b ∙ three-since (last_at (track_of ch b) a) (last_at (track_of ch (low_of s b)) a) (last_at (track_of ch (high_of s b)) a) gap

  abbrev bounds_by : View → Held → ℕ
  bounds_by v w = packet_bound s v (tracks_of s ch.banks v.bank (centre_by w v) w) (act_over s ch.banks v.bank) ch.lasts

  -- an implied PRER that is still due
  abbrev due : ℕ
  due = since ch.lasts.implied.0 0

  -- rules 5 and 7, and 17
  open-asks : (b : ℕ) → let cx = context_of s in
      max (bound_banks cx ch (near cx) ACT s.rc b) (max (bound_banks cx ch (λ b x. not (near cx b x)) ACT s.rr b) (max (bound_banks cx ch (near cx) PRER s.rp b) due))
      ≡ max (max (act_over s ch.banks b) (since (max (max (track_of ch b).pre.0 (track_of ch (low_of s b)).pre.0) (track_of ch (high_of s b)).pre.0) s.rp)) ch.lasts.implied.0
  unfolding act_over bank_count context_of
  open-asks b = open-parts _ _ _ due ∙ ap₂ max (ap₂ max (act-once (context_of s) ch b) (near-latest PRER s.rp b)) (since-zero ch.lasts.implied.0)

  -- rules 6, 8 and 13, and of a packet 17
  abbrev near_by : Kind → ℕ → ℕ → ℕ
  near_by a gap b = since (max (max (last_at (track_of ch b) a) (last_at (track_of ch (low_of s b)) a)) (last_at (track_of ch (high_of s b)) a)) gap

  abbrev prer_by : ℕ → ℕ
  prer_by b = max (near_by ACT s.ras b) (max (since ch.lasts.pre.0 s.pp) (max (near_by RD s.rdp b) (near_by retire s.rtp b)))

  prer-asks : (b : ℕ) → let cx = context_of s in
      max (bound_banks cx ch (near cx) ACT s.ras b) (max (since ch.lasts.pre.0 s.pp) (max (bound_banks cx ch (near cx) RD s.rdp b) (bound_banks cx ch (near cx) retire s.rtp b)))
      ≡ prer_by b
  prer-asks b = ap₂ max (near-latest ACT s.ras b) (ap (max (since ch.lasts.pre.0 s.pp)) (ap₂ max (near-latest RD s.rdp b) (near-latest retire s.rtp b)))

  close-asks : (b : ℕ) → let cx = context_of s in
      max (bound_banks cx ch (near cx) ACT s.ras b)
      (max (since ch.lasts.pre.0 s.pp) (max (bound_banks cx ch (near cx) RD s.rdp b) (max (bound_banks cx ch (near cx) retire s.rtp b) due)))
      ≡ max (prer_by b) ch.lasts.implied.0
  close-asks b = close-parts _ _ _ _ due ∙ ap₂ max (prer-asks b) (since-zero ch.lasts.implied.0)

  -- an implied PRER, where there is one
  abbrev implied_at : ℕ → ℕ
  implied_at b = implied_bound s ch.lasts (track_of ch b) (track_of ch (low_of s b)) (track_of ch (high_of s b))

  implied-asks : (r : Record) (c : Bool) (b : ℕ) → bound_implied (context_of s) ch r (only c (Some b)) - s.offp ≡ bound_if c (implied_at b)
  unfolding implied_bound context_of
  implied-asks r true b = ap (λ (n : ℕ). n - s.offp) (implied-bounds (context_of s) ch b ∙ prer-asks b)
  implied-asks r false b = omega arith

  -- rule 10 of a WR, and 11
  write-asks : (b : ℕ) → max (bound_banks (context_of s) ch (λ b x. eqb x b) only_act (s.rcd - s.rtr) b) (since ch.lasts.rd.0 (s.cc + s.cac - s.cwd))
      ≡ max (since (track_of ch b).act.0 (s.rcd - s.rtr)) (since ch.lasts.rd.0 (s.cc + s.cac - s.cwd))
  write-asks b = ap (λ (n : ℕ). max n (since ch.lasts.rd.0 (s.cc + s.cac - s.cwd))) (own-bound s ch e only_act (s.rcd - s.rtr) b)

  -- rules 1, 2 and 17; rules 1 and 3
  on_row_lem : {x : ℕ} (y : ℕ) → x ≡ max y ch.lasts.implied.0 → max (since ch.lasts.packet.0 0) (max (since ch.lasts.row.0 4) x) ≡ on_row ch.lasts y
  on_row_lem y q = ap₂ (λ (n m : ℕ). max n (max (since ch.lasts.row.0 4) m)) (since-zero ch.lasts.packet.0) q

  on-col : {x y : ℕ} → x ≡ y → max (since ch.lasts.packet.0 0) (max (since ch.lasts.col.0 s.cc) x) ≡ on_col s ch.lasts y
  on-col q = ap₂ (λ (n m : ℕ). max n (max (since ch.lasts.col.0 s.cc) m)) (since-zero ch.lasts.packet.0) q

  row-bounds : (t : PacketAt) (p : RowPacket) (w : Held) → bounds (context_of s) ch (row_traits p) ≡ bounds_by (row_view t p) w
  unfolding packet_bound open_bound close_bound row_view context_of row_traits
  row-bounds t (Act b row) w = act-bounds (context_of s) ch b row ∙ on_row_lem _ (open-asks b)
  row-bounds t (Prer b) w = prer-bounds (context_of s) ch b ∙ on_row_lem _ (close-asks b)
  row-bounds t (Refa b) w = refa-bounds (context_of s) ch b ∙ on_row_lem _ (open-asks b)
  row-bounds t (Refp b) w = prer-bounds (context_of s) ch b ∙ on_row_lem _ (close-asks b)

  -- what the table asks of a packet and, tOFFP later, of the PRER that it implies
  abbrev asked : Record → ℕ
  asked r = max (bounds (context_of s) ch (traits r)) (bound_implied (context_of s) ch r (traits r).implies - s.offp)

  row-asked : (t : PacketAt) (p : RowPacket) (w : Held) → asked (RowAt t p) ≡ bounds_by (row_view t p) w
  unfolding traits row_traits
  row-asked t (Act b row) w = max_none _ s.offp ∙ row-bounds t (Act b row) w
  row-asked t (Prer b) w = max_none _ s.offp ∙ row-bounds t (Prer b) w
  row-asked t (Refa b) w = max_none _ s.offp ∙ row-bounds t (Refa b) w
  row-asked t (Refp b) w = max_none _ s.offp ∙ row-bounds t (Refp b) w

  col-asked : (t : PacketAt) (p : ColPacket) (w : Held) → asked (ColAt t p) ≡ bounds_by (col_view t p) w
  unfolding packet_bound read_bound write_bound nocop_bound col_view context_of traits col_traits
  col-asked t (Nocop m) w = max_none _ s.offp ∙ nocop-bounds (context_of s) ch m ∙ on-col refl
  col-asked t (Wr b c m x) w = max_none _ s.offp ∙ wr-bounds (context_of s) ch b c m x ∙ on-col (write-asks b)
  col-asked t (Rd b c m true) w =
      ap₂ max (rd-bounds (context_of s) ch b c m true ∙ on-col (own-bound s ch e only_act s.rcd b)) (implied-asks (ColAt t (Rd b c m true)) true b)
  col-asked t (Rd b c m false) w =
      ap₂ max (rd-bounds (context_of s) ch b c m false ∙ on-col (own-bound s ch e only_act s.rcd b)) (implied-asks (ColAt t (Rd b c m false)) false b)

  pub packet-asked : (r : Record) (v : View) → seen_of r ≡ Packet v → (w : Held) → asked r ≡ bounds_by v w
  unfolding seen_of
  packet-asked (RowAt t p) v q w = let z : row_view t p ≡ v = cc in rw z at (row-asked t p w)
  packet-asked (ColAt t p) v q w = let z : col_view t p ≡ v = cc in rw z at (col-asked t p w)
  packet-asked (DataOf t d) v q w = absurd (let z : ◌≡◌ {A = ℕ} 0 1 = cc in omega arith)

  -- ---- what leaves

  -- a retire: rules 10 and 12
  retire-asks : (w : Write) → max (w.at.0 + s.rtr) (bounds (context_of s) ch (retire_traits w.bank)) ≡ retire_bound s w.at (track_of ch w.bank).act
  unfolding retire_bound context_of
  retire-asks w = ap (max (w.at.0 + s.rtr)) (retire-bounds (context_of s) ch w.bank ∙ own-bound s ch e only_act s.rcd w.bank)

  -- and the PRER that it implies
  abbrev retired_by : Write → ℕ → ℕ
  retired_by w c =
      max (retire_bound s w.at (track_of ch w.bank).act)
      (bound_if w.close (implied_bound s ch.lasts (track_of ch w.bank) (track_of ch (low_of s c)) (track_of ch (high_of s c))))

  retired-asks : (r : Record) (w : Write) → Earliest.retire_bound (context_of s) ch r w ≡ retired_by w w.bank
  unfolding context_of
  retired-asks r w = max_assoc _ _ _ ∙ ap₂ max (retire-asks w) (implied-asks r w.close w.bank)

  abbrev held : Held
  held = held_of ch.buffer ch.due

  module _ (r : Record) (v : View) (shows : Shows r v) (free : ℕ) where
    closes-is : (b : Buffer) → any_write (λ w. w.close) (waiting_of b) ≡ ((held_of b ch.due).close || (held_of b ch.due).next_close)
    unfolding waiting_of held_of
    closes-is Empty = refl
    closes-is (One x) = refl
    closes-is (Two x y) = rw (or-false y.close)

    may-stay-is : (b : Buffer) → may_stay (context_of s) ch r (waiting_of b) ≡ may_stay_by (held_of b ch.due) v
    may-stay-is b = ap₂ ◌&&◌ (stays-is s b ch.due r v shows) (rw (closes-is b, shows.traits-of, flag v.writes v.bank))
      where
        flag : (c : Bool) (x : ℕ) → has (only c (Some x)) ≡ c
        flag true x = refl
        flag false x = refl

    -- whether the older write leaves, at n after its WR
    leaves-is : (b : Buffer) (n : ℕ)
        → ((traits r).not_read && (not (may_stay (context_of s) ch r (waiting_of b)) || leb n free)) ≡ (v.other && (not (may_stay_by (held_of b ch.due) v) || leb n free))
    leaves-is b n = ap₂ (λ (x y : Bool). x && (not y || leb n free)) (ap (λ (k : Traits). k.not_read) shows.traits-of) (may-stay-is b)

    -- a packet that retires a closing write has the tracks around that write's bank
    retires-is : (w : Write) → v.other ≡ true → Earliest.retire_bound (context_of s) ch r w ≡ retired_by w (cond (v.other && w.close) w.bank v.bank)
    retires-is w o = retired-asks r w ∙ go w.close refl
      where
        go : (c : Bool) → w.close ≡ c → retired_by w w.bank ≡ retired_by w (cond (v.other && w.close) w.bank v.bank)
        go true q = rw (o, q)
        go false q = rw (o, q)

    slot-by : (w : Write) (c d : Bool) → c ≡ d → (d ≡ true → v.other ≡ true)
        → cond c (max free (Earliest.retire_bound (context_of s) ch r w)) free ≡ cond d (max free (retired_by w (cond (v.other && w.close) w.bank v.bank))) free
    slot-by w c true p f = rw p (ap (max free) (retires-is w (f refl)))
    slot-by w c false p f = rw p

    slot_is : (b : Buffer) → let h = held_of b ch.due in
        slot_from (context_of s) ch r free (waiting_of b) ≡ cond (leaves_from s h v free) (max free (retire_least s h (tracks_of s ch.banks v.bank (centre_by h v) h) ch.lasts)) free
    unfolding held_of waiting_of context_of retire_least
    slot_is Empty = refl
    slot_is (One x) = slot-by x _ _ (leaves-is (One x) (x.at.0 + s.rtr)) (and_left v.other _)
    slot_is (Two x y) = slot-by x _ _ (leaves-is (Two x y) (x.at.0 + s.rtr)) (and_left v.other _)

  -- ---- the least instant

  abbrev around : View → Tracks
  around v = tracks_of s ch.banks v.bank (centre_by held v) held

  -- rule 5's bound is not asked of a packet that opens no bank
  act-unused : (v : View) (a : ℕ) → packet_bound s v (around v) (bound_if v.opens a) ch.lasts ≡ packet_bound s v (around v) a ch.lasts
  unfolding packet_bound
  act-unused v a = go v.opens refl
    where
      go : (u : Bool) → v.opens ≡ u → packet_bound s v (around v) (bound_if v.opens a) ch.lasts ≡ packet_bound s v (around v) a ch.lasts
      go true q = rw q
      go false q = rw q

  pub least-packet : (r : Record) (v : View) → seen_of r ≡ Packet v → (now : ℕ)
      → least_by s v held (around v) (bound_if v.opens (act_over s ch.banks v.bank)) ch.lasts now ≡ least_from (context_of s) ch r now
  unfolding least_by least_from earliest context_of
  least-packet r v q now =
      rw (act-unused v (act_over s ch.banks v.bank), ← packet-asked r v q held)
      (sym (slot_is r v (seen-shows r v q) (max now (max 4 (asked r))) ch.buffer))

  pub least-data : (r : Record) (t : DataAt) → seen_of r ≡ Data t → (now : ℕ) → max now 4 ≡ least_from (context_of s) ch r now
  unfolding least_from earliest seen_of bounds traits distances waiting_of context_of
  least-data (RowAt u p) t q now = absurd (let z : ◌≡◌ {A = ℕ} 0 1 = cc in omega arith)
  least-data (ColAt u p) t q now = absurd (let z : ◌≡◌ {A = ℕ} 0 1 = cc in omega arith)
  least-data (DataOf u d) t q now = ap (max now) nothing ∙ go ch.buffer (max now (max 4 (max 0 (0 - s.offp))))
    where
      nothing : 4 ≡ max 4 (max 0 (0 - s.offp))
      nothing = omega arith

      go : (b : Buffer) (free : ℕ) → free ≡ slot_from (context_of s) ch (DataOf u d) free (waiting_of b)
      go Empty free = refl
      go (One x) free = refl
      go (Two x y) free = refl
