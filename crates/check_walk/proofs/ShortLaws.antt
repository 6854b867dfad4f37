-- Records that are known by their numbers, and the turn of the walk that they take.
-- Assumes nothing.
use Rattle.std.specs.Prelude.{Some}
use Prim.Native.Nat.{ℕ, ◌+◌, ◌*◌, ◌/◌, ◌%◌, ◌^◌, ◌<◌, ◌≤◌, max}
use mathlib.Core.Path.{◌≡◌, refl, sym, ◌∙◌, ap, ap₂}
use mathlib.Core.Bool.{Bool, true, false, not, ◌&&◌, ◌||◌, cond}
use mathlib.Core.List.{List}
use native.Mathlib.Omega.{arith}
use native.Mathlib.Nat.{add-zero}
use borrow.Author.Tests.{eq-eqb, eqb-true, lt-ltb, ltb-true, leb-true, le-leb}
use lib.Dec.{eqb, ltb, leb}
use lib.ListN.{length, get_or, set}
use Rattle.num.specs.Bytes.{number, part}
use Rattle.settings.specs.declared.Settings.{Settings}
use Rattle.settings.specs.declared.PacketAt.{PacketAt}
use Rattle.settings.specs.Instants.{horizon}
use Rattle.packet.specs.declared.ColPacket.{ColPacket}
use Rattle.packet.specs.declared.ColPacket.TheVariants.{Rd}
use Rattle.packet.specs.Col.{mask_said, mask_of, col_of, col_decoded}
use Rattle.record.specs.declared.Record.{Record}
use Rattle.record.specs.declared.Record.TheVariants.{ColAt, DataOf}
use Rattle.record.specs.Record.{record_read, record_of, col_record}
use Rattle.record.proofs.RecordLaws.{field_in, head_in}
use Rattle.spec_rules.specs.declared.BankTrack.{BankTrack}
use Rattle.spec_rules.specs.declared.LastInstants.{LastInstants}
use Rattle.spec_rules.specs.declared.Buffer.{Buffer}
use Rattle.spec_rules.specs.declared.Buffer.TheVariants.{Empty, One, Two}
use Rattle.spec_rules.specs.declared.Channel.{Channel}
use Rattle.spec_rules.specs.Neighbour.{context_of}
use Rattle.spec_rules.specs.History.{is_open}
use Rattle.spec_rules.specs.Packets.{col_traits}
use Rattle.spec_rules.specs.Channel.{idle}
use Rattle.spec_rules.specs.Checks.{since, judged, channel_after}
use Rattle.spec_rules.proofs.Bools.{not-both, and_left, and_right}
use Rattle.chan_view.specs.declared.Held.{Held}
use Rattle.chan_view.specs.declared.Tracks.{Tracks}
use Rattle.chan_view.specs.declared.View.{View}
use Rattle.chan_view.specs.Form.Beside.{first_near, last_near, slot_of}
use Rattle.chan_view.specs.Form.View.{col_view, seen_of, held_of, leaves}
use Rattle.chan_step.specs.Form.Lasts.{lasts_by, lasts_next}
use Rattle.chan_judge.specs.Form.Tests.{data_rule}
use Rattle.chan_least.specs.Form.Least.{read_bound}
use Rattle.chan_least.specs.Form.Quick.{comes_well, act_by, reads_well, col_well, record_well}
use Rattle.check_walk.specs.declared.Latest.{Latest}
use Rattle.check_walk.specs.declared.Fields.{Fields}
use Rattle.check_walk.specs.Form.Turn.{view_in, tracks_with, channel_of}
use Rattle.check_walk.specs.Form.Walk.{place_in, records_via}
use Rattle.check_walk.specs.Form.Short.{fields_at, empty_at, bank_in, column_in, read_packet, read_record, data_record, reads_beside, reads_now, read_lasts}
use Rattle.check_walk.proofs.StopLaws.{holds}
use Rattle.check_walk.proofs.StoreLaws.{Within, Opened, opened-same, slot-in, with_rd}
use Rattle.check_walk.proofs.TurnLaws.{Turn, Implied, Stored, bank-here, after-here, holds-here, quick-here, quick-plain, plain_here, read_here, none_here, banks-here, length-here, opened-here, within-here, state-here}

-- ---- the words

record ReadFields (device w : ℕ) : Type 0 where
  head-is : w / 2 ^ 34 ≡ 2 ^ 5 + device
  gap_is : w / 2 ^ 28 % 2 ≡ 0
  cop-is : w / 2 ^ 17 % 16 ≡ 3
  m-is : w / 2 ^ 16 % 2 ≡ 0
  low-is : w % 2 ^ 16 ≡ device * 2 ^ 11

-- fields of a word by the numbers above them
even : (x y : ℕ) → x ≡ y * 2 → x % 2 ≡ 0
even x y e = omega arith

third : (x y : ℕ) → x ≡ y * 16 + 3 → x % 16 ≡ 3
third x y e = omega arith

read-fields : (device w bank column : ℕ) → device < 32 → bank < 32 → column < 128 → w ≡ (32 + device) * 2 ^ 34 + 3 * 2 ^ 17 + device * 2 ^ 11 + bank * 2 ^ 29 + column * 2 ^ 21 → ReadFields device w
read-fields device w bank column d b c e =
    let g : w / 2 ^ 28 ≡ ((32 + device) * 2 ^ 5 + bank) * 2 = omega arith in
    let o : w / 2 ^ 17 ≡ ((32 + device) * 2 ^ 13 + bank * 2 ^ 8 + column) * 16 + 3 = omega arith in
    let m : w / 2 ^ 16 ≡ ((32 + device) * 2 ^ 17 + bank * 2 ^ 12 + column * 2 ^ 4 + 3) * 2 = omega arith in
    record { head-is = omega arith; gap_is = even _ _ g; cop-is = third _ _ o; m-is = even _ _ m; low-is = omega arith }

-- the word of an RD with M = 0 to the bank and column that a word names
abbrev pub read_word : ℕ → ℕ → ℕ
read_word device w = (32 + device) * 2 ^ 34 + 3 * 2 ^ 17 + device * 2 ^ 11 + bank_in w * 2 ^ 29 + column_in w * 2 ^ 21

read-decoded : (device columns w : ℕ) → device < 32 → w ≡ read_word device w → column_in w < columns → col_decoded device columns w ≡ Some (read_packet w)
unfolding col_decoded col_of mask_said mask_of
read-decoded device columns w d e l =
    let f = read-fields device w (bank_in w) (column_in w) d (omega arith) (omega arith) e in
    rw (eq-eqb _ _ f.head-is, f.gap_is, f.cop-is, f.m-is, eq-eqb _ _ f.low-is, lt-ltb _ _ l)

-- as the code says it
pub read-says : (s : Settings) (w d c : ℕ) → s.device < 32 → d ≡ s.device → c ≡ s.columns → (eqb w (read_word d w) && ltb (column_in w) c) ≡ true → col_decoded s.device s.columns w ≡ Some (read_packet w)
read-says s w d c l dq cq p =
    let e : w ≡ read_word d w = eqb-true w (read_word d w) (and_left (eqb w (read_word d w)) _ p) in
    let m : column_in w < c = ltb-true (column_in w) c (and_right (eqb w (read_word d w)) _ p) in
    read-decoded s.device s.columns w l (rw dq at e) (rw cq at m)

-- ---- the records

module _ (s : Settings) (b : List ℕ) (i : ℕ) (h : i + 32 ≤ length b) (w : get_or b (i + 4) 0 < 256) where
  read_known : number (part b (i + 4) 4) ≡ 1 → (p : ColPacket) → col_decoded s.device s.columns (number (part b (i + 8) 8)) ≡ Some p → empty_at b i ≡ true
      → record_read s (part b i 32) ≡ Some (ColAt (record { 0 = number (part b i 4) }) p)
  unfolding record_read record_of col_record
  read_known k p d e =
      let f = head_in b i 1 h w (sym k) in
      let kind : number (part (part b i 32) 4 1) ≡ 1 = sym f.0 in
      let spare : number (part (part b i 32) 5 3) ≡ 0 = sym f.1 in
      rw (
        spare,
        kind,
        field_in b i 0 4 (omega arith),
        field_in b i 8 8 (omega arith),
        field_in b i 16 8 (omega arith),
        field_in b i 24 8 (omega arith),
        add-zero,
        and_left (eqb (number (part b (i + 16) 8)) 0) _ e,
        and_right (eqb (number (part b (i + 16) 8)) 0) _ e,
        d,
      )

  data-known : number (part b (i + 4) 4) ≡ 2 → number (part b (i + 8) 8) ≡ 0 → record_read s (part b i 32) ≡ Some (data_record b i)
  unfolding record_read record_of
  data-known k z =
      let f = head_in b i 2 h w (sym k) in
      let kind : number (part (part b i 32) 4 1) ≡ 2 = sym f.0 in
      let spare : number (part (part b i 32) 5 3) ≡ 0 = sym f.1 in
      rw (
        spare,
        kind,
        field_in b i 0 4 (omega arith),
        field_in b i 8 8 (omega arith),
        field_in b i 16 8 (omega arith),
        field_in b i 24 8 (omega arith),
        add-zero,
        z,
      )

  pub read_found : (f : Fields) → f ≡ fields_at b i → f.head ≡ 1 → col_decoded s.device s.columns f.word ≡ Some (read_packet f.word) → empty_at b i ≡ true → record_read s (part b i 32) ≡ Some (read_record f)
  read_found f q k d e = rw q (read_known (rw q at k) _ (rw q at d) e)

  pub data-found : (x y : ℕ) → x ≡ number (part b (i + 4) 4) → y ≡ number (part b (i + 8) 8) → (eqb x 2 && eqb y 0) ≡ true → record_read s (part b i 32) ≡ Some (data_record b i)
  data-found x y p q e = data-known (sym p ∙ eqb-true x 2 (and_left (eqb x 2) _ e)) (sym q ∙ eqb-true y 0 (and_right (eqb x 2) _ e))

-- ---- the tests

record Free (h : Held) : Type 0 where
  no_due : h.due ≡ false
  not-two : h.two ≡ false
  no-close : h.close ≡ false
  no-next : h.next_close ≡ false

none_of : (a b : Bool) → not (a || b) ≡ true → (a ≡ false) × (b ≡ false)
none_of true b e = not-both false e refl
none_of false true e = not-both false e refl
none_of false false e = (refl, refl)

beside-free : (b : Buffer) (due : Bool) → reads_beside b due ≡ true → Free (held_of b due)
unfolding reads_beside held_of
beside-free Empty due e = record { no_due = refl; not-two = refl; no-close = refl; no-next = refl }
beside-free (One x) due e = let n = none_of due x.close e in record { no_due = n.0; not-two = refl; no-close = n.1; no-next = refl }
beside-free (Two x y) due e = not-both false e refl

-- what is asked where there was none is enough
since-within : (last gap t : ℕ) → leb (last + gap) t ≡ true → since last gap ≤ t
since-within last gap t e = go (eqb last 0)
  where
    go : (z : Bool) → cond z 0 (last + gap) ≤ t
    go true = omega arith
    go false = leb-true (last + gap) t e

three-within : (a b c t : ℕ) → a ≤ t → b ≤ t → c ≤ t → max a (max b c) ≤ t
three-within a b c t x y z = omega arith

read-well : (s : Settings) (t : PacketAt) (x c : ℕ) (b : Buffer) (due : Bool) (k : Tracks) (l : LastInstants) (act : ℕ) → reads_beside b due ≡ true → reads_now s t l k.own ≡ true
    → record_well s (ColAt t (Rd x c 0xFFFF false)) (held_of b due) k l act ≡ true
unfolding record_well col_well reads_well read_bound
read-well s t x c b due k l act e n =
    let f = beside-free b due e in
    let ranged : Bool = leb 4 t.0 && leb (t.0 + s.cac) horizon in
    let order : Bool = leb l.packet.0 t.0 && leb (l.col.0 + s.cc) t.0 in
    let row : Bool = is_open k.own.bank && leb (k.own.act.0 + s.rcd) t.0 in
    let a : ranged ≡ true = and_left ranged (order && row) n in
    let o : order ≡ true = and_left order row (and_right ranged (order && row) n) in
    let r : row ≡ true = and_right order row (and_right ranged (order && row) n) in
    let a0 : leb 4 t.0 ≡ true = and_left (leb 4 t.0) _ a in
    let a1 : leb (t.0 + s.cac) horizon ≡ true = and_right (leb 4 t.0) _ a in
    let m0 : t.0 + s.cac ≤ horizon = leb-true _ _ a1 in
    let a2 : leb t.0 horizon ≡ true = le-leb t.0 horizon (omega arith) in
    let r0 : is_open k.own.bank ≡ true = and_left (is_open k.own.bank) _ r in
    let o0 : l.packet.0 ≤ t.0 = leb-true _ _ (and_left (leb l.packet.0 t.0) _ o) in
    let o1 : since l.col.0 s.cc ≤ t.0 = since-within l.col.0 s.cc t.0 (and_right (leb l.packet.0 t.0) _ o) in
    let r1 : since k.own.act.0 s.rcd ≤ t.0 = since-within k.own.act.0 s.rcd t.0 (and_right (is_open k.own.bank) _ r) in
    let least : ℕ = max l.packet.0 (max (since l.col.0 s.cc) (since k.own.act.0 s.rcd)) in
    let bound : leb least t.0 ≡ true = le-leb least t.0 (three-within _ _ _ t.0 o0 o1 r1) in
    rw (f.no_due, f.not-two, f.no-close, f.no-next, a0, a1, a2, r0, bound)

-- ---- the turns

module _ (s : Settings) (per : ℕ) (b : List ℕ) (n i : ℕ) (lt : i < n) (banks : List BankTrack) (l : LastInstants) (buffer : Buffer) (latest : Latest) where
  abbrev records : List Record
  records = records_via (context_of s).settings per b n

  abbrev before : Channel
  before = channel_of banks l buffer latest.due

  -- the state before a turn
  pub record Before : Type 0 where
    pub state-is : before ≡ channel_after (context_of s) records i
    pub size : length banks ≡ 32
    pub top : Opened latest.opened banks
    pub within : Within buffer

  -- what a turn that breaks no rule leaves
  pub record After (m : List BankTrack) (k : LastInstants) : Type 0 where
    pub state-next : channel_of m k buffer false ≡ channel_after (context_of s) records (i + 1)
    pub size-next : length m ≡ 32
    pub top-next : Opened latest.opened m
    pub held-here : holds (context_of s) per b n i ≡ true

  module _ (q : Before) where
    abbrev held : Held
    held = held_of buffer latest.due

    abbrev TurnOf : Record → ℕ → Type 0
    TurnOf r x = Turn s r banks l buffer latest (view_in (seen_of r)) held x (first_near s x) (last_near s x) (slot_of held.bank) (slot_of held.next)

    abbrev tracks_at : ℕ → Tracks
    tracks_at x = tracks_with (get_or banks x idle) (get_or banks (first_near s x) idle) (get_or banks (last_near s x) idle) (get_or banks (slot_of held.bank) idle) (get_or banks (slot_of held.next) idle)

    turn-of : (r : Record) (e : record_read s (part b (place_in per i) 32) ≡ Some r) (x : ℕ) → x ≡ slot_of (view_in (seen_of r)).bank → TurnOf r x
    turn-of r e x o =
        record {
          size = q.size;
          top = q.top;
          within = q.within;
          inside = bank-here s per b n i lt r e;
          view = refl;
          held = refl;
          own = o;
          low = refl;
          high = refl;
          waiting = refl;
          second = refl;
        }

    pub read-turn : (f : Fields) → record_read s (part b (place_in per i) 32) ≡ Some (read_record f) → (x : ℕ) → x ≡ bank_in f.word
        → reads_beside buffer latest.due && reads_now s f.at l (get_or banks x idle) ≡ true → After (set banks x (with_rd f.at.0 (get_or banks x idle))) (read_lasts f.at l)
    unfolding view_in seen_of col_view lasts_next col_traits
    read-turn f e x o p =
        let r : Record = read_record f in
        let m : List BankTrack = set banks x (with_rd f.at.0 (get_or banks x idle)) in
        let own : x ≡ slot_of (bank_in f.word) = o ∙ sym (slot-in (bank_in f.word) (omega arith)) in
        let t : TurnOf r x = turn-of r e x own in
        let k : Tracks = tracks_at x in
        let well = read-well s f.at (bank_in f.word) (column_in f.word) buffer latest.due k l (act_by s k (record { 0 = latest.opened })) (and_left (reads_beside buffer latest.due) _ p) (and_right (reads_beside buffer latest.due) _ p) in
        let ok : Bool = record_well s r held k l (act_by s k (record { 0 = latest.opened })) in
        let zero : judged (context_of s) before r ≡ 0 = quick-here t k ok refl refl well in
        let implied : Implied t banks l = plain_here t banks l (quick-plain t k ok refl refl well) refl refl in
        let stored : Stored t banks l implied m buffer latest.opened = read_here t banks l implied m buffer latest.opened refl refl refl refl refl refl in
        let same = banks-here t banks l implied m stored.0 in
        record {
          state-next = ap₂ (λ (m : List BankTrack) (c : Buffer). channel_of m (read_lasts f.at l) c false) same stored.1 ∙ state-here t banks l implied ∙ after-here s per b n i lt r e before q.state-is;
          size-next = ap length same ∙ length-here t banks l implied;
          top-next = opened-same _ _ _ same (opened-here t banks l implied);
          held-here = holds-here s per b n i lt r e before q.state-is zero;
        }

    pub data-turn : record_read s (part b (place_in per i) 32) ≡ Some (data_record b (place_in per i)) → eqb (data_rule s held (record { 0 = number (part b (place_in per i) 4) })) 0 ≡ true → After banks l
    unfolding view_in seen_of record_well lasts_next
    data-turn e p =
        let r : Record = data_record b (place_in per i) in
        let t : TurnOf r 0 = turn-of r e 0 refl in
        let k : Tracks = tracks_at 0 in
        let ok : Bool = record_well s r held k l (act_by s k (record { 0 = latest.opened })) in
        let zero : judged (context_of s) before r ≡ 0 = quick-here t k ok refl refl p in
        let implied : Implied t banks l = plain_here t banks l (quick-plain t k ok refl refl p) refl refl in
        let stored : Stored t banks l implied banks buffer latest.opened = none_here t banks l implied banks buffer latest.opened refl refl refl refl refl refl refl in
        let same = banks-here t banks l implied banks stored.0 in
        record {
          state-next = ap₂ (λ (m : List BankTrack) (c : Buffer). channel_of m l c false) same stored.1 ∙ (state-here t banks l implied ∙ after-here s per b n i lt r e before q.state-is);
          size-next = q.size;
          top-next = q.top;
          held-here = holds-here s per b n i lt r e before q.state-is zero;
        }
