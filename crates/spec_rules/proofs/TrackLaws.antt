-- The tracked state is the summary of the earlier records: of a fresh channel and no records, and after each record that
-- breaks no rule.
-- Assumes nothing.
use Rattle.std.specs.Prelude.{Option, None, Some}
use Prim.Native.Nat.{ℕ, ◌+◌, ◌≤◌, ◌<◌, max}
use mathlib.Core.Path.{◌≡◌, refl, sym, ap, ◌∙◌}
use mathlib.Core.Bool.{Bool, true, false, not, ◌&&◌, ◌||◌, cond}
use mathlib.Core.List.{List, [], ◌∷◌}
use lib.Dec.{eqb, ltb}
use lib.ListN.{length, get_or, replicate, length-replicate, get_or-replicate, get_or-eq_default}
use borrow.Author.Tests.{ltb-true, ltb-false, ne_eqb}
use native.Mathlib.Omega.{arith}
use Rattle.settings.specs.declared.Settings.{Settings}
use Rattle.settings.specs.declared.PacketAt.{PacketAt}
use Rattle.settings.specs.declared.DataAt.{DataAt}
use Rattle.record.specs.declared.Dualoct.{Dualoct}
use Rattle.packet.specs.declared.RowPacket.{RowPacket}
use Rattle.packet.specs.declared.RowPacket.TheVariants.{Act, Prer, Refa, Refp}
use Rattle.packet.specs.declared.ColPacket.{ColPacket}
use Rattle.packet.specs.declared.ColPacket.TheVariants.{Nocop, Wr, Rd}
use Rattle.packet.specs.Row.{row_fits}
use Rattle.packet.specs.Col.{col_fits}
use Rattle.record.specs.declared.Record.{Record}
use Rattle.record.specs.declared.Record.TheVariants.{RowAt, ColAt, DataOf}
use Rattle.record.specs.Record.{record_fits}
use Rattle.spec_rules.specs.declared.Bank.{Bank}
use Rattle.spec_rules.specs.declared.Bank.TheVariants.{Closed}
use Rattle.spec_rules.specs.declared.BankTrack.{BankTrack}
use Rattle.spec_rules.specs.declared.Write.{Write}
use Rattle.spec_rules.specs.declared.Buffer.{Buffer}
use Rattle.spec_rules.specs.declared.Buffer.TheVariants.{Empty, One, Two}
use Rattle.spec_rules.specs.declared.Channel.{Channel}
use Rattle.spec_rules.specs.Neighbour.{bank_count, Context, near}
use Rattle.spec_rules.specs.Packets.{Traits, on_pins, traits, row_traits, col_traits, retire_traits, implied_traits, instant, is_packet}
use Rattle.spec_rules.specs.History.{bank_by, bank_after, is_closed, closed_by, bank_retired, closes_bank, retire_implies, only, is_implied, rest, only_write, passed, leaving, left, col_loads, loads, queued, joined, waiting_next, waiting_after, Event, reaches, closes, event_of, events, has, Deed, retire_deeds, implied_deeds, deeds, after_deeds, done}
use Rattle.spec_rules.specs.Rules.{due_after}
use Rattle.spec_rules.specs.Channel.{idle, fresh, track_of, state_of, waiting_of, buffer_of, newest_due, due_of, in_bank, imap, bank_next, track_next, after_packet, track_retired, after_retire, track_implied, after_implied, after_data, leaving_of, after}
use Rattle.spec_rules.proofs.Bools.{not-both, and_left}
use Rattle.spec_rules.proofs.ListLaws.{length-imap, get_or-imap}
use Rattle.spec_rules.proofs.HistoryLaws.{last_of, Sorted, last_within, Within, All}
use Rattle.spec_rules.proofs.PrechargeLaws.{touches, Reaching}

-- ---- the events of one record, one by one: a packet itself, a retire, an implied PRER

abbrev pub packet_event : Context → (ℕ → Bank) → Record → Event
packet_event cx before r = event_of cx before (record { at = instant r; traits = traits r })

abbrev pub retire_event : ℕ → Write → Event
retire_event t w = record { at = t; traits = retire_traits w.bank; closed = λ x. false }

abbrev pub with_retire : ℕ → Option Write → List Event → List Event
with_retire t None h = h
with_retire t (Some w) h = retire_event t w ∷ h

abbrev pub implied_event : Context → (ℕ → Bank) → ℕ → ℕ → Event
implied_event cx before t b = record { at = t; traits = implied_traits b; closed = closes_bank cx before (Some b) }

abbrev pub with_implied : Context → (ℕ → Bank) → ℕ → Option ℕ → List Event → List Event
with_implied cx before t None h = h
with_implied cx before t (Some b) h = implied_event cx before t b ∷ h

-- the deeds of a COL packet, which is no PRER itself
done-col : (cx : Context) (before : ℕ → Bank) (t u : ℕ) (x : Deed) (o : Option Write) (c q : Option ℕ) (h : List Event) → x.traits.precharges ≡ None
    → done cx before (implied_deeds u q (x ∷ implied_deeds u c (retire_deeds t o))) h
    ≡ with_implied cx (λ y. closed_by cx c y (before y)) u q (event_of cx (λ y. closed_by cx c y (before y)) x ∷ with_implied cx before u c (with_retire t o h))
unfolding retire_traits implied_traits
done-col cx before t u x None None None h e = refl
done-col cx before t u x (Some w) None None h e = refl
done-col cx before t u x None (Some a) None h e = refl
done-col cx before t u x (Some w) (Some a) None h e = refl
done-col cx before t u x None None (Some b) h e =
    ap (λ (z : Option ℕ). implied_event cx (λ y. closed_by cx z y (before y)) u b ∷ done cx before (x ∷ []) h) e
done-col cx before t u x (Some w) None (Some b) h e =
    ap (λ (z : Option ℕ). implied_event cx (λ y. closed_by cx z y (before y)) u b ∷ done cx before (x ∷ retire_deeds t (Some w)) h) e
done-col cx before t u x None (Some a) (Some b) h e =
    ap (λ (z : Option ℕ). implied_event cx (λ y. closed_by cx z y (closed_by cx (Some a) y (before y))) u b ∷ done cx before (x ∷ implied_deeds u (Some a) []) h) e
done-col cx before t u x (Some w) (Some a) (Some b) h e =
    ap (λ (z : Option ℕ). implied_event cx (λ y. closed_by cx z y (closed_by cx (Some a) y (before y))) u b ∷ done cx before (x ∷ implied_deeds u (Some a) (retire_deeds t (Some w))) h) e

-- an implied PRER is nothing else
pub record Bare (k : Traits) : Type 0 where
  pub bank : ℕ
  pub is : k ≡ implied_traits bank

-- the banks of an event are below 32
pub record Fine (cx : Context) (e : Event) : Type 0 where
  pub opens_in : Within bank_count e.traits.opens
  pub acts-in : Within bank_count e.traits.acts
  pub reads-in : Within bank_count e.traits.reads
  pub retired-in : Within bank_count e.traits.retires
  pub reaching : Reaching cx e
  pub bare : is_implied e.traits ≡ true → Bare e.traits

-- every event but an implied PRER
abbrev pub timed : Event → Bool
timed e = not (is_implied e.traits)

-- the last instants are those of the events
pub record Lasts (cx : Context) (ch : Channel) (h : List Event) : Type 0 where
  pub sorted : Sorted h
  pub fine : All (Fine cx) h
  pub size : length ch.banks ≡ bank_count
  pub last : ch.lasts.packet.0 ≡ last_of (λ e. on_pins e.traits) h
  pub row : ch.lasts.row.0 ≡ last_of (λ e. e.traits.row) h
  pub col : ch.lasts.col.0 ≡ last_of (λ e. e.traits.col) h
  pub pre : ch.lasts.pre.0 ≡ last_of (λ e. has e.traits.precharges) h
  pub rd : ch.lasts.rd.0 ≡ last_of (λ e. has e.traits.reads) h
  pub implied : ch.lasts.implied.0 ≡ last_of (λ e. is_implied e.traits) h
  pub opened : (x : ℕ) → x < bank_count → (track_of ch x).opened.0 ≡ last_of (λ e. in_bank e.traits.opens x) h
  pub acts : (x : ℕ) → x < bank_count → (track_of ch x).act.0 ≡ last_of (λ e. in_bank e.traits.acts x) h
  pub pres : (x : ℕ) → x < bank_count → (track_of ch x).pre.0 ≡ last_of (touches x) h
  pub rds : (x : ℕ) → x < bank_count → (track_of ch x).rd.0 ≡ last_of (λ e. in_bank e.traits.reads x) h
  pub retires : (x : ℕ) → x < bank_count → (track_of ch x).retire.0 ≡ last_of (λ e. in_bank e.traits.retires x) h

-- the banks of waiting writes are below 32
abbrev pub WritesIn : List Write → Type 0
WritesIn [] = Unit {0}
WritesIn (w ∷ ws) = (w.bank < bank_count) × WritesIn ws

abbrev pub WritesOf : Option Write → Type 0
WritesOf None = Unit {0}
WritesOf (Some w) = w.bank < bank_count

-- the whole state is that of the records es, newest first
pub record Tracks (cx : Context) (ch : Channel) (es : List Record) : Type 0 where
  pub lasts : Lasts cx ch (events cx es)
  pub capped : last_of timed (events cx es) ≤ ch.lasts.packet.0
  pub state : (x : ℕ) → state_of ch x ≡ bank_after cx es x
  pub waiting : waiting_of ch.buffer ≡ waiting_after cx es
  pub waiting-in : WritesIn (waiting_after cx es)
  pub due : due_of cx ch ≡ due_after cx es

-- ---- the banks of a record that fits

pub record Inside (r : Record) : Type 0 where
  pub opens_in : Within bank_count (traits r).opens
  pub acts-in : Within bank_count (traits r).acts
  pub precharges-in : Within bank_count (traits r).precharges
  pub reads-in : Within bank_count (traits r).reads
  pub writes-in : Within bank_count (traits r).writes
  pub implies-in : Within bank_count (traits r).implies

pub fits-inside : (s : Settings) (r : Record) → record_fits s r ≡ true → Inside r
unfolding record_fits row_fits col_fits traits row_traits col_traits bank_count
fits-inside s (RowAt t (Act b row)) e =
    let m : b < 32 = ltb-true b 32 (and_left (ltb b 32) _ e) in
    record { opens_in = m; acts-in = m; precharges-in = tt; reads-in = tt; writes-in = tt; implies-in = tt }
fits-inside s (RowAt t (Prer b)) e = record { opens_in = tt; acts-in = tt; precharges-in = ltb-true b 32 e; reads-in = tt; writes-in = tt; implies-in = tt }
fits-inside s (RowAt t (Refa b)) e = record { opens_in = ltb-true b 32 e; acts-in = tt; precharges-in = tt; reads-in = tt; writes-in = tt; implies-in = tt }
fits-inside s (RowAt t (Refp b)) e = record { opens_in = tt; acts-in = tt; precharges-in = ltb-true b 32 e; reads-in = tt; writes-in = tt; implies-in = tt }
fits-inside s (ColAt t (Nocop m)) e = record { opens_in = tt; acts-in = tt; precharges-in = tt; reads-in = tt; writes-in = tt; implies-in = tt }
fits-inside s (ColAt t (Wr b c m x)) e =
    record { opens_in = tt; acts-in = tt; precharges-in = tt; reads-in = tt; writes-in = ltb-true b 32 (and_left (ltb b 32) _ e); implies-in = tt }
fits-inside s (ColAt t (Rd b c m true)) e =
    let l : b < 32 = ltb-true b 32 (and_left (ltb b 32) _ e) in
    record { opens_in = tt; acts-in = tt; precharges-in = tt; reads-in = l; writes-in = tt; implies-in = l }
fits-inside s (ColAt t (Rd b c m false)) e =
    record { opens_in = tt; acts-in = tt; precharges-in = tt; reads-in = ltb-true b 32 (and_left (ltb b 32) _ e); writes-in = tt; implies-in = tt }
fits-inside s (DataOf t d) e = record { opens_in = tt; acts-in = tt; precharges-in = tt; reads-in = tt; writes-in = tt; implies-in = tt }

-- a packet is on the pins, and neither a retire nor an implied PRER
pub packet-pins : (r : Record) → is_packet r ≡ true → (on_pins (traits r) ≡ true) × ((traits r).retires ≡ None) × (is_implied (traits r) ≡ false)
unfolding traits row_traits col_traits is_packet
packet-pins (RowAt t (Act b row)) e = (refl, refl, refl)
packet-pins (RowAt t (Prer b)) e = (refl, refl, refl)
packet-pins (RowAt t (Refa b)) e = (refl, refl, refl)
packet-pins (RowAt t (Refp b)) e = (refl, refl, refl)
packet-pins (ColAt t (Nocop m)) e = (refl, refl, refl)
packet-pins (ColAt t (Wr b c m x)) e = (refl, refl, refl)
packet-pins (ColAt t (Rd b c m x)) e = (refl, refl, refl)
packet-pins (DataOf t d) e = not-both false e refl

-- ---- the last instants after a packet, after a retire, and after an implied PRER

-- a last instant, where a test says whether it is a new one
cond-at : (b : Bool) (t : ℕ) (p : PacketAt) (l : ℕ) → p.0 ≡ l → (b ≡ true → l ≤ t) → (cond b (record { 0 = t }) p).0 ≡ cond b (max t l) l
cond-at true t p l e m = let n : l ≤ t = m refl in omega arith
cond-at false t p l e m = e

has_in : (o : Option ℕ) (x : ℕ) → in_bank o x ≡ true → has o ≡ true
has_in None x e = e
has_in (Some b) x e = refl

has-reached : (cx : Context) (o : Option ℕ) (x : ℕ) → reaches cx o x ≡ true → has o ≡ true
has-reached cx None x e = e
has-reached cx (Some b) x e = refl

has-touched : (cx : Context) (o : Option ℕ) (x : ℕ) (c : Bool) → in_bank o x || (reaches cx o x && c) ≡ true → has o ≡ true
has-touched cx None x c e = e
has-touched cx (Some b) x c e = refl

module _ (cx : Context) (ch : Channel) (h : List Event) (k : Lasts cx ch h) where
  -- what is not said of an implied PRER is said of a timed event
  pub up-to-timed : (q : Traits → Bool) → ((b : ℕ) → q (implied_traits b) ≡ false) → last_of (λ e. q e.traits) h ≤ last_of timed h
  up-to-timed q z = last_within (λ e. q e.traits) timed (Fine cx) (λ e f m. go e f m (is_implied e.traits) refl) h k.fine
    where
      go : (e : Event) → Fine cx e → q e.traits ≡ true → (b : Bool) → is_implied e.traits ≡ b → not b ≡ true
      go e f m false i = refl
      go e f m true i = let n = f.bare i in not-both (q e.traits) m (rw n.is (z n.bank))

  -- the latest PRER bounds what it says of each bank, and the implied ones
  touched-le : (x : ℕ) → last_of (touches x) h ≤ ch.lasts.pre.0
  touched-le x = rw k.pre (last_within (touches x) (λ e. has e.traits.precharges) (Fine cx) (λ e f m. go e f (in_bank e.traits.precharges x) refl m) h k.fine)
    where
      go : (e : Event) → Fine cx e → (b : Bool) → in_bank e.traits.precharges x ≡ b → b || e.closed x ≡ true → has e.traits.precharges ≡ true
      go e f true i m = has_in e.traits.precharges x i
      go e f false i m = has-reached cx e.traits.precharges x (f.reaching.closed-reached x m)

  implied-le : last_of (λ e. is_implied e.traits) h ≤ ch.lasts.pre.0
  implied-le = rw k.pre (last_within (λ e. is_implied e.traits) (λ e. has e.traits.precharges) (Fine cx) (λ e f m. and_left (has e.traits.precharges) _ m) h k.fine)

  module _ (r : Record) (late : last_of timed h ≤ instant r) where
    track-next : (x : ℕ) → x < bank_count → get_or (imap (track_next cx ch r) 0 ch.banks) x idle ≡ track_next cx ch r x (track_of ch x)
    track-next x m = get_or-imap (track_next cx ch r) ch.banks x idle idle (rw k.size m)

    -- a last instant of bank x
    at_next : (f : BankTrack → PacketAt) (b : Bool) (x : ℕ) (q : Event → Bool) → x < bank_count → (b ≡ true → last_of q h ≤ instant r)
        → f (track_next cx ch r x (track_of ch x)) ≡ cond b (record { 0 = instant r }) (f (track_of ch x)) → (f (track_of ch x)).0 ≡ last_of q h
        → (f (track_of (after_packet cx ch r) x)).0 ≡ cond b (max (instant r) (last_of q h)) (last_of q h)
    unfolding after_packet
    at_next f b x q m u e g =
        ap (λ (y : BankTrack). (f y).0) (track-next x m) ∙ ap (λ (p : PacketAt). p.0) e ∙ cond-at b (instant r) (f (track_of ch x)) (last_of q h) g u

    -- a last instant of bank x that no packet changes
    at_same : (f : BankTrack → PacketAt) (x l : ℕ) → x < bank_count → f (track_next cx ch r x (track_of ch x)) ≡ f (track_of ch x) → (f (track_of ch x)).0 ≡ l
        → (f (track_of (after_packet cx ch r) x)).0 ≡ l
    unfolding after_packet
    at_same f x l m e g = ap (λ (y : BankTrack). (f y).0) (track-next x m) ∙ ap (λ (p : PacketAt). p.0) e ∙ g

    pub lasts-packet : (st : ℕ → Bank) → ((x : ℕ) → state_of ch x ≡ st x) → Inside r → is_packet r ≡ true → 4 ≤ instant r → (has (traits r).precharges ≡ true → ch.lasts.pre.0 ≤ instant r)
        → Lasts cx (after_packet cx ch r) (packet_event cx st r ∷ h)
    unfolding after_packet track_next implied_traits
    lasts-packet st same i packet low pre-late =
        let t : ℕ = instant r in
        let p = packet-pins r packet in
        let u : (q : Traits → Bool) → ((b : ℕ) → q (implied_traits b) ≡ false) → last_of (λ e. q e.traits) h ≤ t = λ q z. omega (arith, up-to-timed q z, late) in
        record {
          sorted = (low, k.sorted);
          fine = (
            record {
              opens_in = i.opens_in;
              acts-in = i.acts-in;
              reads-in = i.reads-in;
              retired-in = rw p.1 tt;
              reaching = record { precharges-in = i.precharges-in; closed-reached = λ x e. and_left (reaches cx (traits r).precharges x) _ e };
              bare = λ e. not-both (is_implied (traits r)) e p.2;
            },
            k.fine,
          );
          size = length-imap _ 0 ch.banks ∙ k.size;
          last = rw p.0 (let m : last_of (λ e. on_pins e.traits) h ≤ t = u on_pins (λ b. refl) in omega arith);
          row = cond-at (traits r).row t ch.lasts.row _ k.row (λ _. u (λ y. y.row) (λ b. refl));
          col = cond-at (traits r).col t ch.lasts.col _ k.col (λ _. u (λ y. y.col) (λ b. refl));
          pre = cond-at (has (traits r).precharges) t ch.lasts.pre _ k.pre (λ e. rw (← k.pre) (pre-late e));
          rd = cond-at (has (traits r).reads) t ch.lasts.rd _ k.rd (λ _. u (λ y. has y.reads) (λ b. refl));
          implied = rw p.2 k.implied;
          opened = λ x m. at_next (λ y. y.opened) (in_bank (traits r).opens x) x (λ e. in_bank e.traits.opens x) m (λ _. u (λ y. in_bank y.opens x) (λ b. refl)) refl (k.opened x m);
          acts = λ x m. at_next (λ y. y.act) (in_bank (traits r).acts x) x (λ e. in_bank e.traits.acts x) m (λ _. u (λ y. in_bank y.acts x) (λ b. refl)) refl (k.acts x m);
          pres = λ x m. at_next (λ y. y.pre) (in_bank (traits r).precharges x || closes cx st r x) x (touches x) m
              (λ e. omega (arith, touched-le x, pre-late (has-touched cx (traits r).precharges x (not (is_closed (st x))) e))) (rw (same x)) (k.pres x m);
          rds = λ x m. at_next (λ y. y.rd) (in_bank (traits r).reads x) x (λ e. in_bank e.traits.reads x) m (λ _. u (λ y. in_bank y.reads x) (λ b. refl)) refl (k.rds x m);
          retires = λ x m. rw p.1 (at_same (λ y. y.retire) x _ m refl (k.retires x m));
        }

  module _ (t : ℕ) (late : last_of timed h ≤ t) (w : Write) where
    track-left : (x : ℕ) → x < bank_count → track_of (after_retire t (Some w) ch) x ≡ track_retired t w x (track_of ch x)
    unfolding after_retire
    track-left x m = get_or-imap (track_retired t w) ch.banks x idle idle (rw k.size m)

    kept_at : (f : BankTrack → PacketAt) (x l : ℕ) → x < bank_count → f (track_retired t w x (track_of ch x)) ≡ f (track_of ch x) → (f (track_of ch x)).0 ≡ l
        → (f (track_of (after_retire t (Some w) ch) x)).0 ≡ l
    kept_at f x l m e g = ap (λ (y : BankTrack). (f y).0) (track-left x m) ∙ ap (λ (p : PacketAt). p.0) e ∙ g

    pub lasts-retire : w.bank < bank_count → 4 ≤ t → Lasts cx (after_retire t (Some w) ch) (retire_event t w ∷ h)
    unfolding after_retire track_retired retire_traits implied_traits
    lasts-retire i low =
        record {
          sorted = (low, k.sorted);
          fine = (
            record {
              opens_in = tt;
              acts-in = tt;
              reads-in = tt;
              retired-in = i;
              reaching = record { precharges-in = tt; closed-reached = λ x e. e };
              bare = λ e. not-both false e refl;
            },
            k.fine,
          );
          size = length-imap _ 0 ch.banks ∙ k.size;
          last = k.last;
          row = k.row;
          col = k.col;
          pre = k.pre;
          rd = k.rd;
          implied = k.implied;
          opened = λ x m. kept_at (λ y. y.opened) x _ m refl (k.opened x m);
          acts = λ x m. kept_at (λ y. y.act) x _ m refl (k.acts x m);
          pres = λ x m. kept_at (λ y. y.pre) x _ m refl (k.pres x m);
          rds = λ x m. kept_at (λ y. y.rd) x _ m refl (k.rds x m);
          retires = λ x m. ap (λ (y : BankTrack). y.retire.0) (track-left x m) ∙ cond-at (eqb x w.bank) t _ _ (k.retires x m) (λ _. omega (arith, up-to-timed (λ y. in_bank y.retires x) (λ b. refl), late));
        }

  module _ (t b : ℕ) where
    track-implied : (x : ℕ) → x < bank_count → track_of (after_implied cx t (Some b) ch) x ≡ track_implied cx (state_of ch) t b x (track_of ch x)
    unfolding after_implied
    track-implied x m = get_or-imap (track_implied cx (state_of ch) t b) ch.banks x idle idle (rw k.size m)

    still-at : (f : BankTrack → PacketAt) (x l : ℕ) → x < bank_count → f (track_implied cx (state_of ch) t b x (track_of ch x)) ≡ f (track_of ch x) → (f (track_of ch x)).0 ≡ l
        → (f (track_of (after_implied cx t (Some b) ch) x)).0 ≡ l
    still-at f x l m e g = ap (λ (y : BankTrack). (f y).0) (track-implied x m) ∙ ap (λ (p : PacketAt). p.0) e ∙ g

    pub lasts-implied : (st : ℕ → Bank) → ((x : ℕ) → state_of ch x ≡ st x) → b < bank_count → 4 ≤ t → ch.lasts.pre.0 ≤ t → Lasts cx (after_implied cx t (Some b) ch) (implied_event cx st t b ∷ h)
    unfolding after_implied track_implied implied_traits
    lasts-implied st same i low pre-late =
        record {
          sorted = (low, k.sorted);
          fine = (
            record {
              opens_in = tt;
              acts-in = tt;
              reads-in = tt;
              retired-in = tt;
              reaching = record { precharges-in = i; closed-reached = λ x e. and_left (reaches cx (Some b) x) _ e };
              bare = λ e. record { bank = b; is = refl };
            },
            k.fine,
          );
          size = length-imap _ 0 ch.banks ∙ k.size;
          last = k.last;
          row = k.row;
          col = k.col;
          pre = omega (arith, pre-late, k.pre);
          rd = k.rd;
          implied = omega (arith, pre-late, implied-le);
          opened = λ x m. still-at (λ y. y.opened) x _ m refl (k.opened x m);
          acts = λ x m. still-at (λ y. y.act) x _ m refl (k.acts x m);
          pres = λ x m. ap (λ (y : BankTrack). y.pre.0) (track-implied x m)
              ∙ rw (same x) (cond-at (eqb x b || closes_bank cx st (Some b) x) t (track_of ch x).pre (last_of (touches x) h) (k.pres x m) (λ _. omega (arith, touched-le x, pre-late)));
          rds = λ x m. still-at (λ y. y.rd) x _ m refl (k.rds x m);
          retires = λ x m. still-at (λ y. y.retire) x _ m refl (k.retires x m);
        }

-- ---- the banks after a record

cond_same : (c : Bool) (b : Bank) → cond c b b ≡ b
cond_same true b = refl
cond_same false b = refl

-- a packet to a bank below 32 leaves the numbers above closed
beyond : (cx : Context) (r : Record) (x : ℕ) → record_fits cx.settings r ≡ true → bank_count ≤ x → bank_next cx r x Closed ≡ Closed
unfolding record_fits row_fits bank_next bank_by bank_count
beyond cx (RowAt t (Act b row)) x e m = let h : b < 32 = ltb-true b 32 (and_left (ltb b 32) _ e) in rw (ne_eqb x b (λ q. omega arith))
beyond cx (RowAt t (Prer b)) x e m = cond_same (near cx b x) Closed
beyond cx (RowAt t (Refa b)) x e m = let h : b < 32 = ltb-true b 32 e in rw (ne_eqb x b (λ q. omega arith))
beyond cx (RowAt t (Refp b)) x e m = cond_same (near cx b x) Closed
beyond cx (ColAt t p) x e m = refl
beyond cx (DataOf t d) x e m = refl

-- a retire leaves the states
left-state : (cx : Context) (ch : Channel) (h : List Event) → Lasts cx ch h → (t : ℕ) (o : Option Write) (x : ℕ) → state_of (after_retire t o ch) x ≡ state_of ch x
unfolding after_retire track_retired
left-state cx ch h k t None x = refl
left-state cx ch h k t (Some w) x = go (ltb x bank_count) refl
  where
    go : (b : Bool) → ltb x bank_count ≡ b → state_of (after_retire t (Some w) ch) x ≡ state_of ch x
    go true e = ap (λ (y : BankTrack). y.bank) (get_or-imap (track_retired t w) ch.banks x idle idle (rw k.size (ltb-true x bank_count e)))
    go false e =
        let m : bank_count ≤ x = ltb-false x bank_count e in
        let n : length ch.banks ≡ bank_count = k.size in
        ap (λ (y : BankTrack). y.bank) (get_or-eq_default (imap (track_retired t w) 0 ch.banks) idle (omega (arith, length-imap (track_retired t w) 0 ch.banks)))
        ∙ sym (ap (λ (y : BankTrack). y.bank) (get_or-eq_default ch.banks idle (omega arith)))

state-packet : (cx : Context) (ch : Channel) → length ch.banks ≡ bank_count → (r : Record) → record_fits cx.settings r ≡ true → (x : ℕ)
    → state_of (after_packet cx ch r) x ≡ bank_next cx r x (state_of ch x)
unfolding after_packet track_next
state-packet cx ch n r f x = go (ltb x bank_count) refl
  where
    go : (b : Bool) → ltb x bank_count ≡ b → state_of (after_packet cx ch r) x ≡ bank_next cx r x (state_of ch x)
    go true e = ap (λ (y : BankTrack). y.bank) (get_or-imap (track_next cx ch r) ch.banks x idle idle (rw n (ltb-true x bank_count e)))
    go false e =
        let m : bank_count ≤ x = ltb-false x bank_count e in
        let shut : state_of ch x ≡ Closed = ap (λ (y : BankTrack). y.bank) (get_or-eq_default ch.banks idle (omega arith)) in
        ap (λ (y : BankTrack). y.bank) (get_or-eq_default (imap (track_next cx ch r) 0 ch.banks) idle (omega (arith, length-imap (track_next cx ch r) 0 ch.banks)))
        ∙ sym (beyond cx r x f m) ∙ ap (bank_next cx r x) (sym shut)

pub state-implied : (cx : Context) (ch : Channel) → length ch.banks ≡ bank_count → (t : ℕ) (o : Option ℕ) (x : ℕ) → state_of (after_implied cx t o ch) x ≡ closed_by cx o x (state_of ch x)
unfolding after_implied track_implied
state-implied cx ch n t None x = refl
state-implied cx ch n t (Some b) x = go (ltb x bank_count) refl
  where
    go : (q : Bool) → ltb x bank_count ≡ q → state_of (after_implied cx t (Some b) ch) x ≡ closed_by cx (Some b) x (state_of ch x)
    go true e = ap (λ (y : BankTrack). y.bank) (get_or-imap (track_implied cx (state_of ch) t b) ch.banks x idle idle (rw n (ltb-true x bank_count e)))
    go false e =
        let m : bank_count ≤ x = ltb-false x bank_count e in
        let shut : state_of ch x ≡ Closed = ap (λ (y : BankTrack). y.bank) (get_or-eq_default ch.banks idle (omega arith)) in
        ap (λ (y : BankTrack). y.bank) (get_or-eq_default (imap (track_implied cx (state_of ch) t b) 0 ch.banks) idle (omega (arith, length-imap (track_implied cx (state_of ch) t b) 0 ch.banks)))
        ∙ sym (cond_same (near cx b x) Closed) ∙ ap (λ (y : Bank). cond (near cx b x) Closed y) (sym shut)

-- ---- the waiting writes after a record

pub buffer-waiting : (b : Buffer) → buffer_of (waiting_of b) ≡ b
unfolding waiting_of buffer_of
buffer-waiting Empty = refl
buffer-waiting (One x) = refl
buffer-waiting (Two x y) = refl

pub waiting-joined : (o : Option Write) (b : Buffer) → waiting_of (buffer_of (joined o (waiting_of b))) ≡ joined o (waiting_of b)
unfolding waiting_of buffer_of
waiting-joined None b = ap waiting_of (buffer-waiting b)
waiting-joined (Some w) Empty = refl
waiting-joined (Some w) (One x) = refl
waiting-joined (Some w) (Two x y) = refl

waiting-rest : (b : Buffer) → waiting_of (buffer_of (rest (waiting_of b))) ≡ rest (waiting_of b)
unfolding waiting_of buffer_of
waiting-rest Empty = refl
waiting-rest (One x) = refl
waiting-rest (Two x y) = refl

pub waiting-left : (t : ℕ) (o : Option Write) (ch : Channel) → waiting_of (after_retire t o ch).buffer ≡ left o (waiting_of ch.buffer)
unfolding after_retire
waiting-left t None ch = refl
waiting-left t (Some w) ch = waiting-rest ch.buffer

pub row_keeps : (t : PacketAt) (p : RowPacket) → (traits (RowAt t p)).not_read ≡ false
unfolding traits row_traits
row_keeps t (Act b row) = refl
row_keeps t (Prer b) = refl
row_keeps t (Refa b) = refl
row_keeps t (Refp b) = refl

-- what does not take the COL pins, and RD, retires nothing
pub keeps-all : (cx : Context) (r : Record) (ws : List Write) → (traits r).not_read ≡ false → leaving cx ws r ≡ None
unfolding leaving
keeps-all cx r ws e = rw e

pub waiting-implied : (cx : Context) (t : ℕ) (o : Option ℕ) (ch : Channel) → (after_implied cx t o ch).buffer ≡ ch.buffer
unfolding after_implied
waiting-implied cx t None ch = refl
waiting-implied cx t (Some b) ch = refl

due-implied : (cx : Context) (t : ℕ) (o : Option ℕ) (ch : Channel) → (after_implied cx t o ch).due ≡ ch.due
unfolding after_implied
due-implied cx t None ch = refl
due-implied cx t (Some b) ch = refl

last-implied : (cx : Context) (t : ℕ) (o : Option ℕ) (ch : Channel) → (after_implied cx t o ch).lasts.packet ≡ ch.lasts.packet
unfolding after_implied
last-implied cx t None ch = refl
last-implied cx t (Some b) ch = refl

due-after : (cx : Context) (t : ℕ) (o : Option ℕ) (ch : Channel) → due_of cx (after_implied cx t o ch) ≡ due_of cx ch
unfolding due_of after_implied
due-after cx t None ch = refl
due-after cx t (Some b) ch = refl

pub after-waits : (cx : Context) (ch : Channel) (r : Record) → waiting_of (after cx ch r).buffer ≡ waiting_next cx r (waiting_of ch.buffer)
unfolding after after_packet after_data waiting_next loads traits
after-waits cx ch (RowAt t p) = waiting-joined None ch.buffer ∙ rw (keeps-all cx (RowAt t p) (waiting_of ch.buffer) (row_keeps t p))
after-waits cx ch (ColAt t p) =
    let o : Option Write = leaving_of cx ch (ColAt t p) in
    let c : Channel = after_retire t.0 o ch in
    ap waiting_of (waiting-implied cx (t.0 + cx.settings.offp) (col_traits p).implies _)
    ∙ ap (λ (b : Buffer). waiting_of (buffer_of (joined (col_loads t.0 p) (waiting_of b)))) (waiting-implied cx (t.0 + cx.settings.offp) (retire_implies o) c)
    ∙ waiting-joined (col_loads t.0 p) c.buffer ∙ rw (waiting-left t.0 o ch)
after-waits cx ch (DataOf t d) = rw (keeps-all cx (DataOf t d) (waiting_of ch.buffer) (data-keeps t d))
  where
    data-keeps : (t : DataAt) (d : Dualoct) → (traits (DataOf t d)).not_read ≡ false
    data-keeps t d = refl

writes-joined : (o : Option Write) (ws : List Write) → WritesOf o → WritesIn ws → WritesIn (joined o ws)
writes-joined None ws i k = k
writes-joined (Some w) [] i k = (i, tt)
writes-joined (Some w) (x ∷ ws) i k = (k.0, (i, tt))

writes-left : (o : Option Write) (ws : List Write) → WritesIn ws → WritesIn (left o ws)
writes-left None ws k = k
writes-left (Some w) [] k = tt
writes-left (Some w) (x ∷ ws) k = k.1

loads-in : (r : Record) → Inside r → WritesOf (loads r)
unfolding loads traits col_traits
loads-in (RowAt t p) i = tt
loads-in (ColAt t (Nocop m)) i = tt
loads-in (ColAt t (Wr b c m x)) i = i.writes-in
loads-in (ColAt t (Rd b c m x)) i = tt
loads-in (DataOf t d) i = tt

due-packet : (cx : Context) (ch : Channel) (es : List Record) (r : Record) → is_packet r ≡ true → due_of cx (after_packet cx ch r) ≡ due_after cx (r ∷ es)
unfolding due_of after_packet due_after traits row_traits col_traits loads is_packet
due-packet cx ch es (RowAt t (Act b row)) e = refl
due-packet cx ch es (RowAt t (Prer b)) e = refl
due-packet cx ch es (RowAt t (Refa b)) e = refl
due-packet cx ch es (RowAt t (Refp b)) e = refl
due-packet cx ch es (ColAt t (Nocop m)) e = refl
due-packet cx ch es (ColAt t (Wr b c m x)) e = rw (waiting-joined (Some (record { bank = b; column = c; at = record { 0 = t.0 }; close = x })) ch.buffer) (go (waiting_of ch.buffer))
  where
    go : (ws : List Write) → newest_due cx (queued ws (record { bank = b; column = c; at = record { 0 = t.0 }; close = x })) ≡ Some (t.0 + cx.settings.cwd)
    go [] = refl
    go (y ∷ ws) = refl
due-packet cx ch es (ColAt t (Rd b c m x)) e = refl
due-packet cx ch es (DataOf t d) e = not-both false e refl

-- ---- the whole state

pub tracks-fresh : (cx : Context) → Tracks cx fresh []
unfolding fresh events bank_after waiting_of waiting_after due_of due_after
tracks-fresh cx =
    let z : (x : ℕ) → x < bank_count → get_or (replicate bank_count idle) x idle ≡ idle = λ x m. get_or-replicate bank_count x idle idle m in
    record {
      lasts = record {
        sorted = tt;
        fine = tt;
        size = length-replicate bank_count idle;
        last = refl;
        row = refl;
        col = refl;
        pre = refl;
        rd = refl;
        implied = refl;
        opened = λ x m. rw (z x m);
        acts = λ x m. rw (z x m);
        pres = λ x m. rw (z x m);
        rds = λ x m. rw (z x m);
        retires = λ x m. rw (z x m);
      };
      capped = omega arith;
      state = λ x. always x (ltb x bank_count) refl;
      waiting = refl;
      waiting-in = tt;
      due = refl;
    }
  where
    always : (x : ℕ) (b : Bool) → ltb x bank_count ≡ b → (get_or (replicate bank_count idle) x idle).bank ≡ Closed
    always x true e = ap (λ (y : BankTrack). y.bank) (get_or-replicate bank_count x idle idle (ltb-true x bank_count e))
    always x false e =
        let m : bank_count ≤ x = ltb-false x bank_count e in
        ap (λ (y : BankTrack). y.bank) (get_or-eq_default (replicate bank_count idle) idle (omega (arith, length-replicate bank_count idle)))

lasts-data : (cx : Context) (ch : Channel) (h : List Event) → Lasts cx ch h → Lasts cx (after_data ch) h
unfolding after_data
lasts-data cx ch h q =
    record {
      sorted = q.sorted;
      fine = q.fine;
      size = q.size;
      last = q.last;
      row = q.row;
      col = q.col;
      pre = q.pre;
      rd = q.rd;
      implied = q.implied;
      opened = q.opened;
      acts = q.acts;
      pres = q.pres;
      rds = q.rds;
      retires = q.retires;
    }

-- ---- the steps of one packet

module _ (cx : Context) (ch : Channel) (h : List Event) (k : Lasts cx ch h) (t : ℕ) (low : 4 ≤ t) where
  lasts-left : last_of timed h ≤ t → (o : Option Write) → WritesOf o → Lasts cx (after_retire t o ch) (with_retire t o h)
  unfolding after_retire
  lasts-left late None i = k
  lasts-left late (Some w) i = lasts-retire cx ch h k t late w i low

  lasts-closed : (st : ℕ → Bank) → ((x : ℕ) → state_of ch x ≡ st x) → (o : Option ℕ) → Within bank_count o → (has o ≡ true → ch.lasts.pre.0 ≤ t)
      → Lasts cx (after_implied cx t o ch) (with_implied cx st t o h)
  unfolding after_implied
  lasts-closed st same None i late = k
  lasts-closed st same (Some b) i late = lasts-implied cx ch h k t b st same i low (late refl)

-- the latest timed event, where a retire or an implied PRER is added
timed-left : (t : ℕ) (o : Option Write) (h : List Event) → last_of timed h ≤ t → last_of timed (with_retire t o h) ≤ t
unfolding retire_traits
timed-left t None h late = late
timed-left t (Some w) h late = omega (arith, late)

timed-implied : (cx : Context) (st : ℕ → Bank) (u : ℕ) (o : Option ℕ) (h : List Event) → last_of timed (with_implied cx st u o h) ≡ last_of timed h
unfolding implied_traits
timed-implied cx st u None h = refl
timed-implied cx st u (Some b) h = refl

-- the last PRER after a retire, and after an implied PRER
pre-left : (t : ℕ) (o : Option Write) (ch : Channel) → (after_retire t o ch).lasts.pre ≡ ch.lasts.pre
unfolding after_retire
pre-left t None ch = refl
pre-left t (Some w) ch = refl

pre-closed : (cx : Context) (u : ℕ) (o : Option ℕ) (ch : Channel) → ch.lasts.pre.0 ≤ u → (after_implied cx u o ch).lasts.pre.0 ≤ u
unfolding after_implied
pre-closed cx u None ch l = l
pre-closed cx u (Some b) ch l = omega arith

within-closing : (o : Option Write) → WritesOf o → Within bank_count (retire_implies o)
within-closing None i = tt
within-closing (Some w) i = go w.close
  where
    go : (b : Bool) → Within bank_count (only b (Some w.bank))
    go true = i
    go false = tt

leaving-in : (cx : Context) (ws : List Write) (r : Record) → WritesIn ws → WritesOf (leaving cx ws r)
unfolding leaving
leaving-in cx [] r k = go ((traits r).not_read && false)
  where
    go : (b : Bool) → WritesOf (only_write b None)
    go true = tt
    go false = tt
leaving-in cx (w ∷ ws) r k = go ((traits r).not_read && passed cx (Some w) (instant r))
  where
    go : (b : Bool) → WritesOf (only_write b (Some w))
    go true = k.0
    go false = tt

module _ (cx : Context) (ch : Channel) (es : List Record) (k : Tracks cx ch es) where
  waiting-after : (r : Record) → waiting_of (after cx ch r).buffer ≡ waiting_after cx (r ∷ es)
  unfolding waiting_after
  waiting-after r = after-waits cx ch r ∙ ap (waiting_next cx r) k.waiting

  waiting-in-next : (r : Record) → Inside r → WritesIn (waiting_after cx (r ∷ es))
  unfolding waiting_after waiting_next
  waiting-in-next r i = writes-joined (loads r) _ (loads-in r i) (writes-left (leaving cx (waiting_after cx es) r) (waiting_after cx es) k.waiting-in)

  -- the state after a record that fits, and that comes in its time where it is a packet: after the last packet, and its PRERs after
  -- the last PRER
  pub record Timely (r : Record) : Type 0 where
    pub low : 4 ≤ instant r
    pub late : ch.lasts.packet.0 ≤ instant r
    pub own : has (traits r).precharges ≡ true → ch.lasts.pre.0 ≤ instant r
    pub left-implied : has (retire_implies (leaving_of cx ch r)) ≡ true → ch.lasts.pre.0 ≤ instant r + cx.settings.offp
    pub own-implied : has (traits r).implies ≡ true → ch.lasts.pre.0 ≤ instant r + cx.settings.offp

  col-precharges : (t : PacketAt) (p : ColPacket) → (traits (ColAt t p)).precharges ≡ None
  unfolding traits col_traits
  col-precharges t (Nocop m) = refl
  col-precharges t (Wr b c m x) = refl
  col-precharges t (Rd b c m x) = refl

  -- a COL packet: a retire, the PRER that it implies, the packet, the PRER that it implies itself
  abbrev col_after : PacketAt → ColPacket → Option Write → Channel
  col_after t p o =
      after_implied cx (t.0 + cx.settings.offp) (traits (ColAt t p)).implies (after_packet cx (after_implied cx (t.0 + cx.settings.offp) (retire_implies o) (after_retire t.0 o ch)) (ColAt t p))

  abbrev then_bank : Option Write → ℕ → Bank
  then_bank o x = closed_by cx (retire_implies o) x (bank_after cx es x)

  abbrev col_events : PacketAt → ColPacket → Option Write → List Event
  col_events t p o =
      with_implied cx (then_bank o) (t.0 + cx.settings.offp) (traits (ColAt t p)).implies
      (packet_event cx (then_bank o) (ColAt t p) ∷ with_implied cx (bank_after cx es) (t.0 + cx.settings.offp) (retire_implies o) (with_retire t.0 o (events cx es)))

  col-step : (t : PacketAt) (p : ColPacket) → record_fits cx.settings (ColAt t p) ≡ true → (o : Option Write) → WritesOf o → Inside (ColAt t p)
      → (4 ≤ t.0) × (has (retire_implies o) ≡ true → ch.lasts.pre.0 ≤ t.0 + cx.settings.offp) × (has (traits (ColAt t p)).implies ≡ true → ch.lasts.pre.0 ≤ t.0 + cx.settings.offp) → last_of timed (events cx es) ≤ t.0
      → Lasts cx (col_after t p o) (col_events t p o)
      × (last_of timed (col_events t p o) ≤ (col_after t p o).lasts.packet.0)
      × ((x : ℕ) → state_of (col_after t p o) x ≡ closed_by cx (traits (ColAt t p)).implies x (then_bank o x))
  unfolding is_packet instant bank_next after_packet
  col-step t p f o oi i y late =
      let r : Record = ColAt t p in
      let u : ℕ = t.0 + cx.settings.offp in
      let h : List Event = events cx es in
      let c1 : Channel = after_retire t.0 o ch in
      let l1 : Lasts cx c1 (with_retire t.0 o h) = lasts-left cx ch h k.lasts t.0 y.0 late o oi in
      let s1 : (x : ℕ) → state_of c1 x ≡ bank_after cx es x = λ x. left-state cx ch h k.lasts t.0 o x ∙ k.state x in
      let c2 : Channel = after_implied cx u (retire_implies o) c1 in
      let h2 : List Event = with_implied cx (bank_after cx es) u (retire_implies o) (with_retire t.0 o h) in
      let l2 : Lasts cx c2 h2 = lasts-closed cx c1 (with_retire t.0 o h) l1 u (omega (arith, y.0)) (bank_after cx es) s1 (retire_implies o) (within-closing o oi) (λ e. rw (pre-left t.0 o ch) (y.1 e)) in
      let s2 : (x : ℕ) → state_of c2 x ≡ then_bank o x = λ x. state-implied cx c1 l1.size u (retire_implies o) x ∙ ap (closed_by cx (retire_implies o) x) (s1 x) in
      let late2 : last_of timed h2 ≤ t.0 = rw (timed-implied cx (bank_after cx es) u (retire_implies o) (with_retire t.0 o h)) (timed-left t.0 o h late) in
      let l3 : Lasts cx (after_packet cx c2 r) (packet_event cx (then_bank o) r ∷ h2) =
      lasts-packet cx c2 h2 l2 r late2 (then_bank o) s2 i refl y.0 (λ e. not-both (has (traits r).precharges) e (ap has (col-precharges t p))) in
      let s3 : (x : ℕ) → state_of (after_packet cx c2 r) x ≡ then_bank o x = λ x. state-packet cx c2 l2.size r f x ∙ s2 x in (
        lasts-closed cx (after_packet cx c2 r) (packet_event cx (then_bank o) r ∷ h2) l3 u (omega (arith, y.0)) (then_bank o) s3 (traits r).implies i.implies-in
            (λ e. packet-pre t p c2 u (pre-closed cx u (retire_implies o) c1 (rw (pre-left t.0 o ch) (y.2 e)))),
        rw (timed-implied cx (then_bank o) u (traits r).implies (packet_event cx (then_bank o) r ∷ h2), last-implied cx u (traits r).implies (after_packet cx c2 r)) (packet-capped t p c2 h2 late2),
        λ x. state-implied cx (after_packet cx c2 r) l3.size u (traits r).implies x ∙ ap (closed_by cx (traits r).implies x) (s3 x),
      )
    where
      packet-pre : (t : PacketAt) (p : ColPacket) (c : Channel) (u : ℕ) → c.lasts.pre.0 ≤ u → (after_packet cx c (ColAt t p)).lasts.pre.0 ≤ u
      packet-pre t p c u l = rw (col-precharges t p) l

      packet-capped : (t : PacketAt) (p : ColPacket) (c : Channel) (h : List Event) → last_of timed h ≤ t.0
          → last_of timed (packet_event cx (then_bank o) (ColAt t p) ∷ h) ≤ (after_packet cx c (ColAt t p)).lasts.packet.0
      packet-capped t p c h l = rw (packet-pins (ColAt t p) refl).2 (omega (arith, l))

  events-col : (t : PacketAt) (p : ColPacket) → events cx (ColAt t p ∷ es) ≡ col_events t p (leaving cx (waiting_after cx es) (ColAt t p))
  unfolding events deeds instant
  events-col t p =
      let o : Option Write = leaving cx (waiting_after cx es) (ColAt t p) in
      done-col cx (bank_after cx es) t.0 (t.0 + cx.settings.offp) (record { at = t.0; traits = traits (ColAt t p) }) o (retire_implies o) (traits (ColAt t p)).implies
      (events cx es) (col-precharges t p)

  pub tracks-step : (r : Record) → record_fits cx.settings r ≡ true → (is_packet r ≡ true → Timely r) → Tracks cx (after cx ch r) (r ∷ es)
  unfolding after after_packet after_data events deeds is_packet bank_after bank_next instant due_of due_after
  tracks-step (RowAt t p) f in-time =
      let r : Record = RowAt t p in
      let i : Inside r = fits-inside cx.settings r f in
      let y : Timely r = in-time refl in
      let late : last_of timed (events cx es) ≤ t.0 = omega (arith, k.capped, y.late) in
      record {
        lasts = lasts-packet cx ch (events cx es) k.lasts r late (bank_after cx es) k.state i refl y.low y.own;
        capped = row-capped t p late;
        state = λ x. state-packet cx ch k.lasts.size r f x ∙ row-state t p x;
        waiting = waiting-after r;
        waiting-in = waiting-in-next r i;
        due = due-packet cx ch es r refl;
      }
    where
      row-capped : (t : PacketAt) (p : RowPacket) → last_of timed (events cx es) ≤ t.0 → last_of timed (packet_event cx (bank_after cx es) (RowAt t p) ∷ events cx es) ≤ (after_packet cx ch (RowAt t p)).lasts.packet.0
      row-capped t p late = rw (packet-pins (RowAt t p) refl).2 (omega (arith, late))

      row-state : (t : PacketAt) (p : RowPacket) (x : ℕ) → bank_next cx (RowAt t p) x (state_of ch x) ≡ bank_by cx p x (bank_after cx es x)
      row-state t p x = ap (bank_by cx p x) (k.state x)
  tracks-step (ColAt t p) f in-time =
      let r : Record = ColAt t p in
      let i : Inside r = fits-inside cx.settings r f in
      let y : Timely r = in-time refl in
      let late : last_of timed (events cx es) ≤ t.0 = omega (arith, k.capped, y.late) in
      let o : Option Write = leaving_of cx ch r in
      let same : o ≡ leaving cx (waiting_after cx es) r = ap (λ (ws : List Write). leaving cx ws r) k.waiting in
      let oi : WritesOf o = rw same (leaving-in cx (waiting_after cx es) r k.waiting-in) in
      let all = col-step t p f o oi i (y.low, y.left-implied, y.own-implied) late in
      record {
        lasts = rw (events-col t p, ← same) all.0;
        capped = rw (events-col t p, ← same) all.1;
        state = λ x. rw (← same) (all.2 x);
        waiting = waiting-after r;
        waiting-in = waiting-in-next r i;
        due = due-after cx (t.0 + cx.settings.offp) (traits r).implies _ ∙ due-packet cx (after_implied cx (t.0 + cx.settings.offp) (retire_implies o) (after_retire t.0 o ch)) es r refl;
      }
  tracks-step (DataOf t d) f in-time =
      record {
        lasts = lasts-data cx ch (events cx es) k.lasts;
        capped = k.capped;
        state = k.state;
        waiting = waiting-after (DataOf t d);
        waiting-in = waiting-in-next (DataOf t d) (fits-inside cx.settings (DataOf t d) f);
        due = due-data;
      }
    where
      due-data : due_of cx (after cx ch (DataOf t d)) ≡ due_after cx (DataOf t d ∷ es)
      due-data = refl
