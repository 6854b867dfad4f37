-- A claim of every last instant of a state, and one of the WR of each waiting write: a record whose instant, and that of the PRER which
-- it implies, keeps both keeps them.
-- Assumes nothing.
use Rattle.std.specs.Prelude.{Option, None, Some}
use Prim.Native.Nat.{ℕ, ◌+◌, ◌<◌}
use mathlib.Core.Path.{◌≡◌, refl, ◌∙◌}
use mathlib.Core.Bool.{Bool, true, false, ◌||◌, cond}
use mathlib.Core.List.{List, [], ◌∷◌}
use lib.Dec.{eqb}
use lib.ListN.{length}
use Rattle.settings.specs.declared.PacketAt.{PacketAt}
use Rattle.packet.specs.declared.ColPacket.TheVariants.{Nocop, Wr, Rd}
use Rattle.record.specs.declared.Record.{Record}
use Rattle.record.specs.declared.Record.TheVariants.{RowAt, ColAt, DataOf}
use Rattle.spec_rules.specs.declared.BankTrack.{BankTrack}
use Rattle.spec_rules.specs.declared.Write.{Write}
use Rattle.spec_rules.specs.declared.Channel.{Channel}
use Rattle.spec_rules.specs.Neighbour.{bank_count, Context}
use Rattle.spec_rules.specs.Packets.{traits, instant}
use Rattle.spec_rules.specs.History.{left, loads, joined, waiting_next, retire_implies, closes_bank, closes, has}
use Rattle.spec_rules.specs.Channel.{idle, track_of, state_of, waiting_of, in_bank, track_next, after_packet, track_retired, after_retire, track_implied, after_implied, after_data, leaving_of, after}
use Rattle.spec_rules.proofs.ListLaws.{length-imap, get_or-imap}
use Rattle.spec_rules.proofs.TrackLaws.{after-waits}

pub record TrackAll (P : ℕ → Type 0) (k : BankTrack) : Type 0 where
  pub opened : P k.opened.0
  pub act : P k.act.0
  pub pre : P k.pre.0
  pub rd : P k.rd.0
  pub retire : P k.retire.0

abbrev pub WritesAll : (ℕ → Type 0) → List Write → Type 0
WritesAll Q [] = Unit {0}
WritesAll Q (w ∷ ws) = Q w.at.0 × WritesAll Q ws

-- but for the waiting writes
pub record LastsAll (P : ℕ → Type 0) (ch : Channel) : Type 0 where
  pub size : length ch.banks ≡ bank_count
  pub banks : (x : ℕ) → x < bank_count → TrackAll P (track_of ch x)
  pub packet : P ch.lasts.packet.0
  pub row : P ch.lasts.row.0
  pub col : P ch.lasts.col.0
  pub pre : P ch.lasts.pre.0
  pub rd : P ch.lasts.rd.0
  pub implied : P ch.lasts.implied.0

pub record All (P Q : ℕ → Type 0) (ch : Channel) : Type 0 where
  pub lasts : LastsAll P ch
  pub writes : WritesAll Q (waiting_of ch.buffer)

-- ---- the writes that wait after a record

module _ (Q : ℕ → Type 0) where
  writes-left : (o : Option Write) (ws : List Write) → WritesAll Q ws → WritesAll Q (left o ws)
  writes-left None ws k = k
  writes-left (Some w) [] k = tt
  writes-left (Some w) (x ∷ ws) k = k.1

  writes-joined : (r : Record) (ws : List Write) → Q (instant r) → WritesAll Q ws → WritesAll Q (joined (loads r) ws)
  unfolding loads instant
  writes-joined (RowAt t p) ws e k = k
  writes-joined (ColAt t (Nocop m)) ws e k = k
  writes-joined (ColAt t (Wr b c m x)) [] e k = (e, tt)
  writes-joined (ColAt t (Wr b c m x)) (w ∷ ws) e k = (k.0, (e, tt))
  writes-joined (ColAt t (Rd b c m x)) ws e k = k
  writes-joined (DataOf t d) ws e k = k

-- ---- the last instants after a record

module _ (P : ℕ → Type 0) where
  pick : (b : Bool) (t : ℕ) (before : PacketAt) → P t → P before.0 → P (cond b (record { 0 = t }) before).0
  pick true t before e h = e
  pick false t before e h = h

  module _ (cx : Context) (ch : Channel) (k : LastsAll P ch) where
    packet-all : (r : Record) → P (instant r) → LastsAll P (after_packet cx ch r)
    unfolding after_packet track_next
    packet-all r e =
        let t : ℕ = instant r in
        let at : (x : ℕ) → x < bank_count → track_of (after_packet cx ch r) x ≡ track_next cx ch r x (track_of ch x) = λ x m. get_or-imap (track_next cx ch r) ch.banks x idle idle (rw k.size m) in
        record {
          size = length-imap _ 0 ch.banks ∙ k.size;
          banks = λ x m. rw (at x m)
              (record {
                opened = pick (in_bank (traits r).opens x) t _ e (k.banks x m).opened;
                act = pick (in_bank (traits r).acts x) t _ e (k.banks x m).act;
                pre = pick (in_bank (traits r).precharges x || closes cx (state_of ch) r x) t _ e (k.banks x m).pre;
                rd = pick (in_bank (traits r).reads x) t _ e (k.banks x m).rd;
                retire = (k.banks x m).retire;
              });
          packet = e;
          row = pick (traits r).row t ch.lasts.row e k.row;
          col = pick (traits r).col t ch.lasts.col e k.col;
          pre = pick (has (traits r).precharges) t ch.lasts.pre e k.pre;
          rd = pick (has (traits r).reads) t ch.lasts.rd e k.rd;
          implied = k.implied;
        }

    retire-all : (t : ℕ) (o : Option Write) → P t → LastsAll P (after_retire t o ch)
    unfolding after_retire track_retired
    retire-all t None e = k
    retire-all t (Some w) e =
        let at : (x : ℕ) → x < bank_count → track_of (after_retire t (Some w) ch) x ≡ track_retired t w x (track_of ch x) = λ x m. get_or-imap (track_retired t w) ch.banks x idle idle (rw k.size m) in
        record {
          size = length-imap _ 0 ch.banks ∙ k.size;
          banks = λ x m. rw (at x m)
              (record {
                opened = (k.banks x m).opened;
                act = (k.banks x m).act;
                pre = (k.banks x m).pre;
                rd = (k.banks x m).rd;
                retire = pick (eqb x w.bank) t _ e (k.banks x m).retire;
              });
          packet = k.packet;
          row = k.row;
          col = k.col;
          pre = k.pre;
          rd = k.rd;
          implied = k.implied;
        }

    implied-all : (t : ℕ) (o : Option ℕ) → (has o ≡ true → P t) → LastsAll P (after_implied cx t o ch)
    unfolding after_implied track_implied
    implied-all t None e = k
    implied-all t (Some b) e =
        let at : (x : ℕ) → x < bank_count → track_of (after_implied cx t (Some b) ch) x ≡ track_implied cx (state_of ch) t b x (track_of ch x) = λ x m. get_or-imap (track_implied cx (state_of ch) t b) ch.banks x idle idle (rw k.size m) in
        record {
          size = length-imap _ 0 ch.banks ∙ k.size;
          banks = λ x m. rw (at x m)
              (record {
                opened = (k.banks x m).opened;
                act = (k.banks x m).act;
                pre = pick (eqb x b || closes_bank cx (state_of ch) (Some b) x) t _ (e refl) (k.banks x m).pre;
                rd = (k.banks x m).rd;
                retire = (k.banks x m).retire;
              });
          packet = k.packet;
          row = k.row;
          col = k.col;
          pre = e refl;
          rd = k.rd;
          implied = e refl;
        }

-- ---- a record whose instants keep the claims

-- the claim of the PRER that a record implies, by itself or by the retire that it makes
abbrev pub Implied : (ℕ → Type 0) → Context → Channel → Record → Type 0
Implied P cx ch r = (has (retire_implies (leaving_of cx ch r)) ≡ true → P (instant r + cx.settings.offp)) × (has (traits r).implies ≡ true → P (instant r + cx.settings.offp))

module _ (P Q : ℕ → Type 0) (cx : Context) (ch : Channel) (k : All P Q ch) where
  lasts_after : (r : Record) → P (instant r) → Implied P cx ch r → LastsAll P (after cx ch r)
  unfolding after after_data instant
  lasts_after (RowAt t p) e i = packet-all P cx ch k.lasts (RowAt t p) e
  lasts_after (ColAt t p) e i =
      let r : Record = ColAt t p in
      let o : Option Write = leaving_of cx ch r in
      let u : ℕ = t.0 + cx.settings.offp in
      let c1 : Channel = after_retire t.0 o ch in
      let c2 : Channel = after_implied cx u (retire_implies o) c1 in
      let k2 : LastsAll P c2 = implied-all P cx c1 (retire-all P cx ch k.lasts t.0 o e) u (retire_implies o) i.0 in
      implied-all P cx (after_packet cx c2 r) (packet-all P cx c2 k2 r e) u (traits r).implies i.1
  lasts_after (DataOf t d) e i =
      let l = k.lasts in
      record { size = l.size; banks = l.banks; packet = l.packet; row = l.row; col = l.col; pre = l.pre; rd = l.rd; implied = l.implied }

  pub after-all : (r : Record) → P (instant r) → Implied P cx ch r → Q (instant r) → All P Q (after cx ch r)
  unfolding waiting_next
  after-all r e i f =
      record {
        lasts = lasts_after r e i;
        writes = rw (after-waits cx ch r) (writes-joined Q r (left (leaving_of cx ch r) (waiting_of ch.buffer)) f (writes-left Q (leaving_of cx ch r) (waiting_of ch.buffer) k.writes));
      }

-- ---- weaker claims

writes_more : (Q R : ℕ → Type 0) → ((t : ℕ) → Q t → R t) → (ws : List Write) → WritesAll Q ws → WritesAll R ws
writes_more Q R f [] k = tt
writes_more Q R f (w ∷ ws) k = (f w.at.0 k.0, writes_more Q R f ws k.1)

track-more : (P R : ℕ → Type 0) → ((t : ℕ) → P t → R t) → (k : BankTrack) → TrackAll P k → TrackAll R k
track-more P R f k a = record { opened = f _ a.opened; act = f _ a.act; pre = f _ a.pre; rd = f _ a.rd; retire = f _ a.retire }

pub all_more : (P Q R S : ℕ → Type 0) → ((t : ℕ) → P t → R t) → ((t : ℕ) → Q t → S t) → (ch : Channel) → All P Q ch → All R S ch
all_more P Q R S f g ch k =
    let l = k.lasts in
    record {
      lasts = record { size = l.size; banks = λ x m. track-more P R f (track_of ch x) (l.banks x m); packet = f _ l.packet; row = f _ l.row; col = f _ l.col; pre = f _ l.pre; rd = f _ l.rd; implied = f _ l.implied };
      writes = writes_more Q S g (waiting_of ch.buffer) k.writes;
    }
