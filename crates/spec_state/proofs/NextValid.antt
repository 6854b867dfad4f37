-- A state of the channel that is not refused stays so after a record that breaks no rule.
-- Assumes nothing.
use Rattle.std.specs.Prelude.{Option, None, Some}
use Prim.Native.Nat.{ℕ, ◌+◌, ◌<◌}
use mathlib.Core.Path.{◌≡◌, refl, sym, ap, ◌∙◌}
use mathlib.Core.Bool.{Bool, true, false, not, ◌&&◌, ◌||◌, cond, or-true}
use mathlib.Core.List.{List, [], ◌∷◌}
use lib.Dec.{eqb, leb, ltb}
use lib.ListN.{length, get_or, length-replicate, get_or-replicate}
use borrow.Author.Tests.{ltb-true, eqb-true, eq-eqb}
use Rattle.num.specs.Search.{all_up_to}
use Rattle.num.proofs.SearchLaws.{all-at, all-intro}
use Rattle.settings.specs.declared.PacketAt.{PacketAt}
use Rattle.settings.specs.Instants.{horizon, is_instant}
use Rattle.packet.specs.declared.RowPacket.{RowPacket}
use Rattle.packet.specs.declared.RowPacket.TheVariants.{Act, Prer, Refa, Refp}
use Rattle.packet.specs.declared.ColPacket.TheVariants.{Nocop, Wr, Rd}
use Rattle.packet.specs.Row.{row_fits}
use Rattle.packet.specs.Col.{col_fits}
use Rattle.record.specs.declared.Record.{Record}
use Rattle.record.specs.declared.Record.TheVariants.{RowAt, ColAt, DataOf}
use Rattle.record.specs.Record.{record_fits}
use Rattle.spec_rules.specs.declared.Bank.{Bank}
use Rattle.spec_rules.specs.declared.Bank.TheVariants.{Closed, Open, Refresh}
use Rattle.spec_rules.specs.declared.BankTrack.{BankTrack}
use Rattle.spec_rules.specs.declared.Write.{Write}
use Rattle.spec_rules.specs.declared.Channel.{Channel}
use Rattle.spec_rules.specs.Neighbour.{bank_count, Context, Neighbours, near}
use Rattle.spec_rules.specs.Packets.{row_traits, col_traits, traits, instant}
use Rattle.spec_rules.specs.History.{bank_by, is_closed, is_open, leaving, left, loads, joined, waiting_next, bank_of, any_write, all_writes, retire_implies, closed_by, bank_retired, closes_bank, has}
use Rattle.spec_rules.specs.Rules.{free_for, open_for, longest_delay, implied_delay, loses_none, all_lose_none}
use Rattle.spec_rules.specs.Channel.{idle, fresh, track_of, state_of, waiting_of, leaving_of, after}
use Rattle.spec_rules.specs.Checks.{check_of, then_state, checks, judged}
use Rattle.spec_rules.proofs.Bools.{not-both, and_left, and_right}
use Rattle.spec_rules.proofs.BrokenLaws.{lowest-none}
use Rattle.spec_rules.proofs.TrackLaws.{row_keeps, keeps-all, after-waits}
use Rattle.spec_state.specs.Valid.{is_stamp, bank_valid, track_valid, write_valid, lasts_valid, apart, channel_valid}
use Rattle.spec_state.proofs.AfterLaws.{state_by, after-size, after-due, after-state}
use Rattle.spec_state.proofs.EachInstant.{WritesAll}
use Rattle.spec_state.proofs.Stamps.{IsInstant, Stamped, track-stamps, stamps-track, after-stamped, fresh-stamped}

-- ---- a state that is not refused, test by test

pub record Sound (cx : Context) (ch : Channel) : Type 0 where
  pub size : length ch.banks ≡ bank_count
  pub stamped : Stamped ch
  pub rows_in : (x : ℕ) → x < bank_count → bank_valid cx (state_of ch x) ≡ true
  pub write : all_writes (write_valid cx) (waiting_of ch.buffer) ≡ true
  pub one-closed : (x y : ℕ) → x < bank_count → y < bank_count → cx.nbr x y ≡ true → is_closed (state_of ch x) || is_closed (state_of ch y) ≡ true
  pub opened : all_writes (λ w. is_open (state_of ch w.bank)) (waiting_of ch.buffer) ≡ true
  pub due-of : not ch.due || any_write (λ w. true) (waiting_of ch.buffer) ≡ true

or_else : (a b : Bool) → not a || b ≡ true → a ≡ true → b ≡ true
or_else a b h e = rw e at h

not-or : (a b : Bool) → (a ≡ true → b ≡ true) → not a || b ≡ true
not-or true b f = f refl
not-or false b f = refl

valid-write : (cx : Context) (ws : List Write) → all_writes (write_valid cx) ws ≡ true → WritesAll IsInstant ws
unfolding write_valid
valid-write cx [] e = tt
valid-write cx (w ∷ ws) e =
    let h = and_left (write_valid cx w) _ e in
    (and_right (ltb w.column cx.settings.columns) _ (and_right (ltb w.bank bank_count) _ h), valid-write cx ws (and_right (write_valid cx w) _ e))

module _ (cx : Context) (ch : Channel) where
  abbrev pair_test : ℕ → ℕ → Bool
  pair_test x y = not (cx.nbr x y) || (is_closed (state_of ch x) || is_closed (state_of ch y))

  abbrev track_test : ℕ → Bool
  track_test x = track_valid cx (track_of ch x)

  pub valid-sound : channel_valid cx ch ≡ true → Sound cx ch
  unfolding channel_valid lasts_valid apart track_valid
  valid-sound e =
      let w : List Write = waiting_of ch.buffer in
      let ranges : Bool = eqb (length ch.banks) bank_count && (all_up_to track_test bank_count && (lasts_valid ch && all_writes (write_valid cx) w)) in
      let a = and_left ranges _ e in
      let b = and_right (eqb (length ch.banks) bank_count) _ a in
      let c = and_right (all_up_to track_test bank_count) _ b in
      let tracks : (x : ℕ) → x < bank_count → track_test x ≡ true = λ x m. all-at track_test bank_count x (and_left (all_up_to track_test bank_count) _ b) m in
      let lasts = and_left (lasts_valid ch) _ c in
      let row = and_right (is_stamp ch.lasts.packet.0) _ lasts in
      let col = and_right (is_stamp ch.lasts.row.0) _ row in
      let pre = and_right (is_stamp ch.lasts.col.0) _ col in
      let rd = and_right (is_stamp ch.lasts.pre.0) _ pre in
      let pairs = and_left (apart cx (state_of ch)) _ (and_right ranges _ e) in
      let size : length ch.banks ≡ bank_count = eqb-true _ _ (and_left (eqb (length ch.banks) bank_count) _ a) in
      record {
        size = size;
        stamped = record {
          lasts = record {
            size = size;
            banks = λ x m. track-stamps cx (track_of ch x) (tracks x m);
            packet = and_left (is_stamp ch.lasts.packet.0) _ lasts;
            row = and_left (is_stamp ch.lasts.row.0) _ row;
            col = and_left (is_stamp ch.lasts.col.0) _ col;
            pre = and_left (is_stamp ch.lasts.pre.0) _ pre;
            rd = and_left (is_stamp ch.lasts.rd.0) _ rd;
            implied = and_right (is_stamp ch.lasts.rd.0) _ rd;
          };
          writes = valid-write cx w (and_right (lasts_valid ch) _ c);
        };
        rows_in = λ x m. and_left (bank_valid cx (state_of ch x)) _ (tracks x m);
        write = and_right (lasts_valid ch) _ c;
        one-closed = λ x y mx my n. or_else (cx.nbr x y) _ (all-at (pair_test x) bank_count y (all-at (λ x. all_up_to (pair_test x) bank_count) bank_count x pairs mx) my) n;
        opened = and_left (all_writes (λ w. is_open (state_of ch w.bank)) w) _ (and_right (apart cx (state_of ch)) _ (and_right ranges _ e));
        due-of = and_right (all_writes (λ w. is_open (state_of ch w.bank)) w) _ (and_right (apart cx (state_of ch)) _ (and_right ranges _ e));
      }

  pub sound-valid : Sound cx ch → channel_valid cx ch ≡ true
  unfolding channel_valid lasts_valid apart
  sound-valid k =
      let tracks : all_up_to track_test bank_count ≡ true = all-intro track_test bank_count (λ x m. stamps-track cx (track_of ch x) (k.rows_in x m) (k.stamped.lasts.banks x m)) in
      let pairs : all_up_to (λ x. all_up_to (pair_test x) bank_count) bank_count ≡ true =
      all-intro (λ x. all_up_to (pair_test x) bank_count) bank_count
      (λ x mx. all-intro (pair_test x) bank_count (λ y my. not-or (cx.nbr x y) (is_closed (state_of ch x) || is_closed (state_of ch y)) (k.one-closed x y mx my)))
      in
      let t = k.stamped.lasts in
      rw (eq-eqb _ _ k.size, tracks, t.packet, t.row, t.col, t.pre, t.rd, t.implied, k.write, pairs, k.opened, k.due-of)

pub fresh-sound : (cx : Context) → Sound cx fresh
unfolding fresh bank_count bank_valid is_closed waiting_of write_valid
fresh-sound cx =
    let at : (x : ℕ) → x < 32 → track_of fresh x ≡ idle = λ x m. get_or-replicate 32 x idle idle m in
    record {
      size = length-replicate 32 idle;
      stamped = fresh-stamped;
      rows_in = λ x m. ap (λ (k : BankTrack). bank_valid cx k.bank) (at x m);
      write = refl;
      one-closed = λ x y mx my n. ap (λ (k : BankTrack). is_closed k.bank || is_closed (state_of fresh y)) (at x mx);
      opened = refl;
      due-of = refl;
    }

-- ---- banks after a record

either-bank : (P : Bank → Bool) (q : Bool) (a b : Bank) → P a ≡ true → P b ≡ true → P (cond q a b) ≡ true
either-bank P true a b e f = e
either-bank P false a b e f = f

pub open-not-closed : (b : Bank) → is_open b ≡ true → is_closed b ≡ false
unfolding is_open is_closed
open-not-closed Closed e = sym e
open-not-closed (Open r) e = refl
open-not-closed Refresh e = refl

rows-implied : (cx : Context) (o : Option ℕ) (x : ℕ) (b : Bank) → bank_valid cx b ≡ true → bank_valid cx (closed_by cx o x b) ≡ true
unfolding bank_valid
rows-implied cx None x b h = h
rows-implied cx (Some p) x b h = either-bank (bank_valid cx) (near cx p x) Closed b refl h

rows_next : (cx : Context) (o : Option Write) (r : Record) → record_fits cx.settings r ≡ true → (x : ℕ) (b : Bank) → bank_valid cx b ≡ true → bank_valid cx (state_by cx o r x b) ≡ true
unfolding record_fits row_fits state_by bank_by bank_valid
rows_next cx o (RowAt t (Act bank row)) f x b h = either-bank (bank_valid cx) (eqb x bank) (Open row) b (and_right (ltb bank 32) _ f) h
rows_next cx o (RowAt t (Prer bank)) f x b h = either-bank (bank_valid cx) (near cx bank x) Closed b refl h
rows_next cx o (RowAt t (Refa bank)) f x b h = either-bank (bank_valid cx) (eqb x bank) Refresh b refl h
rows_next cx o (RowAt t (Refp bank)) f x b h = either-bank (bank_valid cx) (near cx bank x) Closed b refl h
rows_next cx o (ColAt t p) f x b h = rows-implied cx (traits (ColAt t p)).implies x (closed_by cx (retire_implies o) x b) (rows-implied cx (retire_implies o) x b h)
rows_next cx o (DataOf t d) f x b h = h

-- of two neighbours one is closed
abbrev OneClosed : Context → (ℕ → Bank) → Type 0
OneClosed cx state = (x y : ℕ) → x < bank_count → y < bank_count → cx.nbr x y ≡ true → is_closed (state x) || is_closed (state y) ≡ true

module _ (cx : Context) (ns : Neighbours cx) (state : ℕ → Bank) where
  -- rule 4
  near-closed : (b x : ℕ) → free_for cx state (Some b) ≡ true → x < bank_count → near cx b x ≡ true → is_closed (state x) ≡ true
  near-closed b x f m e = or_else (near cx b x) _ (all-at (λ x. not (near cx b x) || is_closed (state x)) bank_count x f m) e

  shut-closed : (b : ℕ) → OneClosed cx state → OneClosed cx (λ x. cond (near cx b x) Closed (state x))
  unfolding is_closed
  shut-closed b k x y mx my n = go (near cx b x) (near cx b y) (k x y mx my n)
    where
      go : (p q : Bool) → is_closed (state x) || is_closed (state y) ≡ true → is_closed (cond p Closed (state x)) || is_closed (cond q Closed (state y)) ≡ true
      go true q h = refl
      go false true h = or-true (is_closed (state x))
      go false false h = h

  open-closed : (b : ℕ) (new : Bank) → free_for cx state (Some b) ≡ true → OneClosed cx state → OneClosed cx (λ x. cond (eqb x b) new (state x))
  open-closed b new f k x y mx my n = go (eqb x b) (eqb y b) refl refl
    where
      go : (i j : Bool) → eqb x b ≡ i → eqb y b ≡ j → is_closed (cond i new (state x)) || is_closed (cond j new (state y)) ≡ true
      go false false ei ej = k x y mx my n
      go true true ei ej = not-both (cx.nbr x y) n (rw (eqb-true x b ei, eqb-true y b ej) (ns.irreflexive b))
      go true false ei ej =
          let e : cx.nbr b y ≡ true = rw (← eqb-true x b ei) n in
          rw (near-closed b y f my (rw e (or-true (eqb y b)))) (or-true (is_closed new))
      go false true ei ej =
          let e : cx.nbr b x ≡ true = ns.symmetric b x ∙ rw (← eqb-true y b ej) n in
          rw (near-closed b x f mx (rw e (or-true (eqb x b))))

  -- rule 14: a write's bank stays open under PRER
  kept-open : (b x : ℕ) → is_open (state x) ≡ true → not (near cx b x && not (is_closed (state x))) ≡ true → is_open (cond (near cx b x) Closed (state x)) ≡ true
  kept-open b x o h = go (near cx b x) (rw (open-not-closed (state x) o) at h)
    where
      go : (q : Bool) → not (q && true) ≡ true → is_open (cond q Closed (state x)) ≡ true
      go true h = not-both true refl (sym h)
      go false h = o

  -- and rule 4: no bank of a write is refreshed
  not-refreshed : (b x : ℕ) → x < bank_count → free_for cx state (Some b) ≡ true → is_open (state x) ≡ true → is_open (cond (eqb x b) Refresh (state x)) ≡ true
  not-refreshed b x m f o = go (eqb x b) refl
    where
      go : (q : Bool) → eqb x b ≡ q → is_open (cond q Refresh (state x)) ≡ true
      go true e = not-both (is_closed (state x)) (near-closed b x f m (rw e)) (open-not-closed (state x) o)
      go false e = o

  row_open : (p : RowPacket) (x : ℕ) → x < bank_count → free_for cx state (row_traits p).opens ≡ true
      → not (closes_bank cx state (row_traits p).precharges x) ≡ true → is_open (state x) ≡ true → is_open (bank_by cx p x (state x)) ≡ true
  unfolding bank_by row_traits is_open
  row_open (Act b row) x m f c o = either-bank is_open (eqb x b) (Open row) (state x) refl o
  row_open (Prer b) x m f c o = kept-open b x o c
  row_open (Refa b) x m f c o = not-refreshed b x m f o
  row_open (Refp b) x m f c o = kept-open b x o c

  implied-open : (p : Option ℕ) (x : ℕ) → is_open (state x) ≡ true → not (closes_bank cx state p x) ≡ true → is_open (closed_by cx p x (state x)) ≡ true
  implied-open None x o c = o
  implied-open (Some b) x o c = kept-open b x o c

  -- of two neighbours one is closed after a PRER that is implied, where there is one
  implied-pairs : (p : Option ℕ) → OneClosed cx state → OneClosed cx (λ x. closed_by cx p x (state x))
  implied-pairs None k = k
  implied-pairs (Some b) k = shut-closed b k

closed-next : (cx : Context) → Neighbours cx → (state : ℕ → Bank) (o : Option Write) (r : Record) → free_for cx state (traits r).opens ≡ true → OneClosed cx state
    → OneClosed cx (λ x. state_by cx o r x (state x))
unfolding state_by bank_by traits row_traits
closed-next cx ns state o (RowAt t (Act b row)) f k = open-closed cx ns state b (Open row) f k
closed-next cx ns state o (RowAt t (Prer b)) f k = shut-closed cx ns state b k
closed-next cx ns state o (RowAt t (Refa b)) f k = open-closed cx ns state b Refresh f k
closed-next cx ns state o (RowAt t (Refp b)) f k = shut-closed cx ns state b k
closed-next cx ns state o (ColAt t p) f k = implied-pairs cx ns (λ x. closed_by cx (retire_implies o) x (state x)) (traits (ColAt t p)).implies (implied-pairs cx ns state (retire_implies o) k)
closed-next cx ns state o (DataOf t d) f k = k

-- ---- the state after a record

all_left : (q : Write → Bool) (o : Option Write) (ws : List Write) → all_writes q ws ≡ true → all_writes q (left o ws) ≡ true
all_left q None ws h = h
all_left q (Some w) [] h = refl
all_left q (Some w) (x ∷ ws) h = and_right (q x) _ h

abbrev OneWrite : (Write → Bool) → Option Write → Type 0
OneWrite q None = Unit {0}
OneWrite q (Some w) = q w ≡ true

all-joined : (q : Write → Bool) (o : Option Write) (ws : List Write) → OneWrite q o → all_writes q ws ≡ true → all_writes q (joined o ws) ≡ true
all-joined q None ws i h = h
all-joined q (Some w) [] i h = rw i
all-joined q (Some w) (x ∷ ws) i h = rw (and_left (q x) _ h, i)

-- where a test on each waiting write goes over to another, and holds of the one that joins
pub all-next : (cx : Context) (r : Record) (q : Write → Bool) (ws : List Write) → OneWrite q (loads r) → all_writes q ws ≡ true → all_writes q (waiting_next cx r ws) ≡ true
unfolding waiting_next
all-next cx r q ws i h = all-joined q (loads r) (left (leaving cx ws r) ws) i (all_left q (leaving cx ws r) ws h)

pub all-over : (p q v : Write → Bool) (ws : List Write) → ((w : Write) → v w ≡ true → p w ≡ true → q w ≡ true) → all_writes v ws ≡ true → all_writes p ws ≡ true → all_writes q ws ≡ true
all-over p q v [] f i h = refl
all-over p q v (w ∷ ws) f i h = rw (f w (and_left (v w) _ i) (and_left (p w) _ h), all-over p q v ws f (and_right (v w) _ i) (and_right (p w) _ h))

load-valid : (cx : Context) (r : Record) → record_fits cx.settings r ≡ true → is_instant (instant r) ≡ true → OneWrite (write_valid cx) (loads r)
unfolding loads write_valid record_fits col_fits instant bank_count
load-valid cx (RowAt t p) f e = tt
load-valid cx (ColAt t (Nocop m)) f e = tt
load-valid cx (ColAt t (Wr b c m x)) f e =
    let g = and_right (ltb b 32) _ f in
    rw (and_left (ltb b 32) _ f, and_left (ltb c cx.settings.columns) _ g, e)
load-valid cx (ColAt t (Rd b c m x)) f e = tt
load-valid cx (DataOf t d) f e = tt

write-bank : (cx : Context) (w : Write) → write_valid cx w ≡ true → w.bank < bank_count
unfolding write_valid
write-bank cx w h = ltb-true _ _ (and_left (ltb w.bank bank_count) _ h)

-- the banks of the writes that are left are open after the record as before
module _ (cx : Context) (ns : Neighbours cx) where
  abbrev all_open : (ℕ → Bank) → List Write → Bool
  all_open state ws = all_writes (λ w. is_open (state w.bank)) ws

  -- where each write that a test picks not is open after a change
  kept-all : (state state' : ℕ → Bank) (q : ℕ → Bool) (ws : List Write) → all_writes (write_valid cx) ws ≡ true
      → ((x : ℕ) → x < bank_count → not (q x) ≡ true → is_open (state x) ≡ true → is_open (state' x) ≡ true)
      → not (any_write (λ w. q w.bank) ws) ≡ true → all_open state ws ≡ true → all_open state' ws ≡ true
  kept-all state state' q [] v f c h = refl
  kept-all state state' q (w ∷ ws) v f c h =
      let both : (not (q w.bank) ≡ true) × (not (any_write (λ w. q w.bank) ws) ≡ true) = none-two (q w.bank) _ c in
      rw (f w.bank (write-bank cx w (and_left (write_valid cx w) _ v)) both.0 (and_left (is_open (state w.bank)) _ h))
      (kept-all state state' q ws (and_right (write_valid cx w) _ v) f both.1 (and_right (is_open (state w.bank)) _ h))
    where
      none-two : (a b : Bool) → not (a || b) ≡ true → (not a ≡ true) × (not b ≡ true)
      none-two true b h = not-both true refl (sym h)
      none-two false b h = (refl, h)

  left-all : (state : ℕ → Bank) (ws : List Write) (r : Record) →
      let o : Option Write = leaving cx ws r in
      all_writes (write_valid cx) ws ≡ true → free_for cx state (traits r).opens ≡ true → all_lose_none cx state ws r ≡ true → all_open state ws ≡ true
      → all_open (λ x. state_by cx o r x (state x)) (left o ws) ≡ true
  unfolding state_by traits
  left-all state ws (RowAt t p) v f c h =
      all_left _ (leaving cx ws (RowAt t p)) ws
      (kept-all state (λ x. bank_by cx p x (state x)) (closes_bank cx state (row_traits p).precharges) ws v
      (λ x m q i. row_open cx ns state p x m f q i) (and_left (loses_none cx state (row_traits p).precharges ws) _ c) h)
  left-all state ws (ColAt t p) v f c h =
      let r : Record = ColAt t p in
      let o : Option Write = leaving cx ws r in
      let then : ℕ → Bank = λ x. closed_by cx (retire_implies o) x (state x) in
      let two = and_right (loses_none cx state (traits r).precharges ws) _ c in
      let vl : all_writes (write_valid cx) (left o ws) ≡ true = all_left (write_valid cx) o ws v in
      kept-all then (λ x. closed_by cx (traits r).implies x (then x)) (closes_bank cx then (traits r).implies) (left o ws) vl
      (λ x m q i. implied-open cx ns then (traits r).implies x i q) (and_right (loses_none cx state (retire_implies o) (left o ws)) _ two)
      (kept-all state then (closes_bank cx state (retire_implies o)) (left o ws) vl
      (λ x m q i. implied-open cx ns state (retire_implies o) x i q) (and_left (loses_none cx state (retire_implies o) (left o ws)) _ two) (all_left _ o ws h))
  left-all state ws (DataOf t d) v f c h = all_left _ (leaving cx ws (DataOf t d)) ws h

module _ (cx : Context) (ns : Neighbours cx) (ch : Channel) (k : Sound cx ch) where
  abbrev next : Record → ℕ → Bank
  next r x = state_by cx (leaving_of cx ch r) r x (state_of ch x)

  load-open : (r : Record) → open_for (then_state cx ch r) (traits r).writes ≡ true → OneWrite (λ w. is_open (next r w.bank)) (loads r)
  unfolding loads traits col_traits state_by
  load-open (RowAt t p) o = tt
  load-open (ColAt t (Nocop m)) o = tt
  load-open (ColAt t (Wr b col m x)) o = o
  load-open (ColAt t (Rd b col m x)) o = tt
  load-open (DataOf t d) o = tt

  due-next : (r : Record) → not (after cx ch r).due || any_write (λ w. true) (waiting_of (after cx ch r).buffer) ≡ true
  unfolding waiting_next traits row_traits col_traits loads
  due-next r = rw (after-due cx ch r, after-waits cx ch r) (go r (left (leaving cx (waiting_of ch.buffer) r) (waiting_of ch.buffer)))
    where
      go : (r : Record) (ws : List Write) → not (has (traits r).writes) || any_write (λ w. true) (joined (loads r) ws) ≡ true
      go (RowAt t (Act b row)) ws = refl
      go (RowAt t (Prer b)) ws = refl
      go (RowAt t (Refa b)) ws = refl
      go (RowAt t (Refp b)) ws = refl
      go (ColAt t (Nocop m)) ws = refl
      go (ColAt t (Wr b c m x)) [] = refl
      go (ColAt t (Wr b c m y)) (x ∷ ws) = refl
      go (ColAt t (Rd b c m x)) ws = refl
      go (DataOf t d) ws = refl

  -- the states after the record are those of the channel, for banks that writes can have
  open-over : (r : Record) (ws : List Write) → all_writes (write_valid cx) ws ≡ true → all_writes (λ w. is_open (next r w.bank)) ws ≡ true
      → all_writes (λ w. is_open (state_of (after cx ch r) w.bank)) ws ≡ true
  open-over r ws v h =
      all-over (λ w. is_open (next r w.bank)) (λ w. is_open (state_of (after cx ch r) w.bank)) (write_valid cx) ws
      (λ w i h. rw (after-state cx ch r w.bank k.size (write-bank cx w i)) h) v h

  pub next-sound : (r : Record) → record_fits cx.settings r ≡ true → judged cx ch r ≡ 0 → Sound cx (after cx ch r)
  unfolding judged checks waiting_next
  next-sound r f e =
      let passes : (i : ℕ) → get_or (checks cx ch r) i true ≡ true = lowest-none 0 (checks cx ch r) e in
      let ws : List Write = waiting_of ch.buffer in
      let o : Option Write = leaving_of cx ch r in
      let intime : Bool = leb (instant r + longest_delay cx r) horizon in
      let implied : Bool = leb (instant r + implied_delay cx o) horizon in
      let within : Bool = is_instant (instant r) && (intime && implied) in
      let one : within && check_of cx ch r 1 ≡ true = passes 0 in
      let four : free_for cx (state_of ch) (traits r).opens ≡ true = passes 3 in
      let reads : Bool = open_for (then_state cx ch r) (traits r).reads in
      let writes : Bool = open_for (then_state cx ch r) (traits r).writes in
      let nine : reads && (writes && open_for (state_of ch) (bank_of o)) ≡ true = passes 8 in
      let fourteen : all_lose_none cx (state_of ch) ws r ≡ true = passes 13 in
      let instant-in : is_instant (instant r) ≡ true = and_left (is_instant (instant r)) _ (and_left within _ one) in
      let late : intime && implied ≡ true = and_right (is_instant (instant r)) _ (and_left within _ one) in
      let at : (x : ℕ) → x < bank_count → state_of (after cx ch r) x ≡ next r x = λ x m. after-state cx ch r x k.size m in
      let valid : all_writes (write_valid cx) (waiting_next cx r ws) ≡ true = all-next cx r (write_valid cx) ws (load-valid cx r f instant-in) k.write in
      let open_next : all_writes (λ w. is_open (next r w.bank)) (waiting_next cx r ws) ≡ true =
      all-joined (λ w. is_open (next r w.bank)) (loads r) (left o ws) (load-open r (and_left writes _ (and_right reads _ nine))) (left-all cx ns (state_of ch) ws r k.write four fourteen k.opened) in
      record {
        size = after-size cx ch r ∙ k.size;
        stamped = after-stamped cx ch k.stamped r instant-in (and_left intime _ late) (and_right intime _ late);
        rows_in = λ x m. rw (at x m) (rows_next cx o r f x (state_of ch x) (k.rows_in x m));
        write = rw (after-waits cx ch r) valid;
        one-closed = λ x y mx my n. rw (at x mx, at y my) (closed-next cx ns (state_of ch) o r four k.one-closed x y mx my n);
        opened = rw (after-waits cx ch r) (open-over r (waiting_next cx r ws) valid open_next);
        due-of = due-next r;
      }

-- ---- the two theorems

pub fresh-channel-valid : (cx : Context) → channel_valid cx fresh ≡ true
fresh-channel-valid cx = sound-valid cx fresh (fresh-sound cx)

pub next-channel-valid : (cx : Context) → Neighbours cx → (ch : Channel) (r : Record) → channel_valid cx ch ≡ true
    → record_fits cx.settings r ≡ true → judged cx ch r ≡ 0 → channel_valid cx (after cx ch r) ≡ true
next-channel-valid cx ns ch r v f e = sound-valid cx (after cx ch r) (next-sound cx ns ch (valid-sound cx ch v) r f e)
