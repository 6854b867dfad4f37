-- What a run keeps of the writes that wait: their WR was the last COL packet or an earlier one, and the ACT of their bank comes so
-- early that rule 10 asks no more of their retire than rule 12.
-- Assumes nothing.
use Rattle.std.specs.Prelude.{Option, None, Some}
use Prim.Native.Nat.{ℕ, ◌+◌, ◌-◌, max, ◌≤◌, ◌<◌}
use mathlib.Core.Path.{◌≡◌, refl, sym, ap, ◌∙◌}
use mathlib.Core.Bool.{Bool, true, false, cond, not, ◌||◌}
use mathlib.Core.List.{List, [], ◌∷◌}
use lib.Dec.{eqb, leb}
use lib.ListN.{length}
use borrow.Author.Tests.{eqb-true, eq-eqb, leb-true, le-leb}
use native.Mathlib.Omega.{arith}
use Rattle.num.specs.Search.{all_up_to}
use Rattle.num.proofs.SearchLaws.{all-at, all-intro}
use Rattle.settings.specs.declared.PacketAt.{PacketAt}
use Rattle.packet.specs.declared.RowPacket.TheVariants.{Act, Prer, Refa, Refp}
use Rattle.packet.specs.declared.ColPacket.{ColPacket}
use Rattle.packet.specs.declared.ColPacket.TheVariants.{Nocop, Wr, Rd}
use Rattle.record.specs.declared.Record.{Record}
use Rattle.record.specs.declared.Record.TheVariants.{RowAt, ColAt, DataOf}
use Rattle.record.specs.Record.{record_fits}
use Rattle.spec_rules.specs.declared.Bank.{Bank}
use Rattle.spec_rules.specs.declared.Bank.TheVariants.{Closed, Open, Refresh}
use Rattle.spec_rules.specs.declared.BankTrack.{BankTrack}
use Rattle.spec_rules.specs.declared.LastInstants.{LastInstants}
use Rattle.spec_rules.specs.declared.Write.{Write}
use Rattle.spec_rules.specs.declared.Channel.{Channel}
use Rattle.spec_rules.specs.Neighbour.{bank_count, Context, Neighbours, near}
use Rattle.spec_rules.specs.Packets.{traits, row_traits, col_traits, instant}
use Rattle.spec_rules.specs.History.{is_closed, is_open, left, joined, loads, waiting_next, all_writes, only, retire_implies}
use Rattle.spec_rules.specs.Rules.{free_for}
use Rattle.spec_rules.specs.Distances.{Kind, only_act}
use Rattle.spec_rules.specs.Channel.{idle, fresh, track_of, state_of, waiting_of, in_bank, track_next, after_packet, track_retired, after_retire, track_implied, after_implied, after_data, leaving_of, after}
use Rattle.spec_rules.specs.Checks.{since, asks, last_at, bound_banks, bounds, judged}
use Rattle.spec_rules.specs.Earliest.{fits, earliest}
use Rattle.spec_rules.proofs.Bools.{not-both, and_left, and_right, leb-max_up_to}
use Rattle.spec_rules.proofs.ListLaws.{length-imap, get_or-imap}
use Rattle.spec_rules.proofs.TrackLaws.{Tracks, Inside, fits-inside, tracks-fresh, after-waits}
use Rattle.spec_rules.proofs.CheckerRight.{judged-right, tracks-next}
use Rattle.spec_rules.proofs.EarliestLaws.{checks-split}
use Rattle.spec_rules.proofs.ByCommand.{wr-bounds, nocop-bounds, rd-bounds}
use Rattle.spec_state.specs.Valid.{channel_valid}
use Rattle.spec_state.proofs.NextValid.{Sound, valid-sound, fresh-channel-valid, next-channel-valid}
use Rattle.spec_plan.proofs.Trace.{Each, channel_by}
use Rattle.spec_plan.proofs.Legal.{Allowed}

-- ---- what is asked of a bank itself

abbrev pub own : Context → Channel → Kind → ℕ → ℕ → ℕ
own cx ch a gap b = bound_banks cx ch (λ b x. eqb x b) a gap b

pub own-most : (cx : Context) (ch : Channel) (a : Kind) (gap b most : ℕ) → since (last_at (track_of ch b) a) gap ≤ most → own cx ch a gap b ≤ most
own-most cx ch a gap b most h =
    leb-true _ _ (leb-max_up_to _ bank_count most ∙ all-intro _ bank_count (λ x m. go x (eqb x b) refl))
  where
    go : (x : ℕ) (q : Bool) → eqb x b ≡ q → leb (asks (only q (Some gap)) (last_at (track_of ch x) a)) most ≡ true
    go x true e = rw (eqb-true x b e) (le-leb _ _ h)
    go x false e = le-leb 0 most (omega arith)

pub own-least : (cx : Context) (ch : Channel) (a : Kind) (gap b most : ℕ) → b < bank_count → own cx ch a gap b ≤ most → since (last_at (track_of ch b) a) gap ≤ most
own-least cx ch a gap b most m h =
    let each : all_up_to (λ x. leb (asks (only (eqb x b) (Some gap)) (last_at (track_of ch x) a)) most) bank_count ≡ true = sym (leb-max_up_to _ bank_count most) ∙ le-leb _ _ h in
    leb-true _ _ (rw (eq-eqb b b refl) at (all-at _ bank_count b each m))

-- a distance of a last instant, and a longer one
pub since-more : (last gap more t : ℕ) → since last (gap - more) ≤ t → since last gap ≤ t + more
since-more last gap more t h = go (eqb last 0) h
  where
    go : (z : Bool) → cond z 0 (last + (gap - more)) ≤ t → cond z 0 (last + gap) ≤ t + more
    go true h = omega arith
    go false h = omega arith

pub since-most : (last gap t : ℕ) → last ≤ t → since last gap ≤ t + gap
since-most last gap t h = go (eqb last 0)
  where
    go : (z : Bool) → cond z 0 (last + gap) ≤ t + gap
    go true = omega arith
    go false = omega arith

-- ---- a write that waits

abbrev pub Early : Context → Channel → Write → Type 0
Early cx ch w =
    (4 ≤ w.at.0) × (w.at.0 ≤ ch.lasts.col.0) × (w.bank < bank_count) × (since (track_of ch w.bank).act.0 cx.settings.rcd ≤ w.at.0 + cx.settings.rtr)

abbrev pub AllEarly : Context → Channel → List Write → Type 0
AllEarly cx ch [] = Unit {0}
AllEarly cx ch (w ∷ ws) = (Early cx ch w) × (AllEarly cx ch ws)

-- ---- one record more

module _ (cx : Context) (ch : Channel) (n : length ch.banks ≡ bank_count) where
  packet-act : (c : Channel) → length c.banks ≡ bank_count → (r : Record) (x : ℕ) → x < bank_count
      → (track_of (after_packet cx c r) x).act ≡ cond (in_bank (traits r).acts x) (record { 0 = instant r }) (track_of c x).act
  unfolding after_packet track_next
  packet-act c k r x m = ap (λ (y : BankTrack). y.act) (get_or-imap (track_next cx c r) c.banks x idle idle (rw k m))

  retired-size : (t : ℕ) (o : Option Write) → length (after_retire t o ch).banks ≡ bank_count
  unfolding after_retire
  retired-size t None = n
  retired-size t (Some w) = length-imap _ 0 ch.banks ∙ n

  retired-act : (t : ℕ) (o : Option Write) (x : ℕ) → x < bank_count → (track_of (after_retire t o ch) x).act ≡ (track_of ch x).act
  unfolding after_retire track_retired
  retired-act t None x m = refl
  retired-act t (Some w) x m = ap (λ (y : BankTrack). y.act) (get_or-imap (track_retired t w) ch.banks x idle idle (rw n m))

  pub retired-lasts : (t : ℕ) (o : Option Write) → (after_retire t o ch).lasts ≡ ch.lasts
  unfolding after_retire
  retired-lasts t None = refl
  retired-lasts t (Some w) = refl

  implied-act : (c : Channel) → length c.banks ≡ bank_count → (t : ℕ) (o : Option ℕ) (x : ℕ) → x < bank_count → (track_of (after_implied cx t o c) x).act ≡ (track_of c x).act
  unfolding after_implied track_implied
  implied-act c k t None x m = refl
  implied-act c k t (Some b) x m = ap (λ (y : BankTrack). y.act) (get_or-imap (track_implied cx (state_of c) t b) c.banks x idle idle (rw k m))

  implied-size : (c : Channel) → length c.banks ≡ bank_count → (t : ℕ) (o : Option ℕ) → length (after_implied cx t o c).banks ≡ bank_count
  unfolding after_implied
  implied-size c k t None = k
  implied-size c k t (Some b) = length-imap _ 0 c.banks ∙ k

  pub implied-col : (c : Channel) (t : ℕ) (o : Option ℕ) → (after_implied cx t o c).lasts.col ≡ c.lasts.col
  unfolding after_implied
  implied-col c t None = refl
  implied-col c t (Some b) = refl

  -- once the write has left that a COL packet retires, and the PRER that this implies is done
  abbrev col_left : PacketAt → ColPacket → Channel
  col_left t p = after_implied cx (t.0 + cx.settings.offp) (retire_implies (leaving_of cx ch (ColAt t p))) (after_retire t.0 (leaving_of cx ch (ColAt t p)) ch)

  -- the last ACT of a bank, and the last COL packet
  pub after-act : (r : Record) (x : ℕ) → x < bank_count → (track_of (after cx ch r) x).act ≡ cond (in_bank (traits r).acts x) (record { 0 = instant r }) (track_of ch x).act
  unfolding after after_data traits col_traits after_packet
  after-act (RowAt t p) x m = packet-act ch n (RowAt t p) x m
  after-act (ColAt t p) x m =
      let r : Record = ColAt t p in
      let o : Option Write = leaving_of cx ch r in
      let u : ℕ = t.0 + cx.settings.offp in
      let z : length (col_left t p).banks ≡ bank_count = implied-size (after_retire t.0 o ch) (retired-size t.0 o) u (retire_implies o) in
      implied-act (after_packet cx (col_left t p) r) (length-imap _ 0 (col_left t p).banks ∙ z) u (traits r).implies x m
      ∙ packet-act (col_left t p) z r x m
      ∙ ap (cond (in_bank (traits r).acts x) (record { 0 = instant r })) (implied-act (after_retire t.0 o ch) (retired-size t.0 o) u (retire_implies o) x m ∙ retired-act t.0 o x m)
  after-act (DataOf t d) x m = refl

  pub after-col : (r : Record) → (after cx ch r).lasts.col ≡ cond (traits r).col (record { 0 = instant r }) ch.lasts.col
  unfolding after after_packet after_data traits
  after-col (RowAt t p) = refl
  after-col (ColAt t p) =
      let o : Option Write = leaving_of cx ch (ColAt t p) in
      let u : ℕ = t.0 + cx.settings.offp in
      implied-col (after_packet cx (col_left t p) (ColAt t p)) u (col_traits p).implies
      ∙ ap (cond (col_traits p).col (record { 0 = instant (ColAt t p) }))
      (implied-col (after_retire t.0 o ch) u (retire_implies o) ∙ ap (λ (l : LastInstants). l.col) (retired-lasts t.0 o))
  after-col (DataOf t d) = refl

-- what rule 3 asks of any COL packet
pub col-asks : (cx : Context) (ch : Channel) (p : ColPacket) → since ch.lasts.col.0 cx.settings.cc ≤ bounds cx ch (col_traits p)
col-asks cx ch (Nocop m) = rw (nocop-bounds cx ch m) (omega arith)
col-asks cx ch (Wr b c m x) = rw (wr-bounds cx ch b c m x) (omega arith)
col-asks cx ch (Rd b c m x) = rw (rd-bounds cx ch b c m x) (omega arith)

-- and rule 10 of a WR
pub wr-asks : (cx : Context) (ch : Channel) (b c m : ℕ) (x : Bool) → own cx ch only_act (cx.settings.rcd - cx.settings.rtr) b ≤ bounds cx ch (col_traits (Wr b c m x))
wr-asks cx ch b c m x = rw (wr-bounds cx ch b c m x) (omega arith)

pub since-last : (last gap t : ℕ) → since last gap ≤ t → last ≤ t
since-last last gap t h = go (eqb last 0) refl h
  where
    go : (z : Bool) → eqb last 0 ≡ z → cond z 0 (last + gap) ≤ t → last ≤ t
    go true e h = rw (eqb-true last 0 e) (omega arith)
    go false e h = omega arith

pub left-early : (cx : Context) (ch : Channel) (o : Option Write) (ws : List Write) → AllEarly cx ch ws → AllEarly cx ch (left o ws)
left-early cx ch None ws k = k
left-early cx ch (Some w) [] k = tt
left-early cx ch (Some w) (x ∷ ws) k = k.1

-- data change none of this
pub data-early : (cx : Context) (ch : Channel) (ws : List Write) → AllEarly cx ch ws → AllEarly cx (after_data ch) ws
unfolding after_data
data-early cx ch [] e = tt
data-early cx ch (w ∷ ws) e = (e.0, data-early cx ch ws e.1)

-- writes that go on to wait, where a test of each gives that its bank has no new ACT
stays-early : (cx : Context) (ch c : Channel) (q : Write → Bool) → ch.lasts.col.0 ≤ c.lasts.col.0
    → ((w : Write) → w.bank < bank_count → q w ≡ true → (track_of c w.bank).act ≡ (track_of ch w.bank).act)
    → (ws : List Write) → all_writes q ws ≡ true → AllEarly cx ch ws → AllEarly cx c ws
stays-early cx ch c q col same [] o e = tt
stays-early cx ch c q col same (w ∷ ws) o e = (
  (e.0.0, omega (arith, e.0.1, col), e.0.2, rw (same w e.0.2 (and_left (q w) _ o)) e.0.3),
  stays-early cx ch c q col same ws (and_right (q w) _ o) e.1,
)

abbrev EarlyOf : Context → Channel → Option Write → Type 0
EarlyOf cx ch None = Unit {0}
EarlyOf cx ch (Some w) = Early cx ch w

joined-early : (cx : Context) (ch : Channel) (o : Option Write) (ws : List Write) → EarlyOf cx ch o → AllEarly cx ch ws → AllEarly cx ch (joined o ws)
joined-early cx ch None ws i k = k
joined-early cx ch (Some w) [] i k = (i, tt)
joined-early cx ch (Some w) (x ∷ ws) i k = (k.0, (i, tt))

nothing-waits : (cx : Context) → AllEarly cx fresh (waiting_of fresh.buffer)
unfolding fresh waiting_of
nothing-waits cx = tt

open-not-closed : (b : Bank) → is_open b ≡ true → is_closed b ≡ false
unfolding is_open is_closed
open-not-closed Closed e = not-both false e refl
open-not-closed (Open r) e = refl
open-not-closed Refresh e = refl

-- a WR, from its bound alone
module _ (cx : Context) (ch : Channel) (n : length ch.banks ≡ bank_count) (t : PacketAt) (b c m : ℕ) (close : Bool) (l : b < bank_count) (h : max 4 (bounds cx ch (col_traits (Wr b c m close))) ≤ t.0) where
  abbrev wr : Record
  wr = ColAt t (Wr b c m close)

  pub wr-col : (after cx ch wr).lasts.col.0 ≡ t.0
  unfolding traits col_traits instant
  wr-col = rw (after-col cx ch n wr)

  pub wr-act : (x : ℕ) → x < bank_count → (track_of (after cx ch wr) x).act ≡ (track_of ch x).act
  unfolding traits col_traits
  wr-act x i = after-act cx ch n wr x i

  -- the write that it loads
  wr-early : Early cx (after cx ch wr) (record { bank = b; column = c; at = record { 0 = t.0 }; close = close })
  wr-early =
      let act = own-least cx ch only_act (cx.settings.rcd - cx.settings.rtr) b t.0 l (omega (arith, wr-asks cx ch b c m close)) in (
        omega arith,
        rw wr-col (omega arith),
        l,
        rw (wr-act b l) (since-more (track_of ch b).act.0 cx.settings.rcd cx.settings.rtr t.0 act),
      )

  wr-later : ch.lasts.col.0 ≤ (after cx ch wr).lasts.col.0
  wr-later = rw wr-col (since-last ch.lasts.col.0 cx.settings.cc t.0 (omega (arith, col-asks cx ch (Wr b c m close), h)))

  all_true : (ws : List Write) → all_writes (λ w. true) ws ≡ true
  all_true [] = refl
  all_true (w ∷ ws) = all_true ws

  pub wr-next-early : AllEarly cx ch (waiting_of ch.buffer) → AllEarly cx (after cx ch wr) (waiting_of (after cx ch wr).buffer)
  unfolding waiting_next loads
  wr-next-early e =
      let ws : List Write = waiting_of ch.buffer in
      rw (after-waits cx ch wr) (joined-early cx (after cx ch wr) (Some (record { bank = b; column = c; at = record { 0 = t.0 }; close = close })) (left (leaving_of cx ch wr) ws) wr-early
      (left-early cx (after cx ch wr) (leaving_of cx ch wr) ws (stays-early cx ch (after cx ch wr) (λ w. true) wr-later (λ w i q. wr-act w.bank i) ws (all_true ws) e)))

module _ (cx : Context) (ch : Channel) (k : Sound cx ch) (r : Record) (f : record_fits cx.settings r ≡ true) (j : judged cx ch r ≡ 0) where
  fitting : fits cx ch r ≡ true
  fitting = and_left (fits cx ch r) _ (sym (checks-split cx ch r) ∙ eq-eqb _ _ j)

  late : earliest cx ch r ≤ instant r
  late = leb-true _ _ (and_left (leb (earliest cx ch r) (instant r)) _ (and_right (fits cx ch r) _ (sym (checks-split cx ch r) ∙ eq-eqb _ _ j)))

  -- an ACT is to a closed bank
  closed-first : (b x : ℕ) → b < bank_count → free_for cx (state_of ch) (Some b) ≡ true → is_open (state_of ch x) ≡ true → eqb x b ≡ false
  closed-first b x m free o = go (eqb x b) refl
    where
      here : is_closed (state_of ch b) ≡ true
      here = rw (eq-eqb b b refl) at (all-at (λ x. not (near cx b x) || is_closed (state_of ch x)) bank_count b free m)

      go : (q : Bool) → eqb x b ≡ q → q ≡ false
      go false e = refl
      go true e = not-both (is_closed (state_of ch b)) here (rw (eqb-true x b e) at (open-not-closed (state_of ch x) o))

  act-elsewhere : (x : ℕ) → is_open (state_of ch x) ≡ true → in_bank (traits r).acts x ≡ false
  unfolding fits traits row_traits col_traits
  act-elsewhere x o = go r (fits-inside cx.settings r f) fitting
    where
      go : (r : Record) → Inside r → fits cx ch r ≡ true → in_bank (traits r).acts x ≡ false
      go (RowAt t (Act b row)) i e = closed-first b x i.opens_in (and_left (free_for cx (state_of ch) (Some b)) _ e) o
      go (RowAt t (Prer b)) i e = refl
      go (RowAt t (Refa b)) i e = refl
      go (RowAt t (Refp b)) i e = refl
      go (ColAt t (Nocop m)) i e = refl
      go (ColAt t (Wr b c m y)) i e = refl
      go (ColAt t (Rd b c m y)) i e = refl
      go (DataOf t d) i e = refl

  col-later : ch.lasts.col.0 ≤ (after cx ch r).lasts.col.0
  unfolding traits earliest row_traits col_traits instant
  col-later = rw (after-col cx ch k.size r) (go r late)
    where
      go : (r : Record) → earliest cx ch r ≤ instant r → ch.lasts.col.0 ≤ (cond (traits r).col (record { 0 = instant r }) ch.lasts.col).0
      go (RowAt t (Act b row)) h = omega arith
      go (RowAt t (Prer b)) h = omega arith
      go (RowAt t (Refa b)) h = omega arith
      go (RowAt t (Refp b)) h = omega arith
      go (ColAt t (Nocop m)) h = since-last ch.lasts.col.0 cx.settings.cc t.0 (omega (arith, col-asks cx ch (Nocop m), h))
      go (ColAt t (Wr b c m y)) h = since-last ch.lasts.col.0 cx.settings.cc t.0 (omega (arith, col-asks cx ch (Wr b c m y), h))
      go (ColAt t (Rd b c m y)) h = since-last ch.lasts.col.0 cx.settings.cc t.0 (omega (arith, col-asks cx ch (Rd b c m y), h))
      go (DataOf t d) h = omega arith

  act-stays : (w : Write) → w.bank < bank_count → is_open (state_of ch w.bank) ≡ true → (track_of (after cx ch r) w.bank).act ≡ (track_of ch w.bank).act
  act-stays w m o = after-act cx ch k.size r w.bank m ∙ rw (act-elsewhere w.bank o)

  -- the write that a WR loads
  new-early : EarlyOf cx (after cx ch r) (loads r)
  unfolding loads traits col_traits earliest instant
  new-early = go r (fits-inside cx.settings r f) late
    where
      go : (r : Record) → Inside r → earliest cx ch r ≤ instant r → EarlyOf cx (after cx ch r) (loads r)
      go (RowAt t p) i h = tt
      go (ColAt t (Nocop m)) i h = tt
      go (ColAt t (Wr b c m y)) i h = wr-early cx ch k.size t b c m y i.writes-in (omega arith)
      go (ColAt t (Rd b c m y)) i h = tt
      go (DataOf t d) i h = tt

  pub next-early : AllEarly cx ch (waiting_of ch.buffer) → AllEarly cx (after cx ch r) (waiting_of (after cx ch r).buffer)
  unfolding waiting_next
  next-early e =
      let ws : List Write = waiting_of ch.buffer in
      rw (after-waits cx ch r) (joined-early cx (after cx ch r) (loads r) (left (leaving_of cx ch r) ws) new-early
      (left-early cx (after cx ch r) (leaving_of cx ch r) ws (stays-early cx ch (after cx ch r) (λ w. is_open (state_of ch w.bank)) col-later act-stays ws k.opened e)))

-- ---- along a run

pub run-early : (cx : Context) → Neighbours cx → (es : List Record) → Each (Allowed cx) es
    → (Tracks cx (channel_by cx fresh es) es) × (channel_valid cx (channel_by cx fresh es) ≡ true) × (AllEarly cx (channel_by cx fresh es) (waiting_of (channel_by cx fresh es).buffer))
unfolding channel_by
run-early cx ns [] e = (tracks-fresh cx, fresh-channel-valid cx, nothing-waits cx)
run-early cx ns (r ∷ es) e =
    let ih = run-early cx ns es e.1 in
    let ch : Channel = channel_by cx fresh es in
    let j : judged cx ch r ≡ 0 = judged-right cx ns ch es ih.0 r ∙ e.0.1 in (
      tracks-next cx ns ch es ih.0 r e.0.0 e.0.1,
      next-channel-valid cx ns ch r ih.1 e.0.0 j,
      next-early cx ch (valid-sound cx ch ih.1) r e.0.0 j ih.2,
    )
