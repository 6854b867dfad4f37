-- What a planner keeps between its steps, instants apart: it holds of every planner state that is not refused, and each packet
-- that the planner sends then passes the tests on the state (rules 4, 9, 14, 15 and 16).
-- Assumes nothing.
use Rattle.std.specs.Prelude.{Option, None, Some}
use Prim.Native.Nat.{ℕ, ◌≤◌, ◌<◌, ◌^◌}
use mathlib.Core.Path.{◌≡◌, refl, sym, subst, ◌∙◌}
use mathlib.Core.Bool.{Bool, true, false, not, ◌&&◌, ◌||◌, cond, or-true}
use mathlib.Core.List.{List, [], ◌∷◌}
use lib.Dec.{eqb, leb, ltb}
use lib.ListN.{length}
use borrow.Author.Tests.{leb-true, ltb-true, lt-ltb, eqb-true, not-true}
use native.Mathlib.Omega.{arith}
use Rattle.num.specs.Search.{all_up_to}
use Rattle.num.proofs.SearchLaws.{all-at, all-intro}
use Rattle.settings.specs.Instants.{is_instant}
use Rattle.packet.specs.declared.ColPacket.TheVariants.{Nocop}
use Rattle.record.specs.declared.Record.{Record}
use Rattle.record.specs.declared.Record.TheVariants.{ColAt}
use Rattle.spec_rules.specs.declared.Bank.{Bank}
use Rattle.spec_rules.specs.declared.Bank.TheVariants.{Closed, Open, Refresh}
use Rattle.spec_rules.specs.declared.Write.{Write}
use Rattle.spec_rules.specs.declared.Channel.{Channel}
use Rattle.spec_rules.specs.Neighbour.{bank_count, Context, Neighbours, near}
use Rattle.spec_rules.specs.Packets.{traits, col_traits, instant, is_packet}
use Rattle.spec_rules.specs.History.{is_closed, is_open, first, only_write, passed, leaving, left, queued, bank_of, retire_implies, any_write, all_writes, reaches}
use Rattle.spec_rules.specs.Rules.{free_for, open_for}
use Rattle.spec_rules.specs.Channel.{never, track_of, state_of, waiting_of, due_of}
use Rattle.spec_rules.specs.Earliest.{fits}
use Rattle.spec_rules.proofs.EarliestLaws.{leaver_fits}
use Rattle.spec_rules.proofs.Bools.{not-both, and_left, and_right, neither}
use Rattle.spec_state.specs.Valid.{bank_valid, track_valid, write_valid, lasts_valid, apart, channel_valid}
use Rattle.spec_state.proofs.RoundTrip.{WritesIn, in-write}
use Rattle.spec_plan.specs.declared.PlannerState.{PlannerState}
use Rattle.spec_plan.specs.Planner.{not_refresh, planner_valid}
use Rattle.spec_plan.specs.Plan.{any_closes, carried, shifted}

-- open rows are in range, no bank is under refresh, and of two neighbours one is closed
pub record Banked (cx : Context) (state : ℕ → Bank) : Type 0 where
  pub rows_in : (x : ℕ) → x < bank_count → bank_valid cx (state x) ≡ true
  pub no-refresh : (x : ℕ) → x < bank_count → not_refresh (state x) ≡ true
  pub one-closed : (x y : ℕ) → x < bank_count → y < bank_count → cx.nbr x y ≡ true → is_closed (state x) || is_closed (state y) ≡ true

-- each bank of a waiting write is open by ACT
abbrev pub all_open : (ℕ → Bank) → List Write → Bool
all_open state ws = all_writes (λ w. is_open (state w.bank)) ws

-- writes wait in banks that are open by ACT, and no data are due
pub record Held (cx : Context) (ch : Channel) : Type 0 where
  pub write-in : WritesIn cx (waiting_of ch.buffer)
  pub opened : all_open (state_of ch) (waiting_of ch.buffer) ≡ true
  pub no_due : ch.due ≡ false

pub record Inv (cx : Context) (p : PlannerState) : Type 0 where
  pub size : length p.channel.banks ≡ bank_count
  pub banked : Banked cx (state_of p.channel)
  pub held : Held cx p.channel
  pub refresh-in : p.refresh < bank_count
  pub mask-in : p.mask < 2 ^ 16
  pub second-in : p.second < 2 ^ 16
  pub low : 4 ≤ p.now.0

-- ---- a state that is not refused keeps it

-- what a state that is not refused is, test by test
pub record Tested (cx : Context) (p : PlannerState) : Type 0 where
  pub size : eqb (length p.channel.banks) bank_count ≡ true
  pub tracks : all_up_to (λ x. track_valid cx (track_of p.channel x)) bank_count ≡ true
  pub lasts : lasts_valid p.channel ≡ true
  pub write : all_writes (write_valid cx) (waiting_of p.channel.buffer) ≡ true
  pub one-closed : apart cx (state_of p.channel) ≡ true
  pub opened : all_open (state_of p.channel) (waiting_of p.channel.buffer) ≡ true
  pub due-of : not p.channel.due || any_write (λ w. true) (waiting_of p.channel.buffer) ≡ true
  pub no-refresh : all_up_to (λ x. not_refresh (state_of p.channel x)) bank_count ≡ true
  pub plain : not (any_closes (waiting_of p.channel.buffer)) ≡ true
  pub no_due : not p.channel.due ≡ true
  pub now-in : is_instant p.now.0 ≡ true
  pub refresh-in : ltb p.refresh bank_count ≡ true
  pub mask-in : ltb p.mask 0x10000 ≡ true
  pub second-in : ltb p.second 0x10000 ≡ true

pub valid-tested : (cx : Context) (p : PlannerState) → planner_valid cx p ≡ true → Tested cx p
unfolding planner_valid channel_valid
valid-tested cx p e =
    let ch : Channel = p.channel in
    let w : List Write = waiting_of ch.buffer in
    let a = and_left (channel_valid cx ch) _ e in
    let ranges : Bool = eqb (length ch.banks) bank_count && (all_up_to (λ x. track_valid cx (track_of ch x)) bank_count && (lasts_valid ch && all_writes (write_valid cx) w)) in
    let b = and_left ranges _ a in
    let c = and_right (eqb (length ch.banks) bank_count) _ b in
    let d = and_right (all_up_to (λ x. track_valid cx (track_of ch x)) bank_count) _ c in
    let f = and_right (channel_valid cx ch) _ e in
    let g = and_right (all_up_to (λ x. not_refresh (state_of ch x)) bank_count) _ f in
    let gd = and_right (not (any_closes w)) _ g in
    let h = and_right (not ch.due) _ gd in
    let i = and_right (is_instant p.now.0) _ h in
    let j = and_right (ltb p.refresh bank_count) _ i in
    let l = and_right (apart cx (state_of ch)) _ (and_right ranges _ a) in
    record {
      size = and_left (eqb (length ch.banks) bank_count) _ b;
      tracks = and_left (all_up_to (λ x. track_valid cx (track_of ch x)) bank_count) _ c;
      lasts = and_left (lasts_valid ch) _ d;
      write = and_right (lasts_valid ch) _ d;
      one-closed = and_left (apart cx (state_of ch)) _ (and_right ranges _ a);
      opened = and_left (all_open (state_of ch) w) _ l;
      due-of = and_right (all_open (state_of ch) w) _ l;
      no-refresh = and_left (all_up_to (λ x. not_refresh (state_of ch x)) bank_count) _ f;
      plain = and_left (not (any_closes w)) _ g;
      no_due = and_left (not ch.due) _ gd;
      now-in = and_left (is_instant p.now.0) _ h;
      refresh-in = and_left (ltb p.refresh bank_count) _ i;
      mask-in = and_left (ltb p.mask 0x10000) _ j;
      second-in = and_right (ltb p.mask 0x10000) _ j;
    }

pub tested-valid : (cx : Context) (p : PlannerState) → Tested cx p → planner_valid cx p ≡ true
unfolding planner_valid channel_valid
tested-valid cx p t =
    rw (t.size, t.tracks, t.lasts, t.write, t.one-closed, t.opened, not-true p.channel.due t.no_due, t.no-refresh, t.plain, t.now-in, t.refresh-in, t.mask-in, t.second-in)

or_else : (a b : Bool) → not a || b ≡ true → a ≡ true → b ≡ true
or_else a b h e = rw e at h

pub valid-inv : (cx : Context) (p : PlannerState) → planner_valid cx p ≡ true → Inv cx p
unfolding track_valid apart
valid-inv cx p e =
    let t : Tested cx p = valid-tested cx p e in
    let state : ℕ → Bank = state_of p.channel in
    record {
      size = eqb-true _ _ t.size;
      banked = record {
        rows_in = λ x m. and_left (bank_valid cx (state x)) _ (all-at (λ x. track_valid cx (track_of p.channel x)) bank_count x t.tracks m);
        no-refresh = λ x m. all-at (λ x. not_refresh (state x)) bank_count x t.no-refresh m;
        one-closed = λ x y mx my n.
            or_else (cx.nbr x y) _
            (all-at (λ y. not (cx.nbr x y) || (is_closed (state x) || is_closed (state y))) bank_count y
            (all-at (λ x. all_up_to (λ y. not (cx.nbr x y) || (is_closed (state x) || is_closed (state y))) bank_count) bank_count x t.one-closed mx) my) n;
      };
      held = record { write-in = in-write cx (waiting_of p.channel.buffer) t.write; opened = t.opened; no_due = not-true p.channel.due t.no_due };
      refresh-in = ltb-true _ _ t.refresh-in;
      mask-in = ltb-true _ _ t.mask-in;
      second-in = ltb-true _ _ t.second-in;
      low = leb-true _ _ (and_left (leb 4 p.now.0) _ t.now-in);
    }

-- between requests no write that waits closes its bank
pub valid-plain : (cx : Context) (p : PlannerState) → planner_valid cx p ≡ true → any_closes (waiting_of p.channel.buffer) ≡ false
valid-plain cx p e = not-true (any_closes (waiting_of p.channel.buffer)) (valid-tested cx p e).plain

-- ---- bank states after a step

-- the bank and its neighbours are closed
abbrev pub NearClosed : Context → (ℕ → Bank) → ℕ → Type 0
NearClosed cx state b = (y : ℕ) → y < bank_count → near cx b y ≡ true → is_closed (state y) ≡ true

-- the banks that q picks are all made one thing, and the rest stay
abbrev pub Changed : (ℕ → Bool) → Bank → (ℕ → Bank) → (ℕ → Bank) → Type 0
Changed q new state state' = (x : ℕ) → x < bank_count → state' x ≡ cond (q x) new (state x)

either-bank : (P : Bank → Bool) (q : Bool) (a b : Bank) → P a ≡ true → P b ≡ true → P (cond q a b) ≡ true
either-bank P true a b e f = e
either-bank P false a b e f = f

pub near-beside : (cx : Context) (b x : ℕ) → cx.nbr b x ≡ true → near cx b x ≡ true
near-beside cx b x e = rw e (or-true (eqb x b))

module _ (cx : Context) (state state' : ℕ → Bank) (k : Banked cx state) where
  pub banked-shut : (q : ℕ → Bool) → Changed q Closed state state' → Banked cx state'
  unfolding bank_valid not_refresh is_closed
  banked-shut q e =
      record {
        rows_in = λ x m. rw (e x m) (either-bank (bank_valid cx) (q x) Closed (state x) refl (k.rows_in x m));
        no-refresh = λ x m. rw (e x m) (either-bank not_refresh (q x) Closed (state x) refl (k.no-refresh x m));
        one-closed = λ x y mx my n. rw (e x mx, e y my) (shut (q x) (q y) (state x) (state y) (k.one-closed x y mx my n));
      }
    where
      shut : (p q : Bool) (a b : Bank) → is_closed a || is_closed b ≡ true → is_closed (cond p Closed a) || is_closed (cond q Closed b) ≡ true
      shut true q a b h = refl
      shut false true a b h = or-true (is_closed a)
      shut false false a b h = h

  pub banked-open : Neighbours cx → (b row : ℕ) → row < cx.settings.rows → NearClosed cx state b → Changed (λ x. eqb x b) (Open row) state state' → Banked cx state'
  unfolding bank_valid not_refresh is_closed
  banked-open ns b row l c e =
      record {
        rows_in = λ x m. rw (e x m) (either-bank (bank_valid cx) (eqb x b) (Open row) (state x) (lt-ltb row cx.settings.rows l) (k.rows_in x m));
        no-refresh = λ x m. rw (e x m) (either-bank not_refresh (eqb x b) (Open row) (state x) refl (k.no-refresh x m));
        one-closed = λ x y mx my n. rw (e x mx, e y my) (go x y mx my n (eqb x b) (eqb y b) refl refl);
      }
    where
      go : (x y : ℕ) → x < bank_count → y < bank_count → cx.nbr x y ≡ true → (i j : Bool) → eqb x b ≡ i → eqb y b ≡ j
          → is_closed (cond i (Open row) (state x)) || is_closed (cond j (Open row) (state y)) ≡ true
      go x y mx my n false false ei ej = k.one-closed x y mx my n
      go x y mx my n true true ei ej = not-both (cx.nbr x y) n (rw (eqb-true x b ei, eqb-true y b ej) (ns.irreflexive b))
      go x y mx my n true false ei ej = c y my (near-beside cx b y (rw (← eqb-true x b ei) n))
      go x y mx my n false true ei ej = rw (c x mx (near-beside cx b x (ns.symmetric b x ∙ rw (← eqb-true y b ej) n)))

-- ---- the writes that wait

open-not-closed : (b : Bank) → is_open b ≡ true → is_closed b ≡ false
unfolding is_open is_closed
open-not-closed Closed e = sym e
open-not-closed (Open r) e = refl
open-not-closed Refresh e = refl

-- whether a test picks the bank of a waiting write
abbrev pub in_banks : (ℕ → Bool) → List Write → Bool
in_banks q ws = any_write (λ w. q w.bank) ws

pub none-picked : (ws : List Write) → in_banks (λ x. false) ws ≡ false
none-picked [] = refl
none-picked (w ∷ ws) = none-picked ws

module _ (cx : Context) (state : ℕ → Bank) where
  -- they are far from a bank that is closed with its neighbours
  pub held-far : (b : ℕ) (ws : List Write) → WritesIn cx ws → all_open state ws ≡ true → NearClosed cx state b → in_banks (near cx b) ws ≡ false
  held-far b [] i h c = refl
  held-far b (w ∷ ws) i h c = rw (go (near cx b w.bank) refl) (held-far b ws i.1 (and_right (is_open (state w.bank)) _ h) c)
    where
      go : (q : Bool) → near cx b w.bank ≡ q → q ≡ false
      go false e = refl
      go true e = not-both (is_closed (state w.bank)) (c w.bank i.0.0 e) (open-not-closed (state w.bank) (and_left (is_open (state w.bank)) _ h))

  pub far-other : (b : ℕ) (ws : List Write) → in_banks (near cx b) ws ≡ false → in_banks (λ x. eqb x b) ws ≡ false
  far-other b [] h = refl
  far-other b (w ∷ ws) h =
      let both = neither (near cx b w.bank) _ h in
      rw (neither (eqb w.bank b) (cx.nbr b w.bank) both.0).0 (far-other b ws both.1)

  -- their banks stay open where they are not among those that change
  pub held_stays : (state' : ℕ → Bank) (q : ℕ → Bool) (new : Bank) (ws : List Write) → WritesIn cx ws → in_banks q ws ≡ false → Changed q new state state'
      → all_open state ws ≡ true → all_open state' ws ≡ true
  held_stays state' q new [] i f e h = refl
  held_stays state' q new (w ∷ ws) i f e h =
      let both = neither (q w.bank) _ f in
      rw (e w.bank i.0.0, both.0, and_left (is_open (state w.bank)) _ h) (held_stays state' q new ws i.1 both.1 e (and_right (is_open (state w.bank)) _ h))

-- ---- writes that close their bank

-- only the newest may close its bank
abbrev pub newest_closes : List Write → Bool
newest_closes [] = true
newest_closes (x ∷ []) = true
newest_closes (x ∷ y ∷ ws) = not x.close

-- where none does, what leaves closes no bank
pub leaving-plain : (cx : Context) (ws : List Write) (r : Record) → any_closes ws ≡ false → retire_implies (leaving cx ws r) ≡ None
unfolding leaving
leaving-plain cx ws r e = go ws e ((traits r).not_read && passed cx (first ws) (instant r))
  where
    go : (ws : List Write) → any_closes ws ≡ false → (b : Bool) → retire_implies (only_write b (first ws)) ≡ None
    go ws e false = refl
    go [] e true = refl
    go (w ∷ ws) e true = rw (neither w.close _ e).0

pub left-plain : (o : Option Write) (ws : List Write) → any_closes ws ≡ false → any_closes (left o ws) ≡ false
left-plain None ws e = e
left-plain (Some w) [] e = refl
left-plain (Some w) (x ∷ ws) e = (neither x.close _ e).1

pub queued-plain : (ws : List Write) (w : Write) → any_closes ws ≡ false → w.close ≡ false → any_closes (queued ws w) ≡ false
queued-plain [] w e h = rw h
queued-plain (x ∷ ws) w e h = rw ((neither x.close _ e).0, h)

pub queued-newest : (ws : List Write) (w : Write) → any_closes ws ≡ false → newest_closes (queued ws w) ≡ true
queued-newest [] w e = refl
queued-newest (x ∷ ws) w e = rw (neither x.close _ e).0

-- ---- one leaves, one joins

pub left_in : (cx : Context) (o : Option Write) (ws : List Write) → WritesIn cx ws → WritesIn cx (left o ws)
left_in cx None ws i = i
left_in cx (Some w) [] i = tt
left_in cx (Some w) (x ∷ ws) i = i.1

pub left_open : (state : ℕ → Bank) (o : Option Write) (ws : List Write) → all_open state ws ≡ true → all_open state (left o ws) ≡ true
left_open state None ws h = h
left_open state (Some w) [] h = refl
left_open state (Some w) (x ∷ ws) h = and_right (is_open (state x.bank)) _ h

pub queued-in : (cx : Context) (w : Write) (ws : List Write) → (w.bank < bank_count) × (w.column < cx.settings.columns) → WritesIn cx ws → WritesIn cx (queued ws w)
queued-in cx w [] i k = (i, tt)
queued-in cx w (x ∷ ws) i k = (k.0, (i, tt))

pub queued-open : (state : ℕ → Bank) (w : Write) (ws : List Write) → is_open (state w.bank) ≡ true → all_open state ws ≡ true → all_open state (queued ws w) ≡ true
queued-open state w [] i h = rw i
queued-open state w (x ∷ ws) i h = rw (and_left (is_open (state x.bank)) _ h, i)

pub first-open : (state : ℕ → Bank) (ws : List Write) → all_open state ws ≡ true → open_for state (bank_of (first ws)) ≡ true
first-open state [] h = refl
first-open state (w ∷ ws) h = and_left (is_open (state w.bank)) _ h

-- ---- the tests on the state

due-none : (cx : Context) (ch : Channel) → ch.due ≡ false → due_of cx ch ≡ None
unfolding due_of
due-none cx ch e = rw e

loses-none : (p q : ℕ → Bool) (ws : List Write) → in_banks p ws ≡ false → in_banks (λ x. p x && q x) ws ≡ false
loses-none p q [] h = refl
loses-none p q (w ∷ ws) h = let both = neither (p w.bank) _ h in rw both.0 (loses-none p q ws both.1)

-- a packet passes them where its bank is free or open, and where it closes no bank of a waiting write
pub fits_by : (cx : Context) (ch : Channel) → Held cx ch → (r : Record) → is_packet r ≡ true
    → free_for cx (state_of ch) (traits r).opens ≡ true → open_for (state_of ch) (traits r).reads ≡ true → open_for (state_of ch) (traits r).writes ≡ true
    → in_banks (reaches cx (traits r).precharges) (waiting_of ch.buffer) ≡ false → in_banks (reaches cx (traits r).implies) (waiting_of ch.buffer) ≡ false
    → fits cx ch r ≡ true
unfolding fits
fits_by cx ch h r packet free reads writes far shut =
    rw (
      free,
      reads,
      writes,
      due-none cx ch h.no_due,
      packet,
      loses-none (reaches cx (traits r).precharges) (λ x. not (is_closed (state_of ch x))) (waiting_of ch.buffer) far,
      loses-none (reaches cx (traits r).implies) (λ x. not (is_closed (state_of ch x))) (waiting_of ch.buffer) shut,
    )

-- where no write that waits closes its bank, the older one may be retired
pub leaver-plain : (cx : Context) (ch : Channel) (r : Record) (ws : List Write) → all_open (state_of ch) ws ≡ true → any_closes ws ≡ false
    → open_for (state_of ch) (traits r).reads ≡ true → open_for (state_of ch) (traits r).writes ≡ true → leaver_fits cx ch r ws ≡ true
leaver-plain cx ch r [] h c reads writes = refl
leaver-plain cx ch r (w ∷ ws) h c reads writes =
    let both = neither w.close (any_closes ws) c in
    rw (both.0, and_left (is_open (state_of ch w.bank)) _ h, reads, writes, none-picked ws, both.1)

-- NOCOP may retire it even so
pub leaver-nocop : (cx : Context) (ch : Channel) (ws : List Write) → all_open (state_of ch) ws ≡ true → newest_closes ws ≡ true
    → leaver_fits cx ch (ColAt never (Nocop 0xFFFF)) ws ≡ true
unfolding traits col_traits
leaver-nocop cx ch [] h c = refl
leaver-nocop cx ch (w ∷ []) h c = rw (and_left (is_open (state_of ch w.bank)) _ h)
leaver-nocop cx ch (w ∷ y ∷ ws) h c =
    subst (λ q. leaver_fits cx ch (ColAt never (Nocop 0xFFFF)) (record w { close = q } ∷ y ∷ ws) ≡ true) (sym (not-true w.close c))
    (rw (and_left (is_open (state_of ch w.bank)) _ h, none-picked ws) (or-true (not (y.close || any_closes ws))))

pub free-near : (cx : Context) (state : ℕ → Bank) (b : ℕ) → NearClosed cx state b → free_for cx state (Some b) ≡ true
free-near cx state b c = all-intro (λ x. not (near cx b x) || is_closed (state x)) bank_count (λ x m. go x (near cx b x) refl (c x m))
  where
    go : (x : ℕ) (q : Bool) → near cx b x ≡ q → (near cx b x ≡ true → is_closed (state x) ≡ true) → not q || is_closed (state x) ≡ true
    go x true e f = f e
    go x false e f = refl

pub carried-in : (o : Option Write) (mask : ℕ) → mask < 2 ^ 16 → carried o mask < 2 ^ 16
carried-in None mask m = omega arith
carried-in (Some w) mask m = m

pub shifted_in : (o : Option Write) (mask second : ℕ) → mask < 2 ^ 16 → second < 2 ^ 16 → shifted o mask second < 2 ^ 16
shifted_in None mask second m n = omega arith
shifted_in (Some w) mask second m n = omega arith
