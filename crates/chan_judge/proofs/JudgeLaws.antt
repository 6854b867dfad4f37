-- The tests on what one record concerns are the seventeen tests on the channel.
-- Assumes nothing.
use Rattle.std.specs.Prelude.{Option, Some}
use Prim.Native.Nat.{ℕ, ◌+◌, ◌-◌}
use mathlib.Core.Path.{◌≡◌, refl, ap, ap₂, ◌∙◌, sym}
use mathlib.Core.Bool.{Bool, true, false, not, ◌&&◌, ◌||◌, cond, and-true, or-true}
use mathlib.Core.List.{List, [], ◌∷◌}
use native.Mathlib.Nat.{add-zero}
use native.Mathlib.Omega.{arith}
use borrow.Author.Tests.{eqb-true}
use lib.Dec.{eqb, leb}
use lib.ListN.{length}
use Rattle.settings.specs.declared.Settings.{Settings}
use Rattle.settings.specs.declared.DataAt.{DataAt}
use Rattle.settings.specs.Instants.{horizon, is_instant}
use Rattle.record.specs.declared.Record.{Record}
use Rattle.record.specs.declared.Record.TheVariants.{RowAt, ColAt, DataOf}
use Rattle.record.specs.declared.Dualoct.{Dualoct}
use Rattle.spec_rules.specs.declared.BankTrack.{BankTrack}
use Rattle.spec_rules.specs.declared.LastInstants.{LastInstants}
use Rattle.spec_rules.specs.declared.Write.{Write}
use Rattle.spec_rules.specs.declared.Channel.{Channel}
use Rattle.spec_rules.specs.Neighbour.{bank_count, context_of}
use Rattle.spec_rules.specs.Packets.{Traits, traits, instant, is_packet}
use Rattle.spec_rules.specs.History.{is_closed, is_open, leaving, left, bank_of, only, any_write, retire_implies, deeds, has}
use Rattle.spec_rules.specs.Distances.{ROW, COL, ACT, only_act, PRER, RD, retire, bank_as, distances}
use Rattle.spec_rules.specs.Rules.{free_for, open_for, longest_delay, implied_delay, stays, all_lose_none, fits_between, data_in_place}
use Rattle.spec_rules.specs.Broken.{lowest}
use Rattle.spec_rules.specs.Channel.{track_of, state_of, waiting_of, due_of, leaving_of}
use Rattle.spec_rules.specs.Checks.{since, bound_of, check_of, then_state, checks, judged}
use Rattle.spec_rules.proofs.TrackLaws.{packet-pins}
use Rattle.spec_rules.proofs.ByRule.{act_bound, check1, check2, check3, check5, check6, check7, check8, check10, check11, check13, check17}
use Rattle.chan_view.specs.declared.View.{View}
use Rattle.chan_view.specs.declared.Held.{Held}
use Rattle.chan_view.specs.declared.Tracks.{Tracks}
use Rattle.chan_view.specs.declared.Seen.TheVariants.{Packet, Data}
use Rattle.chan_view.specs.Form.Beside.{low_of, high_of, tracks_of}
use Rattle.chan_view.specs.Form.Bounds.{bound_if, three}
use Rattle.chan_view.specs.Form.View.{seen_of, held_of, leaves, leaves_closing, centre_of}
use Rattle.chan_view.proofs.NearLaws.{near-all}
use Rattle.chan_view.proofs.PlaceLaws.{past, read_around, around-is}
use Rattle.chan_view.proofs.BoundLaws.{near-bound, own-bound}
use Rattle.chan_view.proofs.ViewLaws.{Shows, seen-shows, leaving-bank, leaving-closes, left-closing, opens-centre, stays-is, held-due}
use Rattle.chan_judge.specs.declared.Precharge.{Precharge}
use Rattle.chan_judge.specs.Form.Tests.{act_over, data_in_time, kept, prer_of, prer_kept, test1, test4, test6, test7, named_open, test9, test10, test11, test12, test13, test14, test17, pin_tests, row_tests, col_tests, buffer_tests, packet_rule, data_rule}
use Rattle.chan_judge.proofs.ArrivalLaws.{in-time}
use Rattle.chan_judge.proofs.FlagLaws.{bound-only, open-only, has-only, open_after, free-only, safe-none}
use Rattle.chan_judge.proofs.PrerLaws.{prer-bound, last_of, around-of, prer-safe}

-- ---- tests and instants

cons_same : {x y : Bool} {l m : List Bool} → x ≡ y → l ≡ m → x ∷ l ≡ y ∷ m
cons_same p q = ap₂ ◌∷◌ p q

no_more : ◌≡◌ {A = List Bool} [] []
no_more = refl

since-zero : (n : ℕ) → since n 0 ≡ n
since-zero n = go (eqb n 0) refl
  where
    go : (c : Bool) → eqb n 0 ≡ c → cond c 0 (n + 0) ≡ n
    go true e = omega (arith, eqb-true)
    go false e = add-zero n

-- ---- a packet

module _ (s : Settings) (ch : Channel) (r : Record) (v : View) (w : Shows r v) (e : length ch.banks ≡ 32) where
  abbrev held : Held
  held = held_of ch.buffer ch.due

  abbrev out : Bool
  out = leaves s held v

  -- the bank of its PRER
  abbrev centre : ℕ
  centre = centre_of s held v

  abbrev around : Tracks
  around = tracks_of s ch.banks v.bank centre held

  abbrev prer : Precharge
  prer = prer_of s v held out around

  opens_of : (traits r).opens ≡ only v.opens (Some v.bank)
  opens_of = ap (λ (k : Traits). k.opens) w.traits-of

  reads_of : (traits r).reads ≡ only v.reads (Some v.bank)
  reads_of = ap (λ (k : Traits). k.reads) w.traits-of

  writes-of : (traits r).writes ≡ only v.writes (Some v.bank)
  writes-of = ap (λ (k : Traits). k.writes) w.traits-of

  out_of : bank_of (leaving_of (context_of s) ch r) ≡ only out (Some held.bank)
  out_of = leaving-bank s ch.buffer ch.due r v w

  -- a bound on the deed of a bank
  kept_of : {o : Option ℕ} (c : Bool) (b : ℕ) → o ≡ only c (Some b) → (f : ℕ → ℕ) (n : ℕ) → f b ≡ n → leb (bound_of o f) (instant r) ≡ kept v c n
  kept_of c b q f n p = rw (q, w.instant-of) (ap (λ (x : ℕ). leb x v.at.0) (bound-only c b f ∙ ap (bound_if c) p))

  -- what is asked of an ACT may be asked of the bank in the middle
  opens-same : {A : Type 0} (f : Bool → ℕ → A) → ((x y : ℕ) → f false x ≡ f false y) → f v.opens v.bank ≡ f v.opens centre
  opens-same f fails = go v.opens refl
    where
      go : (c : Bool) → v.opens ≡ c → f c v.bank ≡ f c centre
      go true q = rw (opens-centre s ch.buffer ch.due r v w q)
      go false q = fails v.bank centre

  open_of : {o : Option ℕ} (c : Bool) (b : ℕ) → o ≡ only c (Some b) → open_for (state_of ch) o ≡ (not c || is_open (state_of ch b))
  open_of c b q = rw q (open-only c b (state_of ch))

  is1 : ((is_instant (instant r) && (leb (instant r + longest_delay (context_of s) r) horizon && leb (instant r + implied_delay (context_of s) (leaving_of (context_of s) ch r)) horizon)) && check_of (context_of s) ch r 1)
      ≡ test1 s v prer.at ch.lasts.packet.0
  unfolding prer_of context_of
  is1 = ap₂ ◌&&◌ range order ∙ regroup (is_instant v.at.0) (data_in_time s v) (leb prer.at horizon) (leb ch.lasts.packet.0 v.at.0)
    where
      implied : has (retire_implies (leaving_of (context_of s) ch r)) ≡ leaves_closing s held v
      implied = ap has (leaving-closes s ch.buffer ch.due r v w) ∙ has-only (leaves_closing s held v) held.bank

      range : (is_instant (instant r) && (leb (instant r + longest_delay (context_of s) r) horizon && leb (instant r + implied_delay (context_of s) (leaving_of (context_of s) ch r)) horizon))
          ≡ (is_instant v.at.0 && (data_in_time s v && leb prer.at horizon))
      range = rw (w.instant-of, w.delay-of s, implied) (in-time s v (leaves_closing s held v))

      order : check_of (context_of s) ch r 1 ≡ leb ch.lasts.packet.0 v.at.0
      order = check1 (context_of s) ch r ∙ rw ((packet-pins r w.packet-of).0, w.instant-of, since-zero ch.lasts.packet.0)

      regroup : (a b c d : Bool) → ((a && (b && c)) && d) ≡ (a && (b && (c && d)))
      regroup true true c d = refl
      regroup true false c d = refl
      regroup false b c d = refl

  is2 : check_of (context_of s) ch r 2 ≡ kept v v.row (since ch.lasts.row.0 4)
  is2 = check2 (context_of s) ch r ∙ kept_of v.row 0 (ap (bank_as ROW) w.traits-of) _ _ refl

  is3 : check_of (context_of s) ch r 3 ≡ kept v v.col (since ch.lasts.col.0 s.cc)
  unfolding context_of
  is3 = check3 (context_of s) ch r ∙ kept_of v.col 0 (ap (bank_as COL) w.traits-of) _ _ refl

  is4 : free_for (context_of s) (state_of ch) (traits r).opens ≡ test4 v around
  unfolding is_closed
  is4 =
      ap (free_for (context_of s) (state_of ch)) opens_of
      ∙ free-only s v.opens v.bank (state_of ch)
      ∙ ap (λ (c : Bool). not v.opens || c) (near-all (λ x. is_closed (state_of ch x)) (λ x h. ap (λ (k : BankTrack). is_closed k.bank) (past ch.banks e x h)) s v.bank)
      ∙ opens-same (λ c x. not c || (is_closed (state_of ch v.bank) && (is_closed (state_of ch (low_of s x)) && is_closed (state_of ch (high_of s x))))) (λ x y. refl)

  is5 : check_of (context_of s) ch r 5 ≡ kept v v.opens (act_over s ch.banks v.bank)
  unfolding context_of act_over bank_count
  is5 = check5 (context_of s) ch r ∙ kept_of v.opens v.bank opens_of (act_bound (context_of s) ch) _ refl

  is6 : check_of (context_of s) ch r 6 ≡ test6 s prer around
  unfolding context_of prer_of
  is6 = check6 (context_of s) ch r ∙ prer-bound s ch r v w e _ _ (around-of s ch r v w e ACT s.ras _ (last_of s ch r v w e (λ k. k.opened)))

  is7 : check_of (context_of s) ch r 7 ≡ test7 s v around
  unfolding context_of
  is7 =
      check7 (context_of s) ch r
      ∙ kept_of v.opens v.bank opens_of _ _ (near-bound s ch e PRER s.rp v.bank)
      ∙ opens-same (λ c x. kept v c (three (track_of ch v.bank).pre.0 (track_of ch (low_of s x)).pre.0 (track_of ch (high_of s x)).pre.0 s.rp)) (λ x y. refl)

  is8 : check_of (context_of s) ch r 8 ≡ prer_kept prer (since ch.lasts.pre.0 s.pp)
  unfolding context_of
  is8 = check8 (context_of s) ch r ∙ prer-bound s ch r v w e (λ b. since ch.lasts.pre.0 s.pp) _ refl

  -- the bank that it names, once the write has left
  named-of : is_open (then_state (context_of s) ch r v.bank) ≡ named_open s v held out around
  named-of = rw (leaving-closes s ch.buffer ch.due r v w) (open_after s (leaves_closing s held v) held.bank v.bank (state_of ch v.bank))

  then-of : {o : Option ℕ} (c : Bool) → o ≡ only c (Some v.bank) → open_for (then_state (context_of s) ch r) o ≡ (not c || named_open s v held out around)
  then-of c q = rw q (open-only c v.bank (then_state (context_of s) ch r) ∙ ap (λ (x : Bool). not c || x) named-of)

  is9 : (open_for (then_state (context_of s) ch r) (traits r).reads && (open_for (then_state (context_of s) ch r) (traits r).writes && open_for (state_of ch) (bank_of (leaving_of (context_of s) ch r)))) ≡ test9 s v held out around
  is9 = ap₂ ◌&&◌ (then-of v.reads reads_of) (ap₂ ◌&&◌ (then-of v.writes writes-of) (open_of out held.bank out_of))

  is10 : check_of (context_of s) ch r 10 ≡ test10 s v out around
  unfolding context_of
  is10 =
      check10 (context_of s) ch r
      ∙ ap₂ ◌&&◌ (kept_of v.reads v.bank reads_of _ _ (own-bound s ch e only_act s.rcd v.bank))
      (ap₂ ◌&&◌ (kept_of out held.bank out_of _ _ (own-bound s ch e only_act s.rcd held.bank))
      (kept_of v.writes v.bank writes-of _ _ (own-bound s ch e only_act (s.rcd - s.rtr) v.bank)))

  is11 : check_of (context_of s) ch r 11 ≡ test11 s v ch.lasts.rd.0
  unfolding context_of
  is11 = check11 (context_of s) ch r ∙ kept_of v.writes v.bank writes-of _ _ refl

  is12 : (has (bank_of (leaving_of (context_of s) ch r)) || stays (waiting_of ch.buffer) (traits r)) ≡ test12 v out held
  is12 = ap₂ ◌||◌ (ap has out_of ∙ has-only out held.bank) (stays-is s ch.buffer ch.due r v w)

  is13 : check_of (context_of s) ch r 13 ≡ test13 s prer around
  unfolding context_of prer_of
  is13 = check13 (context_of s) ch r ∙ ap₂ ◌&&◌ (prer-bound s ch r v w e _ _ (around-of s ch r v w e RD s.rdp _ (last_of s ch r v w e (λ k. k.rd)))) (prer-bound s ch r v w e _ _ (around-of s ch r v w e retire s.rtp _ (last_of s ch r v w e (λ k. k.retire))))

  is14 : all_lose_none (context_of s) (state_of ch) (waiting_of ch.buffer) r ≡ test14 s prer held out around
  is14 = prer-safe s ch r v w e

  is15 : data_in_place (due_of (context_of s) ch) r ≡ not held.due
  is15 = rw (held-due s ch) (go held.due)
    where
      go : (c : Bool) → data_in_place (only c (Some (held.newest.0 + s.cwd))) r ≡ not c
      go true = rw w.packet-of
      go false = w.packet-of

  is16 : (not (traits r).masked || has (bank_of (leaving_of (context_of s) ch r))) ≡ (not v.masked || out)
  is16 = ap₂ (λ a b. not a || b) (ap (λ (k : Traits). k.masked) w.traits-of) (ap has out_of ∙ has-only out held.bank)

  is17 : (fits_between (context_of s) (waiting_of ch.buffer) r && check_of (context_of s) ch r 17) ≡ test17 v held out ch.lasts.implied.0
  is17 =
      ap₂ ◌&&◌
      (ap₂ (λ a b. not a || not b) (left-closing s ch.buffer ch.due r v w) (ap₂ ◌||◌ (ap (λ (k : Traits). k.row) w.traits-of) (ap has writes-of ∙ has-only v.writes v.bank)))
      (check17 (context_of s) ch r ∙ kept_of v.row 0 (ap (bank_as ROW) w.traits-of) _ _ refl)

  -- the lowest rule that is found is the one that the seventeen tests find
  packet-judged : judged (context_of s) ch r ≡ packet_rule s v held around (act_over s ch.banks v.bank) ch.lasts
  unfolding judged checks packet_rule pin_tests row_tests col_tests buffer_tests
  packet-judged =
      ap (lowest 1)
      (cons_same is1 (cons_same is2 (cons_same is3 (cons_same is4 (cons_same is5 (cons_same is6 (cons_same is7 (cons_same is8 (cons_same is9 (cons_same is10 (cons_same is11 (cons_same is12 (cons_same is13 (cons_same is14 (cons_same is15 (cons_same is16 (cons_same is17 no_more)))))))))))))))))

-- rule 5's bound is not asked of a packet that opens no bank
act-unused : (s : Settings) (v : View) (h : Held) (k : Tracks) (l : LastInstants) (a b : ℕ) → v.opens ≡ false → packet_rule s v h k a l ≡ packet_rule s v h k b l
unfolding packet_rule row_tests
act-unused s v h k l a b e = rw e

-- ---- a packet, by the tracks that were read at indices

module _ (s : Settings) (v : View) (h : Held) (l : List BankTrack) (e : length l ≡ 32) (lasts : LastInstants) where
  abbrev rule_by : Tracks → ℕ → ℕ
  rule_by k act = packet_rule s v h k act lasts

  pub rule-read : rule_by (read_around l e s v.bank (centre_of s h v) h) (act_over s l v.bank) ≡ rule_by (tracks_of s l v.bank (centre_of s h v) h) (act_over s l v.bank)
  rule-read = ap (λ (k : Tracks). rule_by k (act_over s l v.bank)) (around-is l e s v.bank (centre_of s h v) h)

  pub rule-unopened : v.opens ≡ false → rule_by (read_around l e s v.bank (centre_of s h v) h) 0 ≡ rule_by (tracks_of s l v.bank (centre_of s h v) h) (act_over s l v.bank)
  rule-unopened q = unused ∙ rule-read
    where
      unused : rule_by (read_around l e s v.bank (centre_of s h v) h) 0 ≡ rule_by (read_around l e s v.bank (centre_of s h v) h) (act_over s l v.bank)
      unused = act-unused s v h (read_around l e s v.bank (centre_of s h v) h) lasts 0 (act_over s l v.bank) q

-- ---- data

module _ (s : Settings) (ch : Channel) (t : DataAt) (d : Dualoct) where
  range-of : ((is_instant (instant (DataOf t d)) && (leb (instant (DataOf t d) + longest_delay (context_of s) (DataOf t d)) horizon && leb (instant (DataOf t d) + implied_delay (context_of s) (leaving_of (context_of s) ch (DataOf t d))) horizon)) && check_of (context_of s) ch (DataOf t d) 1) ≡ is_instant t.0
  unfolding instant longest_delay check_of deeds distances leaving traits
  range-of = rw (add-zero t.0) (and-true _ ∙ go (leb 4 t.0) (leb t.0 horizon))
    where
      go : (a b : Bool) → ((a && b) && (b && b)) ≡ (a && b)
      go true true = refl
      go true false = refl
      go false b = refl

  safe-of : all_lose_none (context_of s) (state_of ch) (waiting_of ch.buffer) (DataOf t d) ≡ true
  unfolding traits leaving
  safe-of = rw (safe-none s (state_of ch) (waiting_of ch.buffer))

  fits-of : fits_between (context_of s) (waiting_of ch.buffer) (DataOf t d) ≡ true
  unfolding traits leaving
  fits-of = or-true (not (any_write (λ w. w.close) (waiting_of ch.buffer)))

  stays_of : stays (waiting_of ch.buffer) (traits (DataOf t d)) ≡ true
  unfolding traits
  stays_of = go (waiting_of ch.buffer)
    where
      go : (ws : List Write) → stays ws (traits (DataOf t d)) ≡ true
      go [] = refl
      go (x ∷ []) = refl
      go (x ∷ y ∷ ws) = refl

  due-of : data_in_place (due_of (context_of s) ch) (DataOf t d) ≡ ((held_of ch.buffer ch.due).due && eqb t.0 ((held_of ch.buffer ch.due).newest.0 + s.cwd))
  unfolding is_packet instant
  due-of = rw (held-due s ch) (go (held_of ch.buffer ch.due).due)
    where
      go : (c : Bool) → data_in_place (only c (Some ((held_of ch.buffer ch.due).newest.0 + s.cwd))) (DataOf t d) ≡ (c && eqb t.0 ((held_of ch.buffer ch.due).newest.0 + s.cwd))
      go true = refl
      go false = refl

  data-judged : judged (context_of s) ch (DataOf t d) ≡ data_rule s (held_of ch.buffer ch.due) t
  unfolding judged checks lowest data_rule check_of deeds distances traits leaving
  data-judged = rw (range-of, stays_of, safe-of, fits-of, due-of)

-- ---- a record, by what it is seen as

module _ (s : Settings) (ch : Channel) (r : Record) where
  abbrev buffered : Held
  buffered = held_of ch.buffer ch.due

  pub judged-packet : length ch.banks ≡ 32 → (v : View) → seen_of r ≡ Packet v
      → packet_rule s v buffered (tracks_of s ch.banks v.bank (centre_of s buffered v) buffered) (act_over s ch.banks v.bank) ch.lasts ≡ judged (context_of s) ch r
  judged-packet e v q = sym (packet-judged s ch r v (seen-shows r v q) e)

  pub judged-data : (t : DataAt) → seen_of r ≡ Data t → data_rule s buffered t ≡ judged (context_of s) ch r
  unfolding seen_of
  judged-data t q = go r q
    where
      go : (r : Record) → seen_of r ≡ Data t → data_rule s buffered t ≡ judged (context_of s) ch r
      go (RowAt u p) q = absurd (let z : ◌≡◌ {A = ℕ} 0 1 = cc in omega arith)
      go (ColAt u p) q = absurd (let z : ◌≡◌ {A = ℕ} 0 1 = cc in omega arith)
      go (DataOf u d) q = let e : t ≡ u = cc in rw e (sym (data-judged s ch u d))
