-- Rule by rule, the tests on the tracked state are the rules over every earlier record.
-- Assumes nothing.
use Rattle.std.specs.Prelude.{Option, None, Some}
use Prim.Native.Nat.{ℕ, ◌+◌, ◌<◌}
use mathlib.Core.Path.{◌≡◌, refl, sym, ap, ap₂, ◌∙◌}
use mathlib.Core.Bool.{Bool, true, false, not, ◌&&◌, ◌||◌}
use mathlib.Core.List.{List, [], ◌∷◌}
use lib.Dec.{eqb, leb}
use Rattle.settings.specs.Instants.{horizon, is_instant}
use Rattle.record.specs.declared.Record.{Record}
use Rattle.spec_rules.specs.declared.Bank.{Bank}
use Rattle.spec_rules.specs.declared.Write.{Write}
use Rattle.spec_rules.specs.declared.Channel.{Channel}
use Rattle.spec_rules.specs.Neighbour.{bank_count, Context, Neighbours, near}
use Rattle.spec_rules.specs.Packets.{on_pins, traits, instant, is_packet}
use Rattle.spec_rules.specs.History.{Event, bank_after, is_closed, is_open, left, leaving, waiting_after, bank_of, only, any_write, retire_implies, bank_retired, closes_bank, is_implied, Deed, deeds, events, keeps, over, has}
use Rattle.spec_rules.specs.Distances.{Kind, packet, ROW, COL, ACT, only_act, PRER, RD, WR, retire, implied, bank_as, Banks, any, same, same_or_neighbour, others, same_neighbour_or_closed, within, Distance, distances, asked, each, of_rule}
use Rattle.spec_rules.specs.Rules.{free_for, open_for, longest_delay, implied_delay, stays, all_lose_none, fits_between, data_in_place, rule_of, rule1, rule4, rule9, rule12, rule14, rule15, rule16, rule17, rules}
use Rattle.spec_rules.specs.Channel.{in_bank, track_of, state_of, waiting_of, due_of, leaving_of}
use Rattle.spec_rules.specs.Checks.{bound_of, last_on, last_at, bound_banks, bound_by, bound, check_of, then_state, checks}
use Rattle.spec_rules.proofs.Bools.{all-ext}
use Rattle.spec_rules.proofs.HistoryLaws.{last_of, Within, all_map, last-ext, any-law, bank-law}
use Rattle.spec_rules.proofs.PrechargeLaws.{Reaching, seven-law}
use Rattle.spec_rules.proofs.TrackLaws.{Fine, Tracks}

-- ---- tests on banks go by the states alone

infixr 20 ◌▸◌
◌▸◌ : {A B : Type 0} → A → B → A × B
a ▸ b = (a, b)

module _ (f g : ℕ → Bank) (same : (x : ℕ) → f x ≡ g x) where
  free-same : (cx : Context) (o : Option ℕ) → free_for cx f o ≡ free_for cx g o
  free-same cx None = refl
  free-same cx (Some b) = all-ext _ _ bank_count (λ x m. ap (λ (y : Bank). not (near cx b x) || is_closed y) (same x))

  open-same : (o : Option ℕ) → open_for f o ≡ open_for g o
  open-same None = refl
  open-same (Some b) = ap is_open (same b)

  loses-same : (cx : Context) (ws : List Write) (o : Option ℕ) → any_write (λ w. closes_bank cx f o w.bank) ws ≡ any_write (λ w. closes_bank cx g o w.bank) ws
  loses-same cx [] o = refl
  loses-same cx (w ∷ ws) o = rw (same w.bank, loses-same cx ws o)

module _ (cx : Context) (ns : Neighbours cx) (ch : Channel) (es : List Record) (k : Tracks cx ch es) (r : Record) where
  abbrev h : List Event
  h = events cx es

  -- ---- the last instants that the state keeps: of the whole channel, of each bank; and of the banks that a PRER closed

  abbrev OnChannel : Kind → Type 0
  OnChannel a = last_on ch a ≡ last_of (λ e. has (bank_as a e.traits)) h

  abbrev AtBank : Kind → Type 0
  AtBank a =
      ((x : ℕ) → x < bank_count → last_at (track_of ch x) a ≡ last_of (λ e. in_bank (bank_as a e.traits) x) h) × ((e : Event) → Fine cx e → Within bank_count (bank_as a e.traits))

  abbrev Tracked : Banks → Kind → Type 0
  Tracked any a = OnChannel a
  Tracked same a = AtBank a
  Tracked same_or_neighbour a = AtBank a
  Tracked others a = AtBank a
  Tracked same_neighbour_or_closed a = a ≡ PRER

  abbrev AllTracked : List Distance → Type 0
  AllTracked [] = Unit {0}
  AllTracked (d ∷ l) = Tracked d.banks d.earlier × AllTracked l

  on-pins : (q : Event → Bool) (l : ℕ) → l ≡ last_of q h → l ≡ last_of (λ e. has (only (q e) (Some 0))) h
  on-pins q l e = e ∙ last-ext _ _ h (λ e. only-some (q e))
    where
      only-some : (b : Bool) → b ≡ has (only b (Some 0))
      only-some true = refl
      only-some false = refl

  packets : OnChannel packet
  packets = on-pins (λ e. on_pins e.traits) ch.lasts.packet.0 k.lasts.last

  rows : OnChannel ROW
  rows = on-pins (λ e. e.traits.row) ch.lasts.row.0 k.lasts.row

  cols : OnChannel COL
  cols = on-pins (λ e. e.traits.col) ch.lasts.col.0 k.lasts.col

  implieds : OnChannel implied
  implieds = on-pins (λ e. is_implied e.traits) ch.lasts.implied.0 k.lasts.implied

  opened : AtBank ACT
  opened = (k.lasts.opened, λ e f. f.opens_in)

  acts : AtBank only_act
  acts = (k.lasts.acts, λ e f. f.acts-in)

  reads : AtBank RD
  reads = (k.lasts.rds, λ e f. f.reads-in)

  retires : AtBank retire
  retires = (k.lasts.retires, λ e f. f.retired-in)

  -- what each line of the table asks for, in its order
  tracked : AllTracked (distances cx.settings)
  unfolding distances
  tracked = packets ▸ rows ▸ cols ▸ opened ▸ opened ▸ opened ▸ refl ▸ k.lasts.pre ▸ acts ▸ acts ▸ acts ▸ k.lasts.rd ▸ reads ▸ retires ▸ implieds ▸ tt

  -- ---- a line of the table, by its banks

  by-banks : (counts : ℕ → ℕ → Bool) (a : Kind) → AtBank a → (o : Option ℕ) (gap t : ℕ)
      → keeps (λ e. over o (λ b. over (bank_as a e.traits) (λ p. only (counts b p) (Some gap)))) t h
      ≡ leb (bound_of o (bound_banks cx ch counts a gap)) t
  by-banks counts a u o gap t =
      bank-law bank_count o (λ e. bank_as a e.traits) (λ b x. only (counts b x) (Some gap)) (λ x. last_at (track_of ch x) a) t h k.lasts.sorted
      (all_map (Fine cx) _ u.1 h k.lasts.fine) u.0

  by-line : (c : Banks) (a : Kind) → Tracked c a → (o : Option ℕ) (gap t : ℕ)
      → keeps (λ e. over o (λ b. over (bank_as a e.traits) (λ p. only (within cx c e b p) (Some gap)))) t h
      ≡ leb (bound_of o (bound_by cx ch c a gap)) t
  by-line any a u o gap t = any-law o (λ e. bank_as a e.traits) gap (last_on ch a) t h k.lasts.sorted u
  by-line same a u o gap t = by-banks (λ b x. eqb x b) a u o gap t
  by-line same_or_neighbour a u o gap t = by-banks (near cx) a u o gap t
  by-line others a u o gap t = by-banks (λ b x. not (near cx b x)) a u o gap t
  by-line same_neighbour_or_closed a u o gap t =
      rw u
      (seven-law cx ns o gap (λ x. (track_of ch x).pre.0) t h k.lasts.sorted (all_map (Fine cx) (Reaching cx) (λ e f. f.reaching) h k.lasts.fine)
      k.lasts.pres)

  -- ---- the table

  each-deed : (d : Distance) → Tracked d.banks d.earlier → (l : List Deed)
      → each (λ x. keeps (asked cx d x.traits) x.at h) l ≡ each (λ x. leb (bound cx ch d x.traits) x.at) l
  each-deed d u [] = refl
  each-deed d u (x ∷ l) = ap₂ ◌&&◌ (by-line d.banks d.earlier u (bank_as d.later x.traits) d.cycles x.at) (each-deed d u l)

  each_line : (n : ℕ) (l : List Deed) (ds : List Distance) → AllTracked ds
      → of_rule n (λ d. each (λ x. keeps (asked cx d x.traits) x.at h) l) ds
      ≡ of_rule n (λ d. each (λ x. leb (bound cx ch d x.traits) x.at) l) ds
  each_line n l [] u = refl
  each_line n l (d ∷ ds) u = rw (each-deed d u.0 l, each_line n l ds u.1)

  is-table : (n : ℕ) → rule_of cx es r n ≡ check_of cx ch r n
  unfolding rule_of check_of
  is-table n = rw k.waiting (each_line n (deeds cx (waiting_after cx es) r) (distances cx.settings) tracked)

  -- ---- the other rules

  is1 : rule1 cx es r ≡ (is_instant (instant r) && (leb (instant r + longest_delay cx r) horizon && leb (instant r + implied_delay cx (leaving_of cx ch r)) horizon)) && check_of cx ch r 1
  unfolding rule1
  is1 = rw (k.waiting, is-table 1)

  is4 : rule4 cx es r ≡ free_for cx (state_of ch) (traits r).opens
  unfolding rule4
  is4 = sym (free-same (state_of ch) (bank_after cx es) k.state cx (traits r).opens)

  is9 : rule9 cx es r
      ≡ open_for (then_state cx ch r) (traits r).reads && (open_for (then_state cx ch r) (traits r).writes && open_for (state_of ch) (bank_of (leaving_of cx ch r)))
  unfolding rule9
  is9 =
      let ws : List Write = waiting_after cx es in
      let then : ℕ → Bank = λ x. bank_retired cx ws r x (bank_after cx es x) in
      let mid : ℕ → Bank = λ x. bank_retired cx ws r x (state_of ch x) in
      let same : (o : Option ℕ) → open_for (bank_after cx es) o ≡ open_for (state_of ch) o = λ o. sym (open-same (state_of ch) (bank_after cx es) k.state o) in
      let later : (o : Option ℕ) → open_for then o ≡ open_for mid o = λ o. sym (open-same mid then (λ x. ap (bank_retired cx ws r x) (k.state x)) o) in
      ap₂ ◌&&◌ (later (traits r).reads) (ap₂ ◌&&◌ (later (traits r).writes) (same (bank_of (leaving cx ws r))))
      ∙ ap (λ (ws : List Write). open_for (λ x. bank_retired cx ws r x (state_of ch x)) (traits r).reads && (open_for (λ x. bank_retired cx ws r x (state_of ch x)) (traits r).writes && open_for (state_of ch) (bank_of (leaving cx ws r)))) (sym k.waiting)

  is12 : rule12 cx es r ≡ has (bank_of (leaving_of cx ch r)) || stays (waiting_of ch.buffer) (traits r)
  unfolding rule12
  is12 = rw k.waiting

  is14 : rule14 cx es r ≡ all_lose_none cx (state_of ch) (waiting_of ch.buffer) r
  unfolding rule14
  is14 =
      let ws : List Write = waiting_after cx es in
      let o : Option Write = leaving cx ws r in
      let same : (x : ℕ) → state_of ch x ≡ bank_after cx es x = k.state in
      let later : (x : ℕ) → bank_retired cx ws r x (state_of ch x) ≡ bank_retired cx ws r x (bank_after cx es x) = λ x. ap (bank_retired cx ws r x) (k.state x) in
      rw (
        k.waiting,
        loses-same (state_of ch) (bank_after cx es) same cx ws (traits r).precharges,
        loses-same (state_of ch) (bank_after cx es) same cx (left o ws) (retire_implies o),
        loses-same (λ x. bank_retired cx ws r x (state_of ch x)) (λ x. bank_retired cx ws r x (bank_after cx es x)) later cx (left o ws) (traits r).implies,
      )

  is15 : rule15 cx es r ≡ data_in_place (due_of cx ch) r
  unfolding rule15
  is15 = rw k.due

  is16 : rule16 cx es r ≡ not (traits r).masked || has (bank_of (leaving_of cx ch r))
  unfolding rule16
  is16 = rw k.waiting

  is17 : rule17 cx es r ≡ fits_between cx (waiting_of ch.buffer) r && check_of cx ch r 17
  unfolding rule17
  is17 = rw (k.waiting, is-table 17)

  pub rules-are-checks : rules cx es r ≡ checks cx ch r
  unfolding rules checks
  rules-are-checks =
      rw (is1, is-table 2, is-table 3, is4, is-table 5, is-table 6, is-table 7, is-table 8, is9, is-table 10, is-table 11, is12, is-table 13, is14, is15, is16, is17)
