-- A record breaks no rule exactly where the state allows it, its instant is not before the largest of the bounds, and its data
-- come in range: so that bound is the least instant that the rules allow.
-- Assumes nothing.
use Rattle.std.specs.Prelude.{Option, None, Some}
use Prim.Native.Nat.{ℕ, suc, ◌+◌, ◌-◌, ◌≤◌, ◌<◌, max}
use mathlib.Core.Path.{◌≡◌, refl, sym, ap, ap₂, ◌∙◌}
use mathlib.Core.Bool.{Bool, true, false, not, ◌&&◌, ◌||◌, cond, and-true, and-false, and_assoc, and_comm, or-true, or-false}
use mathlib.Core.List.{List, [], ◌∷◌}
use lib.Dec.{eqb, leb, leb-zero}
use borrow.Author.Tests.{leb-true, leb-false, le-leb, lt-leb, eqb-true, eq-eqb, ne_eqb}
use native.Mathlib.Omega.{arith}
use Rattle.settings.specs.declared.DataAt.{DataAt}
use Rattle.record.specs.declared.Dualoct.{Dualoct}
use Rattle.settings.specs.Instants.{horizon, is_instant}
use Rattle.packet.specs.declared.ColPacket.TheVariants.{Nocop, Wr, Rd}
use Rattle.record.specs.declared.Record.{Record}
use Rattle.record.specs.declared.Record.TheVariants.{RowAt, ColAt, DataOf}
use Rattle.spec_rules.specs.declared.Bank.{Bank}
use Rattle.spec_rules.specs.declared.Bank.TheVariants.{Closed}
use Rattle.spec_rules.specs.declared.Write.{Write}
use Rattle.spec_rules.specs.declared.Channel.{Channel}
use Rattle.spec_rules.specs.Neighbour.{bank_count, Context, Neighbours, near}
use Rattle.spec_rules.specs.Packets.{traits, row_traits, col_traits, retire_traits, instant, is_packet}
use Rattle.spec_rules.specs.History.{is_open, first, rest, only_write, passed, leaving, left, bank_of, any_write, retire_implies, closed_by, Deed, retire_deeds, implied_deeds, deeds, has}
use Rattle.spec_rules.specs.Distances.{distances, each}
use Rattle.spec_rules.specs.Rules.{free_for, open_for, longest_delay, implied_delay, stays, loses_none, data_in_place}
use Rattle.spec_rules.specs.Broken.{lowest, lowest_rule}
use Rattle.spec_rules.specs.Channel.{state_of, waiting_of, due_of, bank_next, leaving_of}
use Rattle.spec_rules.specs.Checks.{bound, bounds, check_of, checks, judged}
use Rattle.spec_rules.specs.Earliest.{placed_at, under, fits, earliest, bound_implied, still_left, may_stay, state_left, retire_fits, retire_least, leaves_right, slot_from, least_from}
use Rattle.spec_rules.proofs.Bools.{not-both, and_left, and_right, leb-max}
use Rattle.spec_rules.proofs.TableLaws.{by_distance, rules-lines, all_listed, each-swap, each-ext, leb-max_line}
use Rattle.spec_rules.proofs.TrackLaws.{Tracks, row_keeps, keeps-all}
use Rattle.spec_rules.proofs.CheckerRight.{row_plain, judged-right}

-- all tests pass
abbrev pub every : List Bool → Bool
every [] = true
every (b ∷ l) = b && every l

pub lowest-every : (n : ℕ) (l : List Bool) → eqb (lowest (suc n) l) 0 ≡ every l
unfolding lowest
lowest-every n [] = refl
lowest-every n (true ∷ l) = lowest-every (suc n) l
lowest-every n (false ∷ l) = ne_eqb (suc n) 0 (λ q. omega arith)

and-left-comm : (a b c : Bool) → a && (b && c) ≡ b && (a && c)
and-left-comm true true c = refl
and-left-comm true false c = refl
and-left-comm false true c = refl
and-left-comm false false c = refl

-- the tests of all rules: those of the table together, the others by what they ask
shuffle : (i d e c1 c2 c3 r4 c5 c6 c7 c8 x y l9 c10 c11 r12 c13 n14 c14 s14 r15 r16 f17 c17 : Bool)
    → (((i && (d && e)) && c1) && (c2 && (c3 && (r4 && (c5 && (c6 && (c7 && (c8 && ((x && (y && l9)) && (c10 && (c11 && (r12 && (c13 && ((n14 && (c14 && s14)) && (r15 && (r16 && ((f17 && c17) && true)))))))))))))))))
    ≡ ((r4 && ((x && y) && (n14 && (s14 && r15)))) && ((c1 && (c2 && (c3 && (c5 && (c6 && (c7 && (c8 && (c10 && (c11 && (c13 && (c17 && true))))))))))) && (i && (d && (e && (l9 && (r12 && (r16 && (f17 && c14)))))))))
shuffle i d e c1 c2 c3 r4 c5 c6 c7 c8 x y l9 c10 c11 r12 c13 n14 c14 s14 r15 r16 f17 c17 = simp (and-true, and_assoc, and_comm, and-left-comm)

by_parts : (f sh a c b i d e l9 z : Bool) → f && ((sh && (a && (c && b))) && (i && (d && (e && (l9 && z))))) ≡ f && ((i && (a && sh)) && (d && (e && (l9 && (b && (c && z))))))
by_parts f sh a c b i d e l9 z = simp (and_assoc, and_comm, and-left-comm)

shuffle_left : (r4 xs x ys y n14 r15 z d e l9 l10 cc6 f17 c14 : Bool)
    → ((r4 && (((xs && x) && (ys && y)) && (n14 && (true && r15)))) && (z && (d && (e && (l9 && (l10 && (cc6 && (true && (true && (f17 && c14))))))))))
    ≡ ((r4 && ((xs && ys) && (n14 && (true && r15)))) && (z && (d && ((l9 && ((x && y) && (c14 && f17))) && ((l10 && cc6) && e)))))
shuffle_left r4 xs x ys y n14 r15 z d e l9 l10 cc6 f17 c14 = simp (and_assoc, and_comm, and-left-comm)

-- a packet whose data are in range is in range itself
in-range : (t delay : ℕ) → is_instant t && leb (t + delay) horizon ≡ leb 4 t && leb (t + delay) horizon
in-range t delay = go (leb (t + delay) horizon) refl
  where
    go : (b : Bool) → leb (t + delay) horizon ≡ b → is_instant t && b ≡ leb 4 t && b
    go true e = let h : leb t horizon ≡ true = omega (arith, leb-true, le-leb) in rw h (and-true (leb 4 t && true))
    go false e = simp and-false

-- the place of a D is no place for a packet, whichever it is
due-packets : (o : Option ℕ) (r q : Record) → is_packet r ≡ true → is_packet q ≡ true → data_in_place o r ≡ data_in_place o q
due-packets None r q e f = e ∙ sym f
due-packets (Some t) r q e f = rw (e, f)

pub placed-instant : (t : ℕ) (r : Record) → instant (placed_at t r) ≡ t
unfolding placed_at instant
placed-instant t (RowAt u p) = refl
placed-instant t (ColAt u p) = refl
placed-instant t (DataOf u d) = refl

-- ---- the instant that is picked: of a packet that can retire (n), may leave the writes (st); t0 is the least but for the retire, due
-- the first at which the packet retires, b10 what else the rules ask of the retire, far whether the PRER that it implies is in range

abbrev pick : Bool → Bool → ℕ → ℕ → ℕ → ℕ
pick n st t0 due b10 = cond (n && (not st || leb due t0)) (max t0 (max due b10)) t0

abbrev test : Bool → Bool → Bool → Bool → ℕ → ℕ → (ℕ → Bool) → ℕ → Bool
test n st opn m due b10 far t = cond (n && leb due t) (opn && (leb b10 t && far t)) (st && not m)

picked-passes : (n st opn m : Bool) (t0 due b10 : ℕ) (far : ℕ → Bool) → st || n ≡ true → opn ≡ true
    → (n && leb due (pick n st t0 due b10) ≡ false → m ≡ false) → (n && leb due (pick n st t0 due b10) ≡ true → far (pick n st t0 due b10) ≡ true)
    → test n st opn m due b10 far (pick n st t0 due b10) ≡ true
picked-passes false true opn m t0 due b10 far a o p g = rw (p refl)
picked-passes false false opn m t0 due b10 far a o p g = not-both true refl (sym a)
picked-passes true false opn m t0 due b10 far a o p g =
    let e : leb due (max t0 (max due b10)) ≡ true = le-leb due (max t0 (max due b10)) (omega arith) in
    rw (e, o, le-leb b10 (max t0 (max due b10)) (omega arith)) (g e)
picked-passes true true opn m t0 due b10 far a o p g = go (leb due t0) refl p g
  where
    go : (c : Bool) → leb due t0 ≡ c → (leb due (cond c (max t0 (max due b10)) t0) ≡ false → m ≡ false) → (leb due (cond c (max t0 (max due b10)) t0) ≡ true → far (cond c (max t0 (max due b10)) t0) ≡ true)
        → test true true opn m due b10 far (cond c (max t0 (max due b10)) t0) ≡ true
    go true e q g =
        let e : leb due (max t0 (max due b10)) ≡ true = le-leb due (max t0 (max due b10)) (omega arith) in
        rw (e, o, le-leb b10 (max t0 (max due b10)) (omega arith)) (g e)
    go false e q g = rw (e, q e)

picked-least : (n st opn m : Bool) (t0 due b10 : ℕ) (far : ℕ → Bool) (t : ℕ) → t0 ≤ t → test n st opn m due b10 far t ≡ true → pick n st t0 due b10 ≤ t
picked-least false st opn m t0 due b10 far t l h = l
picked-least true st opn m t0 due b10 far t l h = go (leb due t) refl (leb due t0) refl st h
  where
    go : (c : Bool) → leb due t ≡ c → (d : Bool) → leb due t0 ≡ d → (st : Bool) → cond c (opn && (leb b10 t && far t)) (st && not m) ≡ true
        → cond (not st || d) (max t0 (max due b10)) t0 ≤ t
    go true ec d ed st h =
        let b : b10 ≤ t = leb-true b10 t (and_left (leb b10 t) _ (and_right opn _ h)) in
        let u : due ≤ t = leb-true due t ec in
        both (not st || d) (omega arith)
      where
        both : (c : Bool) → max t0 (max due b10) ≤ t → cond c (max t0 (max due b10)) t0 ≤ t
        both true m = m
        both false m = l
    go false ec true ed st h = absurd (let u : due ≤ t0 = leb-true due t0 ed in let v : t < due = leb-false due t ec in omega arith)
    go false ec false ed true h = l
    go false ec false ed false h = not-both true refl (sym h)

leb-minus : (a o t : ℕ) → leb (a - o) t ≡ leb a (t + o)
leb-minus a o t = go (leb a (t + o)) refl
  where
    go : (b : Bool) → leb a (t + o) ≡ b → leb (a - o) t ≡ b
    go true e = le-leb (a - o) t (let m : a ≤ t + o = leb-true a (t + o) e in omega arith)
    go false e = lt-leb (a - o) t (let m : t + o < a = leb-false a (t + o) e in omega arith)

none-some : (w : Write) → None ≡ Some w → ⊥
none-some w e = let z : ◌≡◌ {A = ℕ} 0 1 = cc in omega arith

in-range-far : (t delay : ℕ) (e : Bool) → is_instant t && (leb (t + delay) horizon && e) ≡ leb 4 t && (leb (t + delay) horizon && e)
in-range-far t delay e = sym (and_assoc (is_instant t) (leb (t + delay) horizon) e) ∙ rw (in-range t delay) (and_assoc (leb 4 t) (leb (t + delay) horizon) e)

module _ (cx : Context) (ch : Channel) where
  -- a PRER of no bank loses no write
  loses-nothing : (st : ℕ → Bank) (o : Option ℕ) → o ≡ None → (ws : List Write) → loses_none cx st o ws ≡ true
  loses-nothing st o e ws = rw e (go ws)
    where
      go : (ws : List Write) → not (any_write (λ w. false) ws) ≡ true
      go [] = refl
      go (w ∷ ws) = go ws

  -- a bank that is open once a write has left was open before
  open-left : (o : Option Write) (q : Option ℕ) → open_for (λ x. closed_by cx (retire_implies o) x (state_of ch x)) q ≡ open_for (state_of ch) q && open_for (λ x. closed_by cx (retire_implies o) x (state_of ch x)) q
  unfolding is_open
  open-left o None = refl
  open-left o (Some b) = go (retire_implies o)
    where
      pick-one : (c : Bool) (x : Bank) → is_open (cond c Closed x) ≡ is_open x && is_open (cond c Closed x)
      pick-one true x = sym (and-false (is_open x))
      pick-one false x = same (is_open x)
        where
          same : (c : Bool) → c ≡ c && c
          same true = refl
          same false = refl

      go : (c : Option ℕ) → is_open (closed_by cx c b (state_of ch b)) ≡ is_open (state_of ch b) && is_open (closed_by cx c b (state_of ch b))
      go None = same (is_open (state_of ch b))
        where
          same : (c : Bool) → c ≡ c && c
          same true = refl
          same false = refl
      go (Some p) = pick-one (near cx p b) (state_of ch b)

  -- a packet that retires is no RDA
  leaves-plain : (ws : List Write) (r : Record) (w : Write) → leaving cx ws r ≡ Some w → (traits r).implies ≡ None
  unfolding traits row_traits col_traits
  leaves-plain ws (RowAt t p) w e = absurd (none-some w (sym (keeps-all cx (RowAt t p) ws (row_keeps t p)) ∙ e))
  leaves-plain ws (ColAt t (Nocop m)) w e = refl
  leaves-plain ws (ColAt t (Wr b c m x)) w e = refl
  leaves-plain ws (ColAt t (Rd b c m x)) w e = absurd (none-some w (sym (keeps-all cx (ColAt t (Rd b c m x)) ws refl) ∙ e))
  leaves-plain ws (DataOf t d) w e = refl

  -- the tests, where this write leaves
  abbrev checks_by : Record → Option Write → List Bool
  checks_by r o =
      let t : ℕ = instant r in
      let ws : List Write = waiting_of ch.buffer in
      let then : ℕ → Bank = λ x. closed_by cx (retire_implies o) x (state_of ch x) in
      let c : ℕ → Bool = check_of cx ch r in
      ((is_instant t && (leb (t + longest_delay cx r) horizon && leb (t + implied_delay cx o) horizon)) && c 1)
      ∷ c 2
      ∷ c 3
      ∷ free_for cx (state_of ch) (traits r).opens
      ∷ c 5
      ∷ c 6
      ∷ c 7
      ∷ c 8
      ∷ (open_for then (traits r).reads && (open_for then (traits r).writes && open_for (state_of ch) (bank_of o)))
      ∷ c 10
      ∷ c 11
      ∷ (has (bank_of o) || stays ws (traits r))
      ∷ c 13
      ∷ (loses_none cx (state_of ch) (traits r).precharges ws && (loses_none cx (state_of ch) (retire_implies o) (left o ws) && loses_none cx then (traits r).implies (left o ws)))
      ∷ data_in_place (due_of cx ch) r
      ∷ (not (traits r).masked || has (bank_of o))
      ∷ (still_left cx ch r (left o ws) && c 17)
      ∷ []

  -- what the table asks of the deeds of a record
  abbrev spaced : Deed → Bool
  spaced x = leb (bounds cx ch x.traits) x.at

  abbrev retire_bounds : Option Write → ℕ
  retire_bounds None = 0
  retire_bounds (Some w) = bounds cx ch (retire_traits w.bank)

  each-implied : (r : Record) (u : ℕ) (o : Option ℕ) (l : List Deed) → each spaced (implied_deeds u o l) ≡ leb (bound_implied cx ch r o) u && each spaced l
  each-implied r u None l = rw (leb-zero u)
  each-implied r u (Some b) l = refl

  data-keeps : (t : DataAt) (d : Dualoct) → (traits (DataOf t d)).not_read ≡ false
  unfolding traits
  data-keeps t d = refl

  data-plain : (t : DataAt) (d : Dualoct) → (traits (DataOf t d)).implies ≡ None
  unfolding traits
  data-plain t d = refl

  data-asks : (t : DataAt) (d : Dualoct) → bounds cx ch (traits (DataOf t d)) ≡ 0
  unfolding bounds traits distances
  data-asks t d = refl

  by-deeds : (r : Record) →
      let t : ℕ = instant r in
      let u : ℕ = instant r + cx.settings.offp in
      let o : Option Write = leaving_of cx ch r in
      each spaced (deeds cx (waiting_of ch.buffer) r)
      ≡ leb (bound_implied cx ch r (traits r).implies) u && (leb (bounds cx ch (traits r)) t && (leb (bound_implied cx ch r (retire_implies o)) u && leb (retire_bounds o) t))
  unfolding deeds instant
  by-deeds (RowAt t p) =
      rw (row_plain cx ch t p, keeps-all cx (RowAt t p) (waiting_of ch.buffer) (row_keeps t p), leb-zero t.0, leb-zero (t.0 + cx.settings.offp))
  by-deeds (ColAt t p) =
      let r : Record = ColAt t p in
      let u : ℕ = t.0 + cx.settings.offp in
      let o : Option Write = leaving_of cx ch r in
      each-implied r u (traits r).implies (record { at = t.0; traits = traits r } ∷ implied_deeds u (retire_implies o) (retire_deeds t.0 o))
      ∙ ap (λ (b : Bool). leb (bound_implied cx ch r (traits r).implies) u && (leb (bounds cx ch (traits r)) t.0 && b))
      (each-implied r u (retire_implies o) (retire_deeds t.0 o) ∙ ap (λ (b : Bool). leb (bound_implied cx ch r (retire_implies o)) u && b) (go o))
    where
      go : (o : Option Write) → each spaced (retire_deeds t.0 o) ≡ leb (retire_bounds o) t.0
      go None = sym (leb-zero t.0)
      go (Some w) = and-true _
  by-deeds (DataOf t d) =
      rw (data-asks t d, data-plain t d, keeps-all cx (DataOf t d) (waiting_of ch.buffer) (data-keeps t d), leb-zero t.0, leb-zero (t.0 + cx.settings.offp))

  by-table : (r : Record) → each (check_of cx ch r) by_distance ≡ each spaced (deeds cx (waiting_of ch.buffer) r)
  unfolding check_of bounds
  by-table r =
      let ds : List Deed = deeds cx (waiting_of ch.buffer) r in
      rules-lines by_distance (λ d. each (λ x. leb (bound cx ch d x.traits) x.at) ds) (distances cx.settings) (all_listed cx.settings)
      ∙ each-swap (λ d x. leb (bound cx ch d x.traits) x.at) (distances cx.settings) ds
      ∙ each-ext _ _ ds (λ x. sym (leb-max_line (λ d. bound cx ch d x.traits) (distances cx.settings) x.at))

  -- the bounds of a packet that retires nothing, as one test
  by-earliest : (r : Record) (t : ℕ) → leb (earliest cx ch r) t
      ≡ leb 4 t && (leb (bounds cx ch (traits r)) t && leb (bound_implied cx ch r (traits r).implies) (t + cx.settings.offp))
  unfolding earliest
  by-earliest r t = simp (leb-max, leb-minus)

  own-far : (t a : ℕ) → leb (t + a) horizon && leb (t + 0) horizon ≡ leb (t + a) horizon
  own-far t a = go (leb (t + a) horizon) refl
    where
      go : (b : Bool) → leb (t + a) horizon ≡ b → b && leb (t + 0) horizon ≡ b
      go true e = le-leb (t + 0) horizon (let m : t + a ≤ horizon = leb-true (t + a) horizon e in omega arith)
      go false e = refl

  module _ (r : Record) where
    abbrev t : ℕ
    t = instant r

    abbrev u : ℕ
    u = instant r + cx.settings.offp

    abbrev ws : List Write
    ws = waiting_of ch.buffer

    abbrev then : Option Write → ℕ → Bank
    then o x = closed_by cx (retire_implies o) x (state_of ch x)

    -- what the table asks of a PRER of this bank at the instant that it is implied at
    abbrev pre_at : Option ℕ → Bool
    pre_at o = leb (bound_implied cx ch r o) u

    abbrev tail : Option Write → Bool
    tail o =
        open_for (state_of ch) (bank_of o)
        && (leb (retire_bounds o) t
        && (pre_at (retire_implies o) && ((has (bank_of o) || stays ws (traits r)) && ((not (traits r).masked || has (bank_of o)) && (still_left cx ch r (left o ws) && loses_none cx (state_of ch) (retire_implies o) (left o ws))))))

    abbrev head : Bool → Bool → Bool → Bool
    head x y lost =
        free_for cx (state_of ch) (traits r).opens && ((x && y) && (loses_none cx (state_of ch) (traits r).precharges ws && (lost && data_in_place (due_of cx ch) r)))

    shuffled : (o : Option Write) → leaving cx ws r ≡ o
        → every (checks_by r o)
        ≡ head (open_for (then o) (traits r).reads) (open_for (then o) (traits r).writes) (loses_none cx (then o) (traits r).implies (left o ws))
        && (leb (earliest cx ch r) t && (leb (t + longest_delay cx r) horizon && (leb (t + implied_delay cx o) horizon && tail o)))
    shuffled o h =
        let c : ℕ → Bool = check_of cx ch r in
        let d : Bool = leb (t + longest_delay cx r) horizon in
        let e : Bool = leb (t + implied_delay cx o) horizon in
        let f : Bool = head (open_for (then o) (traits r).reads) (open_for (then o) (traits r).writes) (loses_none cx (then o) (traits r).implies (left o ws)) in
        let l9 : Bool = open_for (state_of ch) (bank_of o) in
        let z : Bool = (has (bank_of o) || stays ws (traits r)) && ((not (traits r).masked || has (bank_of o)) && (still_left cx ch r (left o ws) && loses_none cx (state_of ch) (retire_implies o) (left o ws))) in
        let table : each c by_distance ≡ pre_at (traits r).implies && (leb (bounds cx ch (traits r)) t && (pre_at (retire_implies o) && leb (retire_bounds o) t)) =
        by-table r ∙ by-deeds r ∙ ap (λ (q : Option Write). pre_at (traits r).implies && (leb (bounds cx ch (traits r)) t && (pre_at (retire_implies q) && leb (retire_bounds q) t))) h in
        rw (in-range-far t (longest_delay cx r) (leb (t + implied_delay cx o) horizon), by-earliest r t)
        (shuffle (leb 4 t) d e (c 1) (c 2) (c 3) (free_for cx (state_of ch) (traits r).opens) (c 5) (c 6) (c 7) (c 8)
        (open_for (then o) (traits r).reads) (open_for (then o) (traits r).writes) l9 (c 10) (c 11) (has (bank_of o) || stays ws (traits r)) (c 13)
        (loses_none cx (state_of ch) (traits r).precharges ws) (loses_none cx (state_of ch) (retire_implies o) (left o ws)) (loses_none cx (then o) (traits r).implies (left o ws))
        (data_in_place (due_of cx ch) r) (not (traits r).masked || has (bank_of o)) (still_left cx ch r (left o ws)) (c 17)
        ∙ ap (λ (b : Bool). f && (b && (leb 4 t && (d && (e && (l9 && z)))))) table
        ∙ by_parts f (pre_at (traits r).implies) (leb (bounds cx ch (traits r)) t) (pre_at (retire_implies o)) (leb (retire_bounds o) t) (leb 4 t) d e l9 z)

    tail_none : leb (t + longest_delay cx r) horizon && (leb (t + 0) horizon && tail None) ≡ leb (t + longest_delay cx r) horizon && (may_stay cx ch r ws && not (traits r).masked)
    tail_none =
        rw (leb-zero t, leb-zero u, loses-nothing (state_of ch) None refl ws, or-false (not (traits r).masked))
        (join (leb (t + longest_delay cx r) horizon) (leb (t + 0) horizon) (stays ws (traits r)) (not (traits r).masked) (still_left cx ch r ws) (own-far t (longest_delay cx r)))
      where
        join : (d e a n f : Bool) → d && e ≡ d → d && (e && (a && (n && (f && true)))) ≡ d && ((a && f) && n)
        join true e a n f h = rw h (simp (and-true, and_assoc, and_comm, and-left-comm))
        join false e a n f h = refl

    by-pre : (w : Write) → leb (retire_least cx ch r w) t ≡ leb (retire_bounds (Some w)) t && pre_at (retire_implies (Some w))
    by-pre w = simp (leb-max, leb-minus)

    by-leaving : (o : Option Write) → leaving cx ws r ≡ o
        → every (checks_by r o) ≡ fits cx ch r && (leb (earliest cx ch r) t && (leb (t + longest_delay cx r) horizon && leaves_right cx ch r ws o t))
    unfolding fits
    by-leaving None h = shuffled None h ∙ ap (λ (z : Bool). fits cx ch r && (leb (earliest cx ch r) t && z)) tail_none
    by-leaving (Some w) h =
        let o : Option Write = Some w in
        let x : Bool = open_for (then o) (traits r).reads in
        let y : Bool = open_for (then o) (traits r).writes in
        let xs : Bool = open_for (state_of ch) (traits r).reads in
        let ys : Bool = open_for (state_of ch) (traits r).writes in
        let plain : (traits r).implies ≡ None = leaves-plain ws r w h in
        let z : Bool = leb (earliest cx ch r) t in
        let d : Bool = leb (t + longest_delay cx r) horizon in
        let e : Bool = leb (t + implied_delay cx o) horizon in
        let l10 : Bool = leb (retire_bounds o) t in
        let c14 : Bool = loses_none cx (state_of ch) (retire_implies o) (rest ws) in
        let f17 : Bool = still_left cx ch r (rest ws) in
        shuffled o h
        ∙ ap₂ (λ (a b : Bool). head a b (loses_none cx (then o) (traits r).implies (rest ws)) && (z && (d && (e && tail o)))) (open-left o (traits r).reads) (open-left o (traits r).writes)
        ∙ ap₂ (λ (l m : Bool). head (xs && x) (ys && y) l && (z && (d && (e && (open_for (state_of ch) (Some w.bank) && (l10 && (pre_at (retire_implies o) && (true && (m && (f17 && c14)))))))))) (loses-nothing (then o) (traits r).implies plain (rest ws)) (or-true (not (traits r).masked))
        ∙ shuffle_left (free_for cx (state_of ch) (traits r).opens) xs x ys y (loses_none cx (state_of ch) (traits r).precharges ws) (data_in_place (due_of cx ch) r) z d e (open_for (state_of ch) (Some w.bank)) l10 (pre_at (retire_implies o)) f17 c14
        ∙ ap₂ (λ (l m : Bool). head xs ys l && (z && (d && (retire_fits cx ch r w (rest ws) && (m && e))))) (sym (loses-nothing (state_of ch) (traits r).implies plain ws)) (sym (by-pre w))

  -- a record breaks no rule exactly where the state allows it, it comes no earlier than its bounds, and what leaves is right
  pub checks-split : (r : Record)
      → eqb (judged cx ch r) 0
      ≡ fits cx ch r && (leb (earliest cx ch r) (instant r) && (leb (instant r + longest_delay cx r) horizon && leaves_right cx ch r (waiting_of ch.buffer) (leaving_of cx ch r) (instant r)))
  unfolding judged checks
  checks-split r = lowest-every 0 (checks cx ch r) ∙ by-leaving r (leaving_of cx ch r) refl

  -- the bounds and the tests on the state go neither by the instant of a packet nor by its mask
  abbrev pub moved : ℕ → ℕ → Record → Record
  moved t m r = placed_at t (under m r)

  pub moved-instant : (t m : ℕ) (r : Record) → instant (moved t m r) ≡ t
  moved-instant t m r = placed-instant t (under m r)

  pub moved-earliest : (t m : ℕ) (r : Record) → earliest cx ch (moved t m r) ≡ earliest cx ch r
  unfolding placed_at under earliest bounds distances traits col_traits
  moved-earliest t m (RowAt u p) = refl
  moved-earliest t m (ColAt u (Nocop n)) = refl
  moved-earliest t m (ColAt u (Wr b c n x)) = refl
  moved-earliest t m (ColAt u (Rd b c n x)) = refl
  moved-earliest t m (DataOf u d) = refl

  pub moved-fits : (t m : ℕ) (r : Record) → is_packet r ≡ true → fits cx ch (moved t m r) ≡ fits cx ch r
  unfolding placed_at under fits traits col_traits is_packet
  moved-fits t m (RowAt u p) h = rw (due-packets (due_of cx ch) (RowAt (record { 0 = t }) p) (RowAt u p) refl refl)
  moved-fits t m (ColAt u (Nocop n)) h = rw (due-packets (due_of cx ch) (ColAt (record { 0 = t }) (Nocop m)) (ColAt u (Nocop n)) refl refl)
  moved-fits t m (ColAt u (Wr b c n x)) h = rw (due-packets (due_of cx ch) (ColAt (record { 0 = t }) (Wr b c m x)) (ColAt u (Wr b c n x)) refl refl)
  moved-fits t m (ColAt u (Rd b c n x)) h = rw (due-packets (due_of cx ch) (ColAt (record { 0 = t }) (Rd b c m x)) (ColAt u (Rd b c n x)) refl refl)
  moved-fits t m (DataOf u d) h = not-both false h refl

  pub moved-delay : (t m : ℕ) (r : Record) → longest_delay cx (moved t m r) ≡ longest_delay cx r
  unfolding placed_at under longest_delay
  moved-delay t m (RowAt u p) = refl
  moved-delay t m (ColAt u (Nocop n)) = refl
  moved-delay t m (ColAt u (Wr b c n x)) = refl
  moved-delay t m (ColAt u (Rd b c n x)) = refl
  moved-delay t m (DataOf u d) = refl

  pub moved-packet : (t m : ℕ) (r : Record) → is_packet (moved t m r) ≡ is_packet r
  unfolding placed_at under is_packet
  moved-packet t m (RowAt u p) = refl
  moved-packet t m (ColAt u p) = refl
  moved-packet t m (DataOf u d) = refl

  pub moved-not-read : (t m : ℕ) (r : Record) → (traits (moved t m r)).not_read ≡ (traits r).not_read
  unfolding placed_at under traits col_traits
  moved-not-read t m (RowAt u p) = refl
  moved-not-read t m (ColAt u (Nocop n)) = refl
  moved-not-read t m (ColAt u (Wr b c n x)) = refl
  moved-not-read t m (ColAt u (Rd b c n x)) = refl
  moved-not-read t m (DataOf u d) = refl

  pub moved-stays : (t m : ℕ) (ws : List Write) (r : Record) → stays ws (traits (moved t m r)) ≡ stays ws (traits r)
  unfolding placed_at under traits col_traits
  moved-stays t m ws (RowAt u p) = refl
  moved-stays t m [] (ColAt u (Nocop n)) = refl
  moved-stays t m (y ∷ []) (ColAt u (Nocop n)) = refl
  moved-stays t m (y ∷ z ∷ ws) (ColAt u (Nocop n)) = refl
  moved-stays t m [] (ColAt u (Wr b c n x)) = refl
  moved-stays t m (y ∷ []) (ColAt u (Wr b c n x)) = refl
  moved-stays t m (y ∷ z ∷ ws) (ColAt u (Wr b c n x)) = refl
  moved-stays t m [] (ColAt u (Rd b c n x)) = refl
  moved-stays t m (y ∷ []) (ColAt u (Rd b c n x)) = refl
  moved-stays t m (y ∷ z ∷ ws) (ColAt u (Rd b c n x)) = refl
  moved-stays t m ws (DataOf u d) = refl

  pub moved-writes : (t m : ℕ) (r : Record) → (traits (moved t m r)).writes ≡ (traits r).writes
  unfolding placed_at under traits col_traits
  moved-writes t m (RowAt u p) = refl
  moved-writes t m (ColAt u (Nocop n)) = refl
  moved-writes t m (ColAt u (Wr b c n x)) = refl
  moved-writes t m (ColAt u (Rd b c n x)) = refl
  moved-writes t m (DataOf u d) = refl

  moved-reads : (t m : ℕ) (r : Record) → (traits (moved t m r)).reads ≡ (traits r).reads
  unfolding placed_at under traits col_traits
  moved-reads t m (RowAt u p) = refl
  moved-reads t m (ColAt u (Nocop n)) = refl
  moved-reads t m (ColAt u (Wr b c n x)) = refl
  moved-reads t m (ColAt u (Rd b c n x)) = refl
  moved-reads t m (DataOf u d) = refl

  moved_row : (t m : ℕ) (r : Record) → (traits (moved t m r)).row ≡ (traits r).row
  unfolding placed_at under traits col_traits
  moved_row t m (RowAt u p) = refl
  moved_row t m (ColAt u (Nocop n)) = refl
  moved_row t m (ColAt u (Wr b c n x)) = refl
  moved_row t m (ColAt u (Rd b c n x)) = refl
  moved_row t m (DataOf u d) = refl

  moved-stay : (t m : ℕ) (r : Record) (ws : List Write) → may_stay cx ch (moved t m r) ws ≡ may_stay cx ch r ws
  moved-stay t m r ws = rw (moved-stays t m ws r, moved_row t m r, moved-writes t m r)

  pub moved-least : (t m : ℕ) (r : Record) (now : ℕ) → least_from cx ch (moved t m r) now ≡ least_from cx ch r now
  unfolding least_from
  moved-least t m r now = rw (moved-earliest t m r) (go (max now (earliest cx ch r)) (waiting_of ch.buffer))
    where
      go : (t0 : ℕ) (ws : List Write) → slot_from cx ch (moved t m r) t0 ws ≡ slot_from cx ch r t0 ws
      go t0 [] = refl
      go t0 (w ∷ ws) = rw (moved-stay t m r (w ∷ ws), moved-not-read t m r)

  pub moved-bank : (t m : ℕ) (r : Record) (x : ℕ) (b : Bank) → bank_next cx (moved t m r) x b ≡ bank_next cx r x b
  unfolding placed_at under bank_next
  moved-bank t m (RowAt u p) x b = refl
  moved-bank t m (ColAt u p) x b = refl
  moved-bank t m (DataOf u d) x b = refl

  -- what leaves at an instant, of these waiting writes
  abbrev pub leaves_of : List Write → ℕ → Record → Option Write
  leaves_of ws t r = only_write ((traits r).not_read && passed cx (first ws) t) (first ws)

  abbrev pub leaves_at : ℕ → Record → Option Write
  leaves_at t r = leaves_of (waiting_of ch.buffer) t r

  pub moved-leaving : (t m : ℕ) (r : Record) → leaving_of cx ch (moved t m r) ≡ leaves_at t r
  unfolding leaving
  moved-leaving t m r = rw (moved-not-read t m r, moved-instant t m r)

  -- rules 9, 10, 12 and 16 at instant t, under this mask
  abbrev pub leaves_under : ℕ → Record → List Write → Option Write → ℕ → Bool
  leaves_under m r ws None t = may_stay cx ch r ws && not (traits (under m r)).masked
  leaves_under m r ws (Some w) t = retire_fits cx ch r w (rest ws) && (leb (retire_least cx ch r w) t && leb (t + implied_delay cx (Some w)) horizon)

  placed-masked : (t : ℕ) (q : Record) → (traits (placed_at t q)).masked ≡ (traits q).masked
  unfolding placed_at traits
  placed-masked t (RowAt u p) = refl
  placed-masked t (ColAt u p) = refl
  placed-masked t (DataOf u d) = refl

  pub moved-right : (t m : ℕ) (r : Record) (o : Option Write) → leaves_right cx ch (moved t m r) (waiting_of ch.buffer) o t ≡ leaves_under m r (waiting_of ch.buffer) o t
  moved-right t m r None = rw (moved-stay t m r (waiting_of ch.buffer), placed-masked t (under m r))
  moved-right t m r (Some w) = rw (moved-reads t m r, moved-writes t m r, moved_row t m r)

  -- the instants at which a packet breaks no rule
  pub allowed_at : (t m : ℕ) (r : Record) → is_packet r ≡ true
      → eqb (judged cx ch (moved t m r)) 0
      ≡ fits cx ch r && (leb (earliest cx ch r) t && (leb (t + longest_delay cx r) horizon && leaves_under m r (waiting_of ch.buffer) (leaves_at t r) t))
  allowed_at t m r h =
      checks-split (moved t m r)
      ∙ rw (moved-instant t m r, moved-earliest t m r, moved-fits t m r h, moved-delay t m r, moved-leaving t m r, moved-right t m r (leaves_at t r))

  -- ---- the least instant

  -- a packet may leave the waiting writes, or can retire one
  abbrev pub able : List Write → Record → Bool
  able ws r = may_stay cx ch r ws || (traits r).not_read

  under-test : (m : ℕ) (r : Record) (w : Write) (ws : List Write) (t : ℕ)
      → leaves_under m r (w ∷ ws) (leaves_of (w ∷ ws) t r) t
      ≡ test (traits r).not_read (may_stay cx ch r (w ∷ ws)) (retire_fits cx ch r w ws) (traits (under m r)).masked (w.at.0 + cx.settings.rtr) (retire_least cx ch r w) (λ t. leb (t + implied_delay cx (Some w)) horizon) t
  under-test m r w ws t = go ((traits r).not_read && leb (w.at.0 + cx.settings.rtr) t)
    where
      go : (b : Bool) → leaves_under m r (w ∷ ws) (only_write b (Some w)) t
          ≡ cond b (retire_fits cx ch r w ws && (leb (retire_least cx ch r w) t && leb (t + implied_delay cx (Some w)) horizon)) (may_stay cx ch r (w ∷ ws) && not (traits (under m r)).masked)
      go true = refl
      go false = refl

  -- what a retire of the older write must pass but for instants
  abbrev pub leaver_fits : Record → List Write → Bool
  leaver_fits r [] = true
  leaver_fits r (w ∷ ws) = retire_fits cx ch r w ws

  -- the PRER that the retire implies is in range
  abbrev pub leaver_far : Option Write → ℕ → Bool
  leaver_far o t = leb (t + implied_delay cx o) horizon

  -- the instant that is picked breaks none of 9, 10, 12, 14, 16 and 17, with M = 0 where nothing leaves
  pub picked-right : (r : Record) (m t0 : ℕ) (ws : List Write) → able ws r ≡ true → leaver_fits r ws ≡ true
      → (leaves_of ws (slot_from cx ch r t0 ws) r ≡ None → (traits (under m r)).masked ≡ false)
      → leaver_far (leaves_of ws (slot_from cx ch r t0 ws) r) (slot_from cx ch r t0 ws) ≡ true
      → leaves_under m r ws (leaves_of ws (slot_from cx ch r t0 ws) r) (slot_from cx ch r t0 ws) ≡ true
  picked-right r m t0 [] a o p g = go ((traits r).not_read && false) p
    where
      go : (b : Bool) → (only_write b None ≡ None → (traits (under m r)).masked ≡ false) → leaves_under m r [] (only_write b None) t0 ≡ true
      go true p = rw (p refl)
      go false p = rw (p refl)
  picked-right r m t0 (w ∷ ws) a o p g =
      let t : ℕ = slot_from cx ch r t0 (w ∷ ws) in
      under-test m r w ws t
      ∙ picked-passes (traits r).not_read (may_stay cx ch r (w ∷ ws)) (retire_fits cx ch r w ws) (traits (under m r)).masked t0 (w.at.0 + cx.settings.rtr)
      (retire_least cx ch r w) (λ t. leb (t + implied_delay cx (Some w)) horizon) a o (λ e. p (ap (λ (b : Bool). only_write b (Some w)) e))
      (λ e. rw e at g)

  pub least-right : (r : Record) (m t0 : ℕ) (ws : List Write) (t : ℕ) → t0 ≤ t → leaves_under m r ws (leaves_of ws t r) t ≡ true → slot_from cx ch r t0 ws ≤ t
  least-right r m t0 [] t l h = l
  least-right r m t0 (w ∷ ws) t l h =
      picked-least (traits r).not_read (may_stay cx ch r (w ∷ ws)) (retire_fits cx ch r w ws) (traits (under m r)).masked t0 (w.at.0 + cx.settings.rtr)
      (retire_least cx ch r w) (λ t. leb (t + implied_delay cx (Some w)) horizon) t l (sym (under-test m r w ws t) ∙ h)

  pub picked-late : (r : Record) (t0 : ℕ) (ws : List Write) → t0 ≤ slot_from cx ch r t0 ws
  picked-late r t0 [] = omega arith
  picked-late r t0 (w ∷ ws) = go ((traits r).not_read && (not (may_stay cx ch r (w ∷ ws)) || leb (w.at.0 + cx.settings.rtr) t0)) (max (w.at.0 + cx.settings.rtr) (retire_least cx ch r w))
    where
      go : (b : Bool) (n : ℕ) → t0 ≤ cond b (max t0 n) t0
      go true n = omega arith
      go false n = omega arith

-- in terms of the rules: the picked instant is allowed, and no earlier instant from now on is, under any mask
module _ (cx : Context) (ns : Neighbours cx) (ch : Channel) (es : List Record) (k : Tracks cx ch es) (r : Record) (packet : is_packet r ≡ true) where
  abbrev at : ℕ → ℕ → Record
  at t m = moved cx ch t m r

  rule-at : (t m : ℕ) → eqb (lowest_rule cx es (at t m)) 0
      ≡ fits cx ch r && (leb (earliest cx ch r) t && (leb (t + longest_delay cx r) horizon && leaves_under cx ch m r (waiting_of ch.buffer) (leaves_at cx ch t r) t))
  rule-at t m = ap (λ (n : ℕ). eqb n 0) (sym (judged-right cx ns ch es k (at t m))) ∙ allowed_at cx ch t m r packet

  pub slot-legal : (now m : ℕ) → fits cx ch r ≡ true → able cx ch (waiting_of ch.buffer) r ≡ true → leaver_fits cx ch r (waiting_of ch.buffer) ≡ true →
      let t : ℕ = least_from cx ch r now in
      t + longest_delay cx r ≤ horizon → leaver_far cx ch (leaves_at cx ch t r) t ≡ true → (leaves_at cx ch t r ≡ None → (traits (under m r)).masked ≡ false) → lowest_rule cx es (at t m) ≡ 0
  unfolding least_from
  slot-legal now m f a o h g p =
      let ws : List Write = waiting_of ch.buffer in
      let t0 : ℕ = max now (earliest cx ch r) in
      let t : ℕ = slot_from cx ch r t0 ws in
      eqb-true _ _ (rule-at t m ∙ rw (f, le-leb (earliest cx ch r) t (omega (arith, picked-late cx ch r t0 ws)), le-leb (t + longest_delay cx r) horizon h) (picked-right cx ch r m t0 ws a o p g))

  pub slot-least : (now t m : ℕ) → lowest_rule cx es (at t m) ≡ 0 → now ≤ t → least_from cx ch r now ≤ t
  unfolding least_from
  slot-least now t m e l =
      let all = sym (rule-at t m) ∙ eq-eqb _ _ e in
      let rest = and_right (fits cx ch r) _ all in
      let late : earliest cx ch r ≤ t = leb-true _ _ (and_left (leb (earliest cx ch r) t) _ rest) in
      let leaves = and_right (leb (t + longest_delay cx r) horizon) _ (and_right (leb (earliest cx ch r) t) _ rest) in
      least-right cx ch r m (max now (earliest cx ch r)) (waiting_of ch.buffer) t (omega arith) leaves
