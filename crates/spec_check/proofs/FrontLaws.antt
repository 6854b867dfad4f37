-- A record in front of a list that opens no bank frees no later record of a rule: what is broken without it is broken with it, or
-- something before that.
-- Assumes nothing.
use Rattle.std.specs.Prelude.{Option, None, Some}
use Prim.Native.Nat.{ℕ, suc, ◌+◌, ◌<◌}
use mathlib.Core.Path.{◌≡◌, refl, sym, ap, ap₂, ◌∙◌, fun_ext}
use mathlib.Core.Bool.{Bool, true, false, not, ◌&&◌, ◌||◌, cond}
use mathlib.Core.List.{List, [], ◌∷◌, ◌++◌, reverse-cons}
use lib.Dec.{eqb, leb}
use lib.ListN.{length, take}
use native.Mathlib.Omega.{arith}
use borrow.Author.Tests.{eqb-true, eqb-false}
use Rattle.num.proofs.SearchLaws.{first-before, first-fails}
use Rattle.settings.specs.declared.PacketAt.{PacketAt}
use Rattle.settings.specs.declared.DataAt.{DataAt}
use Rattle.settings.specs.Instants.{horizon, is_instant}
use Rattle.packet.specs.declared.RowPacket.{RowPacket}
use Rattle.packet.specs.declared.RowPacket.TheVariants.{Act, Prer, Refa, Refp}
use Rattle.packet.specs.declared.ColPacket.{ColPacket}
use Rattle.packet.specs.declared.ColPacket.TheVariants.{Nocop, Wr, Rd}
use Rattle.record.specs.declared.Dualoct.{Dualoct}
use Rattle.record.specs.declared.Record.{Record}
use Rattle.record.specs.declared.Record.TheVariants.{RowAt, ColAt, DataOf}
use Rattle.spec_rules.specs.declared.Bank.{Bank}
use Rattle.spec_rules.specs.declared.Bank.TheVariants.{Closed}
use Rattle.spec_rules.specs.declared.Write.{Write}
use Rattle.spec_rules.specs.Neighbour.{Context, near}
use Rattle.spec_rules.specs.Packets.{row_traits, col_traits, traits, instant}
use Rattle.spec_rules.specs.History.{bank_by, closed_by, is_open, only_write, leaving, left, loads, waiting_next, waiting_after, bank_of, has, retire_implies, bank_retired, bank_after, Deed, deeds, Event, after_deeds, event_of, done, events, spaced, keeps}
use Rattle.spec_rules.specs.Distances.{distances, asked, each, holds}
use Rattle.spec_rules.specs.Rules.{free_for, open_for, longest_delay, due_after, implied_delay, rule_of, rule1, rule4, rule9, stays, rule12, all_lose_none, rule14, data_in_place, rule15, rule16, fits_between, rule17, rules}
use Rattle.spec_rules.specs.Broken.{earlier, record_in, lowest, lowest_rule, rule_at, first_broken}
use Rattle.spec_rules.proofs.Bools.{not-both, and_left, and_right}
use Rattle.spec_rules.proofs.BrokenLaws.{lowest-none}

-- ---- tests that follow from others

or-weaker : (a b c : Bool) → (b ≡ true → c ≡ true) → a || b ≡ true → a || c ≡ true
or-weaker true b c f h = refl
or-weaker false b c f h = f h

both : (a b : Bool) → a ≡ true → b ≡ true → a && b ≡ true
both a b h k = rw (h, k)

module _ {A : Type 0} where
  each-weaker : (p q : A → Bool) → ((x : A) → p x ≡ true → q x ≡ true) → (l : List A) → each p l ≡ true → each q l ≡ true
  each-weaker p q f [] h = refl
  each-weaker p q f (x ∷ l) h = both (q x) (each q l) (f x (and_left (p x) (each p l) h)) (each-weaker p q f l (and_right (p x) (each p l) h))

-- each test of the second list holds where that of the first does
abbrev Weaker : List Bool → List Bool → Type 0
Weaker l [] = Unit {0}
Weaker [] (b ∷ m) = ⊥
Weaker (a ∷ l) (b ∷ m) = (a ≡ true → b ≡ true) × Weaker l m

lowest-weaker : (n : ℕ) (l m : List Bool) → Weaker l m → lowest (suc n) l ≡ 0 → lowest (suc n) m ≡ 0
unfolding lowest
lowest-weaker n l [] w e = refl
lowest-weaker n [] (b ∷ m) w e = absurd w
lowest-weaker n (true ∷ l) (b ∷ m) w e = rw (w.0 refl) (lowest-weaker (suc n) l m w.1 e)
lowest-weaker n (false ∷ l) (b ∷ m) w e = absurd (omega arith)

-- ---- distances from fewer events

keeps_fewer : (gap : Event → Option ℕ) (t : ℕ) (h g : List Event) → keeps gap t (h ++ g) ≡ true → keeps gap t h ≡ true
unfolding keeps
keeps_fewer gap t [] g e = refl
keeps_fewer gap t (x ∷ h) g e =
    both (spaced (gap x) x.at t) (keeps gap t h) (and_left (spaced (gap x) x.at t) (keeps gap t (h ++ g)) e) (keeps_fewer gap t h g (and_right (spaced (gap x) x.at t) (keeps gap t (h ++ g)) e))

holds-fewer : (cx : Context) (n : ℕ) (h g : List Event) (l : List Deed) → holds cx (h ++ g) n l ≡ true → holds cx h n l ≡ true
holds-fewer cx n h g l =
    each-weaker _ _
    (λ d. or-weaker (not (eqb d.rule n)) _ _ (each-weaker _ _ (λ x. keeps_fewer (asked cx d x.traits) x.at h g) l))
    (distances cx.settings)

module _ (cx : Context) where
  done-append : (before : ℕ → Bank) (l : List Deed) (h g : List Event) → done cx before l (h ++ g) ≡ done cx before l h ++ g
  done-append before [] h g = refl
  done-append before (x ∷ l) h g = ap (λ (k : List Event). event_of cx (after_deeds cx before l) x ∷ k) (done-append before l h g)

  -- ---- records that leave a fresh checker with every bank closed, no write waiting and no data due

  pub record Calm (f : Record) : Type 0 where
    pub waiting : waiting_after cx (f ∷ []) ≡ []
    pub banks : (x : ℕ) → bank_after cx (f ∷ []) x ≡ Closed
    pub due : due_after cx (f ∷ []) ≡ None

  left-nothing : (o : Option Write) → left o [] ≡ []
  left-nothing None = refl
  left-nothing (Some w) = refl

  leaving-nothing : (r : Record) → leaving cx [] r ≡ None
  unfolding leaving
  leaving-nothing r = go ((traits r).not_read && false)
    where
      go : (b : Bool) → only_write b None ≡ None
      go true = refl
      go false = refl

  closed-stays : (o : Option ℕ) (x : ℕ) → closed_by cx o x Closed ≡ Closed
  closed-stays None x = refl
  closed-stays (Some b) x = go (near cx b x)
    where
      go : (t : Bool) → cond t Closed Closed ≡ Closed
      go true = refl
      go false = refl

  retired-stays : (r : Record) (o : Option ℕ) (x : ℕ) → closed_by cx o x (bank_retired cx [] r x Closed) ≡ Closed
  retired-stays r o x = ap (closed_by cx o x) (closed-stays (retire_implies (leaving cx [] r)) x) ∙ closed-stays o x

  waits-nothing : (r : Record) → loads r ≡ None → waiting_after cx (r ∷ []) ≡ []
  unfolding waiting_after waiting_next
  waits-nothing r e = rw e (left-nothing (leaving cx [] r))

  row_calm : (t : PacketAt) (p : RowPacket) → (traits (RowAt t p)).opens ≡ None → Calm (RowAt t p)
  unfolding traits row_traits loads bank_after bank_by due_after
  row_calm t (Act b r) e = not-both true refl (ap has e)
  row_calm t (Prer b) e = record { waiting = waits-nothing (RowAt t (Prer b)) refl; banks = closed-stays (Some b); due = refl }
  row_calm t (Refa b) e = not-both true refl (ap has e)
  row_calm t (Refp b) e = record { waiting = waits-nothing (RowAt t (Refp b)) refl; banks = closed-stays (Some b); due = refl }

  col-calm : (t : PacketAt) (p : ColPacket) → loads (ColAt t p) ≡ None → due_after cx (ColAt t p ∷ []) ≡ None → Calm (ColAt t p)
  unfolding bank_after waiting_after
  col-calm t p e d = record { waiting = waits-nothing (ColAt t p) e; banks = retired-stays (ColAt t p) (traits (ColAt t p)).implies; due = d }

  data-calm : (t : DataAt) (d : Dualoct) → Calm (DataOf t d)
  unfolding loads bank_after due_after
  data-calm t d = record { waiting = waits-nothing (DataOf t d) refl; banks = λ x. refl; due = refl }

  -- ---- a calm record in front of a list

  module _ (f : Record) (calm : Calm f) where
    waiting-front : (es : List Record) → waiting_after cx (es ++ (f ∷ [])) ≡ waiting_after cx es
    unfolding waiting_after
    waiting-front [] = calm.waiting
    waiting-front (r ∷ es) = ap (waiting_next cx r) (waiting-front es)

    bank-front : (es : List Record) (x : ℕ) → bank_after cx (es ++ (f ∷ [])) x ≡ bank_after cx es x
    unfolding bank_after
    bank-front [] x = calm.banks x
    bank-front (RowAt t p ∷ es) x = ap (bank_by cx p x) (bank-front es x)
    bank-front (ColAt t p ∷ es) x =
        ap₂ (λ (ws : List Write) (b : Bank). closed_by cx (traits (ColAt t p)).implies x (bank_retired cx ws (ColAt t p) x b)) (waiting-front es) (bank-front es x)
    bank-front (DataOf t d ∷ es) x = bank-front es x

    banks-front : (es : List Record) → bank_after cx (es ++ (f ∷ [])) ≡ bank_after cx es
    banks-front es = fun_ext (bank-front es)

    due-front : (es : List Record) → due_after cx (es ++ (f ∷ [])) ≡ due_after cx es
    unfolding due_after
    due-front [] = calm.due
    due-front (RowAt t p ∷ es) = refl
    due-front (ColAt t p ∷ es) = refl
    due-front (DataOf t d ∷ es) = refl

    events-front : (es : List Record) → events cx (es ++ (f ∷ [])) ≡ events cx es ++ events cx (f ∷ [])
    unfolding events
    events-front [] = refl
    events-front (r ∷ es) =
        ap₂ (λ (b : ℕ → Bank) (ws : List Write). done cx b (deeds cx ws r) (events cx (es ++ (f ∷ [])))) (banks-front es) (waiting-front es)
        ∙ ap (done cx (bank_after cx es) (deeds cx (waiting_after cx es) r)) (events-front es)
        ∙ done-append (bank_after cx es) (deeds cx (waiting_after cx es) r) (events cx es) (events cx (f ∷ []))

    module _ (es : List Record) (r : Record) where
      -- a rule of the table holds on fewer events
      table-front : (n : ℕ) → rule_of cx (es ++ (f ∷ [])) r n ≡ true → rule_of cx es r n ≡ true
      unfolding rule_of
      table-front n h =
          holds-fewer cx n (events cx es) (events cx (f ∷ [])) (deeds cx (waiting_after cx es) r)
          (ap₂ (λ (g : List Event) (ws : List Write). holds cx g n (deeds cx ws r)) (sym (events-front es)) (sym (waiting-front es)) ∙ h)

      -- the others are of the banks, the waiting writes and the due data, which are the same
      one-front : rule1 cx (es ++ (f ∷ [])) r ≡ true → rule1 cx es r ≡ true
      unfolding rule1
      one-front h =
          let at : List Write → Bool = λ ws. is_instant (instant r) && (leb (instant r + longest_delay cx r) horizon && leb (instant r + implied_delay cx (leaving cx ws r)) horizon) in
          let was = waiting_after cx (es ++ (f ∷ [])) in
          both (at (waiting_after cx es)) (rule_of cx es r 1) (ap at (sym (waiting-front es)) ∙ and_left (at was) _ h) (table-front 1 (and_right (at was) _ h))

      four-front : rule4 cx (es ++ (f ∷ [])) r ≡ rule4 cx es r
      unfolding rule4
      four-front = ap (λ (b : ℕ → Bank). free_for cx b (traits r).opens) (banks-front es)

      nine-front : rule9 cx (es ++ (f ∷ [])) r ≡ rule9 cx es r
      unfolding rule9
      nine-front =
          ap₂
          (λ (b : ℕ → Bank) (ws : List Write).
          open_for (λ x. bank_retired cx ws r x (b x)) (traits r).reads
          && (open_for (λ x. bank_retired cx ws r x (b x)) (traits r).writes && open_for b (bank_of (leaving cx ws r))))
          (banks-front es)
          (waiting-front es)

      twelve-front : rule12 cx (es ++ (f ∷ [])) r ≡ rule12 cx es r
      unfolding rule12
      twelve-front = ap (λ (ws : List Write). has (bank_of (leaving cx ws r)) || stays ws (traits r)) (waiting-front es)

      fourteen-front : rule14 cx (es ++ (f ∷ [])) r ≡ rule14 cx es r
      unfolding rule14
      fourteen-front = ap₂ (λ (b : ℕ → Bank) (ws : List Write). all_lose_none cx b ws r) (banks-front es) (waiting-front es)

      fifteen-front : rule15 cx (es ++ (f ∷ [])) r ≡ rule15 cx es r
      unfolding rule15
      fifteen-front = ap (λ (o : Option ℕ). data_in_place o r) (due-front es)

      sixteen-front : rule16 cx (es ++ (f ∷ [])) r ≡ rule16 cx es r
      unfolding rule16
      sixteen-front = ap (λ (ws : List Write). not (traits r).masked || has (bank_of (leaving cx ws r))) (waiting-front es)

      seventeen-front : rule17 cx (es ++ (f ∷ [])) r ≡ true → rule17 cx es r ≡ true
      unfolding rule17
      seventeen-front h =
          let at : List Write → Bool = λ ws. fits_between cx ws r in
          let was = waiting_after cx (es ++ (f ∷ [])) in
          both (at (waiting_after cx es)) (rule_of cx es r 17) (ap at (sym (waiting-front es)) ∙ and_left (at was) _ h) (table-front 17 (and_right (at was) _ h))

      -- a record that breaks no rule with it breaks none without it
      rules-front : lowest_rule cx (es ++ (f ∷ [])) r ≡ 0 → lowest_rule cx es r ≡ 0
      unfolding lowest_rule rules
      rules-front =
          lowest-weaker 0 (rules cx (es ++ (f ∷ [])) r) (rules cx es r)
          (one-front, (table-front 2, (table-front 3, (λ h. sym four-front ∙ h, (table-front 5, (table-front 6, (table-front 7, (table-front 8, (λ h. sym nine-front ∙ h, (table-front 10, (table-front 11, (λ h. sym twelve-front ∙ h, (table-front 13, (λ h. sym fourteen-front ∙ h, (λ h. sym fifteen-front ∙ h, (λ h. sym sixteen-front ∙ h, (seventeen-front, tt)))))))))))))))))

  -- ---- a record in front that opens no bank

  -- a WR finds its bank closed
  write-closed : (t : PacketAt) (b c m : ℕ) (x : Bool) → rule9 cx [] (ColAt t (Wr b c m x)) ≡ false
  unfolding rule9 traits col_traits bank_after waiting_after is_open
  write-closed t b c m x = rw (leaving-nothing (ColAt t (Wr b c m x)))

  write-first : (t : PacketAt) (b c m : ℕ) (x : Bool) (l : List Record) → rule_at cx (ColAt t (Wr b c m x) ∷ l) 0 ≡ 0 → ⊥
  unfolding lowest_rule rules
  write-first t b c m x l e = not-both (rule9 cx [] (ColAt t (Wr b c m x))) (lowest-none 0 (rules cx [] (ColAt t (Wr b c m x))) e 8) (write-closed t b c m x)

  module _ (l : List Record) where
    calm-front : (f : Record) → Calm f → (p : ℕ) → rule_at cx (f ∷ l) (suc p) ≡ 0 → rule_at cx l p ≡ 0
    calm-front f k p e = rules-front f k (earlier l p) (record_in l p) (ap (λ (es : List Record). lowest_rule cx es (record_in l p)) (sym (reverse-cons f (take p l))) ∙ e)

    calm-early : (f : Record) → Calm f → first_broken cx l + 1 < length l → first_broken cx (f ∷ l) < length l
    unfolding first_broken
    calm-early f k h =
        let p : ℕ = first_broken cx l in
        let bad : rule_at cx l p ≡ 0 → ⊥ = eqb-false _ _ (first-fails (λ j. eqb (rule_at cx l j) 0) (length l) (omega arith)) in
        let not-later : suc p < first_broken cx (f ∷ l) → ⊥ = λ m. bad (calm-front f k p (eqb-true _ _ (first-before (λ j. eqb (rule_at cx (f ∷ l) j) 0) (suc (length l)) (suc p) m))) in
        omega arith

    write-early : (t : PacketAt) (b c m : ℕ) (x : Bool) → first_broken cx l + 1 < length l → first_broken cx (ColAt t (Wr b c m x) ∷ l) < length l
    unfolding first_broken
    write-early t b c m x h =
        let f : Record = ColAt t (Wr b c m x) in
        let not-later : 0 < first_broken cx (f ∷ l) → ⊥ = λ k. write-first t b c m x l (eqb-true _ _ (first-before (λ j. eqb (rule_at cx (f ∷ l) j) 0) (suc (length l)) 0 k)) in
        omega arith

    -- what is refused before its last record is so with it
    pub front-early : (f : Record) → (traits f).opens ≡ None → first_broken cx l + 1 < length l → first_broken cx (f ∷ l) < length l
    unfolding loads due_after
    front-early (RowAt t p) e h = calm-early (RowAt t p) (row_calm t p e) h
    front-early (ColAt t (Nocop m)) e h = calm-early (ColAt t (Nocop m)) (col-calm t (Nocop m) refl refl) h
    front-early (ColAt t (Wr b c m x)) e h = write-early t b c m x h
    front-early (ColAt t (Rd b c m x)) e h = calm-early (ColAt t (Rd b c m x)) (col-calm t (Rd b c m x) refl refl) h
    front-early (DataOf t d) e h = calm-early (DataOf t d) (data-calm t d) h
