-- The checker is right: on every list of records that fit, it finds the first record that breaks a rule, and its lowest one.
-- Assumes nothing.
use Rattle.std.specs.Prelude.{Option, None, Some}
use Prim.Native.Nat.{ℕ, zero, suc, ◌+◌, ◌≤◌, ◌<◌}
use mathlib.Core.Path.{◌≡◌, refl, sym, ap, ◌∙◌}
use mathlib.Core.Bool.{Bool, true, false, ◌&&◌, cond}
use mathlib.Core.List.{List, [], ◌∷◌}
use lib.Dec.{eqb, leb}
use lib.ListN.{length, get_or}
use borrow.Author.Tests.{leb-true, eqb-true}
use native.Mathlib.Nat.{add-zero}
use native.Mathlib.Omega.{arith}
use Rattle.num.proofs.SearchLaws.{first-before, first-agree, first-all}
use Rattle.settings.specs.declared.Settings.{Settings}
use Rattle.settings.specs.declared.PacketAt.{PacketAt}
use Rattle.packet.specs.declared.RowPacket.{RowPacket}
use Rattle.packet.specs.declared.RowPacket.TheVariants.{Act, Prer, Refa, Refp}
use Rattle.settings.specs.Instants.{horizon, is_instant}
use Rattle.record.specs.declared.Record.{Record}
use Rattle.record.specs.declared.Record.TheVariants.{RowAt, ColAt, DataOf}
use Rattle.record.specs.Record.{record_fits}
use Rattle.spec_rules.specs.declared.Write.{Write}
use Rattle.spec_rules.specs.declared.Channel.{Channel}
use Rattle.spec_rules.specs.History.{retire_implies, Deed, retire_deeds, implied_deeds, deeds, has}
use Rattle.spec_rules.specs.Distances.{packet, PRER, any, rule◌from◌to◌for◌is◌, distances, each}
use Rattle.spec_rules.specs.Neighbour.{bank_count, Context, Neighbours}
use Rattle.spec_rules.specs.Packets.{on_pins, traits, row_traits, implied_traits, instant, is_packet}
use Rattle.spec_rules.specs.Rules.{longest_delay, implied_delay}
use Rattle.spec_rules.specs.Broken.{earlier, record_in, lowest, lowest_rule, rule_at, first_broken, every_rule}
use Rattle.spec_rules.specs.Channel.{waiting_of, leaving_of, after}
use Rattle.spec_rules.specs.Checks.{since, bound_of, bound, check_of, checks, judged, channel_after, found_at, first_found}
use Rattle.spec_rules.proofs.Bools.{not-both, and_left, and_right}
use Rattle.spec_rules.proofs.BrokenLaws.{lowest-none}
use Rattle.spec_rules.proofs.ListLaws.{earlier-next}
use Rattle.spec_rules.proofs.TrackLaws.{Tracks, Timely, row_keeps, keeps-all, packet-pins, tracks-fresh, tracks-step}
use Rattle.spec_rules.proofs.RulesAreChecks.{rules-are-checks}

since-zero : (l : ℕ) → since l 0 ≡ l
since-zero l = go (eqb l 0) refl
  where
    go : (b : Bool) → eqb l 0 ≡ b → cond b 0 (l + 0) ≡ l
    go true e = sym (eqb-true l 0 e)
    go false e = add-zero l

since-late : (l gap t : ℕ) → leb (since l gap) t ≡ true → l ≤ t
since-late l gap t h = go (eqb l 0) refl h
  where
    go : (z : Bool) → eqb l 0 ≡ z → leb (cond z 0 (l + gap)) t ≡ true → l ≤ t
    go true q h = let n : l ≡ 0 = eqb-true l 0 q in omega arith
    go false q h = let n : l + gap ≤ t = leb-true (l + gap) t h in omega arith

-- a packet that breaks no rule comes in its time, by rules 1 and 8
module _ (cx : Context) (ch : Channel) where
  abbrev one : Deed → Bool
  one x = leb (bound cx ch (rule 1 from packet to packet for any is 0) x.traits) x.at

  abbrev eight : Deed → Bool
  eight x = leb (bound cx ch (rule 8 from PRER to PRER for any is cx.settings.pp) x.traits) x.at

  -- of each deed
  pins-late : (x : Deed) → on_pins x.traits ≡ true → one x ≡ true → ch.lasts.packet.0 ≤ x.at
  pins-late x q e = leb-true ch.lasts.packet.0 x.at (rw (q, since-zero ch.lasts.packet.0) at e)

  pre-late : (o : Option ℕ) (t : ℕ) → leb (bound_of o (λ b. since ch.lasts.pre.0 cx.settings.pp)) t ≡ true → has o ≡ true → ch.lasts.pre.0 ≤ t
  pre-late None t e q = not-both false q refl
  pre-late (Some b) t e q = since-late ch.lasts.pre.0 cx.settings.pp t e

  -- of an implied PRER, and of the deeds before it
  implied-late : (t : ℕ) (o : Option ℕ) (l : List Deed) → each eight (implied_deeds t o l) ≡ true → has o ≡ true → ch.lasts.pre.0 ≤ t
  unfolding implied_traits
  implied-late t None l e q = not-both false q refl
  implied-late t (Some b) l e q = since-late ch.lasts.pre.0 cx.settings.pp t (and_left _ _ e)

  implied-rest : (test : Deed → Bool) (t : ℕ) (o : Option ℕ) (l : List Deed) → each test (implied_deeds t o l) ≡ true → each test l ≡ true
  implied-rest test t None l e = e
  implied-rest test t (Some b) l e = and_right (test (record { at = t; traits = implied_traits b })) _ e

  pub row_plain : (t : PacketAt) (p : RowPacket) → (traits (RowAt t p)).implies ≡ None
  unfolding traits row_traits
  row_plain t (Act b row) = refl
  row_plain t (Prer b) = refl
  row_plain t (Refa b) = refl
  row_plain t (Refp b) = refl

  timely : (es : List Record) (k : Tracks cx ch es) (r : Record) → is_packet r ≡ true → 4 ≤ instant r
      → each one (deeds cx (waiting_of ch.buffer) r) ≡ true → each eight (deeds cx (waiting_of ch.buffer) r) ≡ true → Timely cx ch es k r
  unfolding deeds instant is_packet
  timely es k (RowAt t p) q low e f =
      record {
        low = low;
        late = pins-late (record { at = t.0; traits = traits (RowAt t p) }) (packet-pins (RowAt t p) refl).0 (and_left _ _ e);
        own = pre-late (traits (RowAt t p)).precharges t.0 (and_left _ _ f);
        left-implied = λ h. not-both false (rw (keeps-all cx (RowAt t p) (waiting_of ch.buffer) (row_keeps t p)) at h) refl;
        own-implied = λ h. not-both false (rw (row_plain t p) at h) refl;
      }
  timely es k (ColAt t p) q low e f =
      let r : Record = ColAt t p in
      let u : ℕ = t.0 + cx.settings.offp in
      let o : Option Write = leaving_of cx ch r in
      let older : List Deed = implied_deeds u (retire_implies o) (retire_deeds t.0 o) in
      let x : Deed = record { at = t.0; traits = traits r } in
      let at_one : one x && each one older ≡ true = implied-rest one u (traits r).implies (x ∷ older) e in
      let at-eight : eight x && each eight older ≡ true = implied-rest eight u (traits r).implies (x ∷ older) f in
      record {
        low = low;
        late = pins-late x (packet-pins r refl).0 (and_left (one x) _ at_one);
        own = pre-late (traits r).precharges t.0 (and_left (eight x) _ at-eight);
        left-implied = implied-late u (retire_implies o) (retire_deeds t.0 o) (and_right (eight x) _ at-eight);
        own-implied = implied-late u (traits r).implies (x ∷ older) f;
      }
  timely es k (DataOf t d) q low e f = not-both false q refl

  -- the line of rule 1 and that of rule 8
  line-one : (r : Record) → check_of cx ch r 1 ≡ true → each one (deeds cx (waiting_of ch.buffer) r) ≡ true
  unfolding check_of distances
  line-one r e = and_left _ _ e

  line-eight : (r : Record) → check_of cx ch r 8 ≡ true → each eight (deeds cx (waiting_of ch.buffer) r) ≡ true
  unfolding check_of distances
  line-eight r e = and_left _ _ e

  pub in-time : (es : List Record) (k : Tracks cx ch es) (r : Record) → judged cx ch r ≡ 0 → is_packet r ≡ true → Timely cx ch es k r
  unfolding judged checks
  in-time es k r e p =
      let t : ℕ = instant r in
      let all : (i : ℕ) → get_or (checks cx ch r) i true ≡ true = lowest-none 0 (checks cx ch r) e in
      let within : Bool = is_instant t && (leb (t + longest_delay cx r) horizon && leb (t + implied_delay cx (leaving_of cx ch r)) horizon) in
      let first : within && check_of cx ch r 1 ≡ true = all 0 in
      let range = and_left (is_instant t) _ (and_left within _ first) in
      timely es k r p (leb-true 4 t (and_left (leb 4 t) _ range)) (line-one r (and_right within _ first)) (line-eight r (all 7))

module _ (cx : Context) (ns : Neighbours cx) where
  -- of one record, the rule that is found is the rule that it breaks
  pub judged-right : (ch : Channel) (es : List Record) → Tracks cx ch es → (r : Record) → judged cx ch r ≡ lowest_rule cx es r
  unfolding judged lowest_rule
  judged-right ch es k r = ap (lowest 1) (sym (rules-are-checks cx ns ch es k r))

  -- the state after a record that fits and breaks no rule
  pub tracks-next : (ch : Channel) (es : List Record) → Tracks cx ch es → (r : Record) → record_fits cx.settings r ≡ true → lowest_rule cx es r ≡ 0
      → Tracks cx (after cx ch r) (r ∷ es)
  tracks-next ch es k r f e = tracks-step cx ch es k r f (in-time cx ch es k r (judged-right ch es k r ∙ e))

  module _ (l : List Record) (fits : (i : ℕ) → i < length l → record_fits cx.settings (record_in l i) ≡ true) where
    -- the state is the summary of the records before record j, where none of them breaks a rule
    pub tracks-at : (j : ℕ) → j ≤ length l → ((i : ℕ) → i < j → rule_at cx l i ≡ 0) → Tracks cx (channel_after cx l j) (earlier l j)
    unfolding channel_after
    tracks-at zero m h = tracks-fresh cx
    tracks-at (suc j) m h =
        rw (earlier-next l j (omega arith))
        (tracks-next (channel_after cx l j) (earlier l j) (tracks-at j (omega arith) (λ i n. h i (omega arith))) (record_in l j) (fits j (omega arith)) (h j (omega arith)))

    found_before : (j : ℕ) → j < length l → ((i : ℕ) → i < j → rule_at cx l i ≡ 0) → found_at cx l j ≡ rule_at cx l j
    found_before j m h = judged-right (channel_after cx l j) (earlier l j) (tracks-at j (omega arith) h) (record_in l j)

    -- up to the first record that breaks a rule, and there
    pub found-is-rule : (j : ℕ) → j ≤ first_broken cx l → j < length l → found_at cx l j ≡ rule_at cx l j
    unfolding first_broken
    found-is-rule j b m =
        found_before j m (λ i n. eqb-true _ _ (first-before (λ j. eqb (rule_at cx l j) 0) (length l) i (omega arith)))

    first-right : first_found cx l ≡ first_broken cx l
    unfolding first_found first_broken
    first-right =
        first-agree (λ j. eqb (found_at cx l j) 0) (λ j. eqb (rule_at cx l j) 0) (length l)
        (λ j m h. ap (λ (n : ℕ). eqb n 0) (found_before j m (λ i n. eqb-true _ _ (h i n))))

    -- the checker names the first record that breaks a rule, and the lowest that it breaks
    pub checker-right : (first_found cx l ≡ first_broken cx l)
        × (first_found cx l < length l → found_at cx l (first_found cx l) ≡ rule_at cx l (first_found cx l))
    checker-right = (first-right, λ m. found-is-rule (first_found cx l) (omega (arith, first-right)) m)

    -- it passes a list if and only if every rule holds on it
    pub passes-iff : eqb (first_found cx l) (length l) ≡ every_rule cx l
    unfolding first_broken every_rule
    passes-iff = rw first-right (first-all (λ j. eqb (rule_at cx l j) 0) (length l))
