-- The distances that every rule gives between two records of a list: of ROW packets, of COL packets, from RD to WR, and from WR to
-- its data.
-- Assumes nothing.
use Rattle.std.specs.Prelude.{Option, None, Some}
use Prim.Native.Nat.{ℕ, zero, suc, ◌+◌, ◌-◌, ◌≤◌, ◌<◌}
use mathlib.Core.Path.{◌≡◌, refl, ap, ◌∙◌}
use mathlib.Core.Bool.{Bool, true, false, ◌&&◌}
use mathlib.Core.List.{List, [], ◌∷◌}
use lib.Dec.{eqb}
use lib.ListN.{length}
use borrow.Author.Tests.{leb-true, eqb-true, eqb-false, not-false}
use native.Mathlib.Omega.{arith}
use Rattle.settings.specs.declared.PacketAt.{PacketAt}
use Rattle.settings.specs.declared.DataAt.{DataAt}
use Rattle.packet.specs.declared.RowPacket.{RowPacket}
use Rattle.packet.specs.declared.RowPacket.TheVariants.{Act, Prer, Refa, Refp}
use Rattle.packet.specs.declared.ColPacket.{ColPacket}
use Rattle.packet.specs.declared.ColPacket.TheVariants.{Nocop, Wr, Rd}
use Rattle.record.specs.declared.Record.{Record}
use Rattle.record.specs.declared.Dualoct.{Dualoct}
use Rattle.record.specs.declared.Record.TheVariants.{RowAt, ColAt, DataOf}
use Rattle.spec_rules.specs.declared.Bank.{Bank}
use Rattle.spec_rules.specs.declared.Write.{Write}
use Rattle.spec_rules.specs.Neighbour.{Context}
use Rattle.spec_rules.specs.Packets.{Traits, traits, row_traits, col_traits, implied_traits, instant, is_packet}
use Rattle.spec_rules.specs.History.{Deed, Event, implied_deeds, deeds, done, events, waiting_after, bank_after, spaced, keeps, over}
use Rattle.spec_rules.specs.Distances.{Kind, ROW, COL, RD, WR, bank_as, distances, each}
use Rattle.spec_rules.specs.Rules.{rules, rule_of, rule15, due_after}
use Rattle.spec_rules.specs.Broken.{earlier, record_in, breaks_after, every_rule}
use Rattle.spec_rules.proofs.Bools.{not-both, and_left, and_right}
use Rattle.spec_rules.proofs.ListLaws.{earlier-next}
use Rattle.spec_rules.proofs.BrokenLaws.{every-none}

-- ---- a test of all deeds of a packet holds of the packet itself

module _ (test : Deed → Bool) where
  implied-rest : (t : ℕ) (o : Option ℕ) (l : List Deed) → each test (implied_deeds t o l) ≡ true → each test l ≡ true
  implied-rest t None l e = e
  implied-rest t (Some b) l e = and_right (test (record { at = t; traits = implied_traits b })) _ e

  own-deed : (cx : Context) (ws : List Write) (r : Record) → is_packet r ≡ true → each test (deeds cx ws r) ≡ true
      → test (record { at = instant r; traits = traits r }) ≡ true
  unfolding deeds instant is_packet
  own-deed cx ws (RowAt t p) k e = and_left _ _ e
  own-deed cx ws (ColAt t p) k e = and_left _ _ (implied-rest (t.0 + cx.settings.offp) (traits (ColAt t p)).implies _ e)
  own-deed cx ws (DataOf t d) k e = not-both false k refl

-- ---- a distance from every event holds from each earlier packet

module _ (cx : Context) (gap : Traits → Option ℕ) (t : ℕ) where
  abbrev far : Deed → Bool
  far x = spaced (gap x.traits) x.at t

  abbrev all-far : List Event → Bool
  all-far h = keeps (λ e. gap e.traits) t h

  done-rest : (before : ℕ → Bank) (l : List Deed) (h : List Event) → all-far (done cx before l h) ≡ true → all-far h ≡ true
  unfolding keeps
  done-rest before [] h e = e
  done-rest before (x ∷ l) h e = done-rest before l h (and_right (far x) _ e)

  done-own : (before : ℕ → Bank) (l : List Deed) (h : List Event) → all-far (done cx before l h) ≡ true → each far l ≡ true
  unfolding keeps
  done-own before [] h e = refl
  done-own before (x ∷ l) h e = both (far x) (each far l) (and_left (far x) _ e) (done-own before l h (and_right (far x) _ e))
    where
      both : (a b : Bool) → a ≡ true → b ≡ true → a && b ≡ true
      both true b p q = q
      both false b p q = p

  abbrev FarFrom : Record → Type 0
  FarFrom r = is_packet r ≡ true → spaced (gap (traits r)) (instant r) t ≡ true

  -- from each of these records
  far-earlier : (l : List Record) (i j : ℕ) → i < j → j ≤ length l → all-far (events cx (earlier l j)) ≡ true → FarFrom (record_in l i)
  unfolding events
  far-earlier l i zero m n e = absurd (omega arith)
  far-earlier l i (suc j) m n e = go (eqb i j) refl (λ k q. far-earlier l i j k (omega arith) q)
    where
      newest : all-far (events cx (record_in l j ∷ earlier l j)) ≡ true
      newest = rw (earlier-next l j (omega arith)) at e

      go : (b : Bool) → eqb i j ≡ b → (i < j → all-far (events cx (earlier l j)) ≡ true → FarFrom (record_in l i)) → FarFrom (record_in l i)
      go true q ih = rw (eqb-true i j q) (λ k. own-deed far cx (waiting_after cx (earlier l j)) (record_in l j) k (done-own (bank_after cx (earlier l j)) (deeds cx (waiting_after cx (earlier l j)) (record_in l j)) (events cx (earlier l j)) newest))
      go false q ih =
          let o : i ≡ j → ⊥ = eqb-false i j q in
          ih (omega arith) (done-rest (bank_after cx (earlier l j)) (deeds cx (waiting_after cx (earlier l j)) (record_in l j)) (events cx (earlier l j)) newest)

-- ---- packets by their pins

is_row : (p : RowPacket) → bank_as ROW (row_traits p) ≡ Some 0
unfolding row_traits
is_row (Act b r) = refl
is_row (Prer b) = refl
is_row (Refa b) = refl
is_row (Refp b) = refl

is-col : (p : ColPacket) → bank_as COL (col_traits p) ≡ Some 0
unfolding col_traits
is-col (Nocop m) = refl
is-col (Wr b c m x) = refl
is-col (Rd b c m x) = refl

-- ---- the rules of a list that passes

module _ (cx : Context) (l : List Record) (passes : every_rule cx l ≡ true) where
  holds_at : (j n : ℕ) → j < length l → breaks_after cx (suc n) (earlier l j) (record_in l j) ≡ false
  holds_at j n h = every-none cx l passes j h (suc n)

  rule-2 : (j : ℕ) → j < length l → rule_of cx (earlier l j) (record_in l j) 2 ≡ true
  unfolding breaks_after rules
  rule-2 j h = not-false _ (holds_at j 1 h)

  rule-3 : (j : ℕ) → j < length l → rule_of cx (earlier l j) (record_in l j) 3 ≡ true
  unfolding breaks_after rules
  rule-3 j h = not-false _ (holds_at j 2 h)

  rule-11 : (j : ℕ) → j < length l → rule_of cx (earlier l j) (record_in l j) 11 ≡ true
  unfolding breaks_after rules
  rule-11 j h = not-false _ (holds_at j 10 h)

  rule-15 : (j : ℕ) → j < length l → rule15 cx (earlier l j) (record_in l j) ≡ true
  unfolding breaks_after rules
  rule-15 j h = not-false _ (holds_at j 14 h)

  -- a line of the table for any banks, between two packets of its kinds
  module _ (i j : ℕ) (m : i < j) (h : j < length l) (a b : Kind) (cycles : ℕ) where
    abbrev between : Deed → Bool
    between x = keeps (λ e. over (bank_as b x.traits) (λ q. over (bank_as a e.traits) (λ p. Some cycles))) x.at (events cx (earlier l j))

    apart : each between (deeds cx (waiting_after cx (earlier l j)) (record_in l j)) ≡ true
        → is_packet (record_in l i) ≡ true → is_packet (record_in l j) ≡ true → (p q : ℕ) → bank_as a (traits (record_in l i)) ≡ Some p → bank_as b (traits (record_in l j)) ≡ Some q
        → instant (record_in l i) + cycles ≤ instant (record_in l j)
    apart e ki kj p q ea eb =
        let own = own-deed between cx (waiting_after cx (earlier l j)) (record_in l j) kj e in
        let f = far-earlier cx (λ k. over (bank_as b (traits (record_in l j))) (λ q. over (bank_as a k) (λ p. Some cycles))) (instant (record_in l j)) l i j m (omega arith) own ki in
        leb-true _ _ (rw (eb, ea) at f)

  -- ---- two packets

  pub rows_apart : (i j : ℕ) → i < j → j < length l → (t u : PacketAt) (p q : RowPacket) → record_in l i ≡ RowAt t p → record_in l j ≡ RowAt u q → t.0 + 4 ≤ u.0
  unfolding rule_of distances instant is_packet traits
  rows_apart i j m h t u p q ei ej =
      rw (ei, ej) at (apart i j m h ROW ROW 4 (and_left _ _ (rule-2 j h)) (rw ei) (rw ej) 0 0 (ap (λ r. bank_as ROW (traits r)) ei ∙ is_row p) (ap (λ r. bank_as ROW (traits r)) ej ∙ is_row q))

  pub cols-apart : (i j : ℕ) → i < j → j < length l → (t u : PacketAt) (p q : ColPacket) → record_in l i ≡ ColAt t p → record_in l j ≡ ColAt u q
      → t.0 + cx.settings.cc ≤ u.0
  unfolding rule_of distances instant is_packet traits
  cols-apart i j m h t u p q ei ej =
      rw (ei, ej) at
      (apart i j m h COL COL cx.settings.cc (and_left _ _ (rule-3 j h)) (rw ei) (rw ej) 0 0 (ap (λ r. bank_as COL (traits r)) ei ∙ is-col p) (ap (λ r. bank_as COL (traits r)) ej ∙ is-col q))

  pub read-write-apart : (i j : ℕ) → i < j → j < length l → (t u : PacketAt) (b k n : ℕ) (x : Bool) (b' k' n' : ℕ) (x' : Bool)
      → record_in l i ≡ ColAt t (Rd b k n x) → record_in l j ≡ ColAt u (Wr b' k' n' x')
      → t.0 + (cx.settings.cc + cx.settings.cac - cx.settings.cwd) ≤ u.0
  unfolding rule_of distances instant is_packet traits col_traits
  read-write-apart i j m h t u b k n x b' k' n' x' ei ej =
      rw (ei, ej) at
      (apart i j m h RD WR (cx.settings.cc + cx.settings.cac - cx.settings.cwd) (and_left _ _ (rule-11 j h)) (rw ei) (rw ej) b b' (ap (λ r. bank_as RD (traits r)) ei) (ap (λ r. bank_as WR (traits r)) ej))

  -- ---- a WR and its data

  -- the WR before record j, of which this is the data instant
  pub record WriteBefore (j at : ℕ) : Type 0 where
    pub place : ℕ
    pub next : j ≡ suc place
    pub t : PacketAt
    pub bank : ℕ
    pub column : ℕ
    pub mask : ℕ
    pub close : Bool
    pub is-write : record_in l place ≡ ColAt t (Wr bank column mask close)
    pub data-at : at ≡ t.0 + cx.settings.cwd

  pub data-of-write : (j : ℕ) → j < length l → (t : DataAt) (d : Dualoct) → record_in l j ≡ DataOf t d → WriteBefore j t.0
  unfolding rule15 due_after is_packet instant
  data-of-write zero h t d e = not-both false (rw e at (rule-15 0 h)) refl
  data-of-write (suc k) h t d e = go (record_in l k) refl (rw (earlier-next l k (omega arith), e) at (rule-15 (suc k) h))
    where
      go : (r : Record) → record_in l k ≡ r → rule15 cx (r ∷ earlier l k) (DataOf t d) ≡ true → WriteBefore (suc k) t.0
      go (RowAt u p) q f = not-both false f refl
      go (ColAt u (Nocop m)) q f = not-both false f refl
      go (ColAt u (Rd b c m x)) q f = not-both false f refl
      go (DataOf u x) q f = not-both false f refl
      go (ColAt u (Wr b c m x)) q f =
          record { place = k; next = refl; t = u; bank = b; column = c; mask = m; close = x; is-write = q; data-at = eqb-true t.0 (u.0 + cx.settings.cwd) f }
