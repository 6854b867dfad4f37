-- "A meter state that no such run gives falls under 1": the states that are not refused are those that a run of feeds gives.
-- Assumes nothing.
use Prim.Native.Nat.{ℕ, zero, suc, ◌+◌, ◌-◌, ◌<◌, ◌≤◌}
use mathlib.Core.Path.{◌≡◌, refl, sym, ap, ap₂, ◌∙◌}
use mathlib.Core.Bool.{Bool, true, false, cond, ◌&&◌, and-false}
use mathlib.Core.List.{List, [], ◌∷◌}
use mathlib.Core.Logic.{◌⊎◌, ⊎_elim, ◌↔◌}
use native.Mathlib.Omega.{arith}
use lib.Dec.{eqb, leb, ltb}
use borrow.Author.Tests.{eqb-true, eqb-false, eq-eqb, leb-true, le-leb, lt-leb, ltb-true, ltb-false, le-ltb, lt-ltb}
use Rattle.settings.specs.Instants.{horizon}
use Rattle.num.specs.Marks.{mark, words}
use Rattle.num.proofs.bits.BitLaws.{same_truth}
use Rattle.num.proofs.bits.MarkLaws.{words-marks, words_same}
use Rattle.meter.specs.declared.Meter.{Meter}
use Rattle.std.specs.Prelude.{Ok}
use Rattle.meter.specs.Answer.{feed_number, feed_accepted}
use Rattle.meter.specs.Window.{one_of, overlaps, answer_to}
use Rattle.meter.specs.Meter.{meter_valid, feed_answer}
use Rattle.meter.specs.MeterBytes.{Held}
use Rattle.meter.specs.Runs.{meter_after, heard, Given}
use Rattle.meter.proofs.HistoryLaws.{hits}
use Rattle.meter.proofs.ValidLaws.{Valid, valid-in, valid-out}
use Rattle.meter.proofs.TrackLaws.{Tracks, newest_of}
use Rattle.meter.proofs.RunLaws.{tracks-answer, run-tracks, run-held}

-- ---- a meter is its newest instant and its marks

same-meter : (a b : Meter) → Held a → Held b → a.newest ≡ b.newest → ((i : ℕ) → i < 1024 → mark a.marks i ≡ mark b.marks i) → a ≡ b
same-meter a b ha hb n m =
    let w : a.marks ≡ b.marks = sym (words-marks a.marks 16 ha.words ha.word) ∙ words_same (mark a.marks) (mark b.marks) 16 (λ i l. m i (omega arith)) ∙ words-marks b.marks 16 hb.words hb.word in
    ap₂ (λ (ws : List ℕ) (x : ℕ). record { marks = ws; newest = x }) w n

-- ---- the instants that the marks from a on stand for, newest first

-- a range from a on is empty, or is a and the range from a + 1 on
none_in : (i a : ℕ) (x : Bool) → (leb a i && (ltb i (a + 0) && x)) ≡ false
none_in i a x = go (leb a i) refl
  where
    go : (b : Bool) → leb a i ≡ b → (b && (ltb i (a + 0) && x)) ≡ false
    go true e = let l = leb-true a i e in rw (le-ltb i (a + 0) (omega arith))
    go false e = refl

not_first : (i a k : ℕ) (x : Bool) → eqb i a ≡ false → (leb (a + 1) i && (ltb i (a + 1 + k) && x)) ≡ (leb a i && (ltb i (a + suc k) && x))
not_first i a k x e =
    let d = eqb-false i a e in
    let l : leb (a + 1) i ≡ leb a i = same_truth (leb (a + 1) i) (leb a i) (λ h. le-leb a i (omega (arith, leb-true))) (λ h. le-leb (a + 1) i (omega (arith, leb-true, d))) in
    let s : a + 1 + k ≡ a + suc k = omega arith in
    rw (l, s)

module _ (f : ℕ → Bool) (n : ℕ) where
  unfoldable instants : ℕ → ℕ → List ℕ
  instants a zero = []
  instants a (suc k) = cond (f a) ((n - a) ∷ instants (a + 1) k) (instants (a + 1) k)

  module _ (early : (i : ℕ) → f i ≡ true → i + 4 ≤ n) where
    hit : (i a : ℕ) → f a ≡ true → hits n i 0 (n - a) ≡ eqb i a
    hit i a e =
        let l = early a e in
        same_truth (eqb (n - a + i) (n + 0)) (eqb i a) (λ h. eq-eqb i a (omega (arith, eqb-true))) (λ h. eq-eqb (n - a + i) (n + 0) (omega (arith, eqb-true)))

    -- each mark is one of them
    has : (i a k : ℕ) → one_of (hits n i 0) (instants a k) ≡ (leb a i && (ltb i (a + k) && f i))
    unfolding instants one_of
    has i a zero = sym (none_in i a (f i))
    has i a (suc k) = go (f a) refl (eqb i a) refl (has i (a + 1) k)
      where
        go : (b : Bool) → f a ≡ b → (c : Bool) → eqb i a ≡ c → one_of (hits n i 0) (instants (a + 1) k) ≡ (leb (a + 1) i && (ltb i (a + 1 + k) && f i))
            → one_of (hits n i 0) (cond b ((n - a) ∷ instants (a + 1) k) (instants (a + 1) k)) ≡ (leb a i && (ltb i (a + suc k) && f i))
        go true e true c ih = let z = eqb-true i a c in rw (hit i a e, c, z, le-leb a a (omega arith), lt-ltb a (a + suc k) (omega arith), e)
        go true e false c ih = rw (hit i a e, c, ih) (not_first i a k (f i) c)
        go false e true c ih = let z = eqb-true i a c in ih ∙ rw (z, e, lt-leb (a + 1) a (omega arith), and-false (ltb a (a + suc k))) (sym (and-false (leb a a)))
        go false e false c ih = ih ∙ not_first i a k (f i) c

    -- they do not overlap with one that comes 4 cycles after them
    clear : (at a k : ℕ) → ((i : ℕ) → a ≤ i → f i ≡ true → n - i + 4 ≤ at) → overlaps (instants a k) at ≡ false
    unfolding instants overlaps
    clear at a zero h = refl
    clear at a (suc k) h = go (f a) refl (clear at (a + 1) k (λ i l e. h i (omega arith) e))
      where
        go : (b : Bool) → f a ≡ b → overlaps (instants (a + 1) k) at ≡ false → overlaps (cond b ((n - a) ∷ instants (a + 1) k) (instants (a + 1) k)) at ≡ false
        go true e ih = le-ltb at (n - a + 4) (h a (omega arith) e)
        go false e ih = ih

    -- and fed in turn they are all accepted
    module _ (in-range : n ≤ horizon) (apart4 : (i e : ℕ) → 0 < e → e < 4 → f i ≡ true → f (i + e) ≡ true → ⊥) where
      far : (a i : ℕ) → f a ≡ true → a + 1 ≤ i → f i ≡ true → n - i + 4 ≤ n - a
      far a i x l y = go (ltb i (a + 4)) refl
        where
          go : (b : Bool) → ltb i (a + 4) ≡ b → n - i + 4 ≤ n - a
          go true e =
              let k = ltb-true i (a + 4) e in
              let s : a + (i - a) ≡ i = omega arith in
              absurd (apart4 a (i - a) (omega arith) (omega arith) x (rw s y))
          go false e = let k = ltb-false i (a + 4) e in let g = early i y in omega arith

      taken : (a k : ℕ) → f a ≡ true → answer_to (instants (a + 1) k) (n - a) ≡ Ok tt
      unfolding answer_to
      taken a k e =
          let l = early a e in
          rw (le-leb 4 (n - a) (omega arith), le-leb (n - a) horizon (omega arith), clear (n - a) (a + 1) k (λ i b y. far a i e b y))

      all-heard : (a k : ℕ) → heard (instants a k) ≡ instants a k
      unfolding instants heard feed_accepted feed_number
      all-heard a zero = refl
      all-heard a (suc k) = go (f a) refl (all-heard (a + 1) k)
        where
          go : (b : Bool) → f a ≡ b → heard (instants (a + 1) k) ≡ instants (a + 1) k
              → heard (cond b ((n - a) ∷ instants (a + 1) k) (instants (a + 1) k)) ≡ cond b ((n - a) ∷ instants (a + 1) k) (instants (a + 1) k)
          go true e ih =
              let fed = instants (a + 1) k in
              let r : feed_answer (meter_after fed) (n - a) ≡ Ok tt = tracks-answer (heard fed) (meter_after fed) (run-tracks fed) (n - a) ∙ rw ih (taken a k e) in
              rw (r, ih)
          go false e ih = ih

    -- the newest of them, where the marks start at 0 or there is none
    none_at_all : (a k : ℕ) → n ≡ 0 → instants a k ≡ []
    unfolding instants
    none_at_all a zero z = refl
    none_at_all a (suc k) z = go (f a) refl (none_at_all (a + 1) k z)
      where
        go : (b : Bool) → f a ≡ b → instants (a + 1) k ≡ [] → cond b ((n - a) ∷ instants (a + 1) k) (instants (a + 1) k) ≡ []
        go true e ih = let l = early a e in absurd (omega arith)
        go false e ih = ih

    newest-is : (k : ℕ) → (n ≡ 0) ⊎ (f 0 ≡ true) → newest_of (instants 0 (suc k)) ≡ n
    unfolding instants newest_of
    newest-is k = ⊎_elim (λ z. ap newest_of (none_at_all 0 (suc k) z) ∙ sym z) (λ e. rw e (omega arith))

-- ---- both ways

pub given_by : (m : Meter) → Held m → meter_valid m ≡ true → Given m
given_by m h e = (fed, same-meter (meter_after fed) m (run-held fed) h n marks)
  where
    v : Valid m.marks m.newest
    v = valid-in m h.words e

    f : ℕ → Bool
    f = mark m.marks

    fed : List ℕ
    fed = instants f m.newest 0 1024

    all : heard fed ≡ fed
    all = all-heard f m.newest v.from4 v.in-range v.apart4 0 1024

    t : Tracks (heard fed) (meter_after fed)
    t = run-tracks fed

    n : (meter_after fed).newest ≡ m.newest
    n = t.newest ∙ ap newest_of all ∙ newest-is f m.newest v.from4 1023 v.first

    marks : (i : ℕ) → i < 1024 → mark (meter_after fed).marks i ≡ f i
    marks i l =
        t.marks i l ∙ ap₂ (λ (x : ℕ) (r : List ℕ). one_of (hits x i 0) r) n all ∙ has f m.newest v.from4 i 0 1024
        ∙ rw (le-leb 0 i (omega arith), lt-ltb i (0 + 1024) (omega arith))

pub given-valid : (m : Meter) → Given m → meter_valid m ≡ true
given-valid m g = rw (← g.1) (valid-out (meter_after g.0) (run-tracks g.0).valid)

-- so those that are refused are those that no run gives
pub valid-given : (m : Meter) → Held m → (meter_valid m ≡ true) ↔ Given m
valid-given m h = (given_by m h, given-valid m)
