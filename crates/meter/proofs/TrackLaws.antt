-- A meter tracks a history: its newest instant, the marks of those up to 1,023 cycles before it; so its count is the history's.
-- Assumes nothing.
use Prim.Native.Nat.{ℕ, zero, suc, ◌+◌, ◌-◌, ◌/◌, ◌%◌, ◌<◌, ◌≤◌}
use mathlib.Core.Path.{◌≡◌, refl, sym, ap, ap₂, ◌∙◌}
use mathlib.Core.Bool.{Bool, true, false, ◌&&◌, ◌||◌, and-false}
use mathlib.Core.List.{List, [], ◌∷◌}
use mathlib.Core.Logic.{inl}
use native.Mathlib.Omega.{arith}
use lib.Dec.{eqb, leb}
use lib.ListN.{length, get_or}
use borrow.Author.Tests.{eqb-true, eq-eqb, ne_eqb, leb-true, leb-false}
use Rattle.num.specs.Bytes.{zeros}
use Rattle.num.proofs.SpliceLaws.{length-zeros}
use Rattle.settings.specs.Instants.{horizon}
use Rattle.num.specs.Marks.{mark, later}
use Rattle.num.proofs.bits.BitLaws.{same_truth}
use Rattle.num.proofs.bits.MarkLaws.{bit-zero}
use Rattle.num.proofs.bits.CountLaws.{count_same, count_none}
use Rattle.meter.specs.declared.Meter.{Meter}
use Rattle.meter.specs.Window.{one_of, has_data, data_cycles, metered}
use Rattle.meter.specs.Meter.{fresh_meter, advanced, busy, busy_count}
use Rattle.meter.proofs.HistoryLaws.{one_of-same, hits, carries-hits}
use Rattle.meter.proofs.ValidLaws.{Valid, valid-pushed, mark-pushed, length-pushed, clash}

-- the newest instant, 0 where there is none
unfoldable pub newest_of : List ℕ → ℕ
newest_of [] = 0
newest_of (t ∷ ts) = t

pub record Tracks (h : List ℕ) (m : Meter) : Type 0 where
  pub newest : m.newest ≡ newest_of h
  pub marks : (i : ℕ) → i < 1024 → mark m.marks i ≡ one_of (hits m.newest i 0) h
  pub none-later : (f : ℕ → Bool) → ((t : ℕ) → t ≤ m.newest → f t ≡ false) → one_of f h ≡ false
  pub long : length m.marks ≡ 16
  pub valid : Valid m.marks m.newest

pub get_or-zeros : (n k : ℕ) → get_or (zeros n) k 0 ≡ 0
get_or-zeros zero k = refl
get_or-zeros (suc n) zero = refl
get_or-zeros (suc n) (suc k) = get_or-zeros n k

mark-zeros : (n i : ℕ) → mark (zeros n) i ≡ false
unfolding mark
mark-zeros n i = rw (get_or-zeros n (i / 64)) (bit-zero (i % 64))

pub tracks-fresh : Tracks [] fresh_meter
unfolding fresh_meter one_of newest_of
tracks-fresh =
    record {
      newest = refl;
      marks = λ i h. mark-zeros 16 i;
      none-later = λ f h. refl;
      long = length-zeros 16;
      valid = record { in-range = omega arith; first = inl refl; apart4 = λ i e p q x y. clash (mark (zeros 16) i) x (mark-zeros 16 i); from4 = λ i x. absurd (clash (mark (zeros 16) i) x (mark-zeros 16 i)) };
    }

-- a mark that is moved up by d is that of an instant which is d later than the newest
marks-later : (h : List ℕ) (m : Meter) → Tracks h m → (d i : ℕ) → i < 1024 → later (mark m.marks) d i ≡ one_of (hits m.newest i d) h
marks-later h m t d i l = go (leb d i) refl
  where
    n : ℕ
    n = m.newest

    go : (b : Bool) → leb d i ≡ b → (b && mark m.marks (i - d)) ≡ one_of (hits n i d) h
    go true e =
        let k = leb-true d i e in
        t.marks (i - d) (omega arith)
        ∙ one_of-same (hits n (i - d) 0) (hits n i d) h
        (λ x. same_truth (eqb (x + (i - d)) (n + 0)) (eqb (x + i) (n + d)) (λ q. eq-eqb (x + i) (n + d) (omega (arith, eqb-true))) (λ q. eq-eqb (x + (i - d)) (n + 0) (omega (arith, eqb-true))))
    go false e =
        let k = leb-false d i e in
        sym (t.none-later (hits n i d) (λ x q. ne_eqb (x + i) (n + d) (λ z. omega arith)))

pub tracks-next : (h : List ℕ) (m : Meter) (at : ℕ) → Tracks h m → m.newest + 4 ≤ at → at ≤ horizon → Tracks (at ∷ h) (advanced m at)
unfolding advanced one_of newest_of
tracks-next h m at t l k =
    record {
      newest = refl;
      marks = λ i b. mark-pushed m.marks (at - m.newest) i b ∙ ap₂ ◌||◌ (first i) (marks-later h m t (at - m.newest) i b ∙ ap (λ (x : ℕ). one_of (λ s. eqb (s + i) x) h) at-is);
      none-later = λ f g. rw (g at (omega arith), t.none-later f (λ s b. g s (omega arith)));
      long = length-pushed m.marks (at - m.newest);
      valid = valid-pushed m.marks m.newest at t.valid l k;
    }
  where
    at-is : m.newest + (at - m.newest) ≡ at + 0
    at-is = omega arith

    first : (i : ℕ) → eqb i 0 ≡ hits at i 0 at
    first i = same_truth (eqb i 0) (eqb (at + i) (at + 0)) (λ e. eq-eqb (at + i) (at + 0) (omega (arith, eqb-true))) (λ e. eq-eqb i 0 (omega (arith, eqb-true)))

-- which cycles were busy
busy-is : (h : List ℕ) (m : Meter) → Tracks h m → (i : ℕ) → i < 1024 → busy m i ≡ (leb i (m.newest + 3) && has_data h (m.newest + 3 - i))
unfolding busy
busy-is h m t i l =
    rw (t.marks i l, marks-later h m t 1 i l, marks-later h m t 2 i l, marks-later h m t 3 i l) (carries-hits h m.newest i)

carries-none : (c : ℕ) → has_data [] c ≡ false
unfolding has_data one_of
carries-none c = refl

-- the count of a meter is that of its history
pub tracks-count : (h : List ℕ) (m : Meter) → Tracks h m → busy_count m ≡ metered h
unfolding busy_count metered data_cycles newest_of
tracks-count [] m t = count_none (busy m) 1024 (λ i l. busy-is [] m t i l ∙ rw (carries-none (m.newest + 3 - i)) (and-false (leb i (m.newest + 3))))
tracks-count (at ∷ h) m t =
    count_same (busy m) (λ i. leb i (at + 3) && has_data (at ∷ h) (at + 3 - i)) 1024
    (λ i l. busy-is (at ∷ h) m t i l ∙ ap (λ (n : ℕ). leb i (n + 3) && has_data (at ∷ h) (n + 3 - i)) t.newest)
