-- What a meter that is not refused has, and that it has it after an instant that is accepted.
-- Assumes nothing.
use Prim.Native.Nat.{ℕ, zero, suc, ◌+◌, ◌-◌, ◌<◌, ◌≤◌}
use mathlib.Core.Path.{◌≡◌, refl, sym, ap, ◌∙◌}
use mathlib.Core.Bool.{Bool, true, false, not, ◌&&◌, ◌||◌, and-eq-true_iff, or-true, true≢false}
use mathlib.Core.List.{List}
use mathlib.Core.Logic.{◌⊎◌, ⊎_elim, inl, inr}
use native.Mathlib.Omega.{arith}
use lib.Dec.{eqb, leb, ltb}
use lib.ListN.{length}
use borrow.Author.Tests.{eqb-true, eq-eqb, leb-true, le-leb, ltb-true, ltb-false, lt-ltb}
use Rattle.num.specs.Search.{all_up_to}
use Rattle.num.proofs.SearchLaws.{all-at, all-intro}
use Rattle.settings.specs.Instants.{horizon}
use Rattle.num.specs.Marks.{mark, later, alone, all_apart, aged, below, pushed}
use Rattle.num.proofs.bits.MarkLaws.{mark-words, mark-past, length-words}
use Rattle.meter.specs.declared.Meter.{Meter}
use Rattle.meter.specs.Meter.{meter_valid}

-- whether a mark is there, with the words 64 marks each
pub record Valid (ws : List ℕ) (n : ℕ) : Type 0 where
  pub in-range : n ≤ horizon
  pub first : (n ≡ 0) ⊎ (mark ws 0 ≡ true)
  pub apart4 : (i e : ℕ) → 0 < e → e < 4 → mark ws i ≡ true → mark ws (i + e) ≡ true → ⊥
  pub from4 : (i : ℕ) → mark ws i ≡ true → i + 4 ≤ n

-- ---- one mark

pub clash : (b : Bool) → b ≡ true → b ≡ false → ⊥
clash b t f = true≢false (sym t ∙ f)

alone-in : (ws : List ℕ) (i e : ℕ) → 0 < e → e < 4 → alone ws i ≡ true → mark ws i ≡ true → mark ws (i + e) ≡ true → ⊥
unfolding alone
alone-in ws i zero p l h a b = absurd (omega arith)
alone-in ws i (suc zero) p l h a b = clash _ h (rw (a, b))
alone-in ws i (suc (suc zero)) p l h a b = clash _ h (rw (a, b) (ap not (or-true (mark ws (i + 1)))))
alone-in ws i (suc (suc (suc zero))) p l h a b = clash _ h (rw (a, b, or-true (mark ws (i + 2))) (ap not (or-true (mark ws (i + 1)))))
alone-in ws i (suc (suc (suc (suc e)))) p l h a b = absurd (omega arith)

alone-out : (ws : List ℕ) (i : ℕ) → ((e : ℕ) → 0 < e → e < 4 → mark ws i ≡ true → mark ws (i + e) ≡ true → ⊥) → alone ws i ≡ true
unfolding alone
alone-out ws i h =
    go (mark ws i) (mark ws (i + 1)) (mark ws (i + 2)) (mark ws (i + 3)) (h 1 (omega arith) (omega arith)) (h 2 (omega arith) (omega arith)) (h 3 (omega arith) (omega arith))
  where
    go : (m a b c : Bool) → (m ≡ true → a ≡ true → ⊥) → (m ≡ true → b ≡ true → ⊥) → (m ≡ true → c ≡ true → ⊥) → not (m && (a || (b || c))) ≡ true
    go false a b c p q r = refl
    go true true b c p q r = absurd (p refl refl)
    go true false true c p q r = absurd (q refl refl)
    go true false false true p q r = absurd (r refl refl)
    go true false false false p q r = refl

aged-in : (ws : List ℕ) (n i : ℕ) → aged ws n i ≡ true → mark ws i ≡ true → i < n
unfolding aged
aged-in ws n i h a = ltb-true i n (rw a at h)

aged-out : (ws : List ℕ) (n i : ℕ) → (mark ws i ≡ true → i < n) → aged ws n i ≡ true
unfolding aged
aged-out ws n i h = go (mark ws i) h
  where
    go : (m : Bool) → (m ≡ true → i < n) → (not m || ltb i n) ≡ true
    go true h = lt-ltb i n (h refl)
    go false h = refl

-- there is no mark past the last word
in_words : (ws : List ℕ) (i : ℕ) → length ws ≡ 16 → mark ws i ≡ true → i < 1024
in_words ws i l h = go (ltb i 1024) refl
  where
    go : (b : Bool) → ltb i 1024 ≡ b → i < 1024
    go true e = ltb-true i 1024 e
    go false e = absurd (clash (mark ws i) h (mark-past ws i (omega (arith, ltb-false))))

-- ---- all of them

either-in : (a b : Bool) → (a || b) ≡ true → (a ≡ true) ⊎ (b ≡ true)
either-in true b h = inl refl
either-in false b h = inr h

pub valid-in : (m : Meter) → length m.marks ≡ 16 → meter_valid m ≡ true → Valid m.marks m.newest
unfolding meter_valid all_apart below
valid-in m l h =
    let ws = m.marks in
    let n = m.newest in
    let p = (and-eq-true_iff (leb n horizon) ((eqb n 0 || mark ws 0) && (all_apart ws && below ws (n - 3)))).0 h in
    let q = (and-eq-true_iff (eqb n 0 || mark ws 0) (all_apart ws && below ws (n - 3))).0 p.1 in
    let r = (and-eq-true_iff (all_apart ws) (below ws (n - 3))).0 q.1 in
    record {
      in-range = leb-true n horizon p.0;
      first = ⊎_elim (λ e. inl (eqb-true n 0 e)) (λ e. inr e) (either-in (eqb n 0) (mark ws 0) q.0);
      apart4 = λ i e a b x y. alone-in ws i e a b (all-at (alone ws) 1024 i r.0 (in_words ws i l x)) x y;
      from4 = λ i x. let d = aged-in ws (n - 3) i (all-at (aged ws (n - 3)) 1024 i r.1 (in_words ws i l x)) x in omega arith;
    }

pub valid-out : (m : Meter) → Valid m.marks m.newest → meter_valid m ≡ true
unfolding meter_valid all_apart below
valid-out m v =
    let ws = m.marks in
    let n = m.newest in
    let f : (eqb n 0 || mark ws 0) ≡ true = ⊎_elim (λ e. rw (eq-eqb n 0 e)) (λ e. rw e (or-true (eqb n 0))) v.first in
    let a : all_up_to (alone ws) 1024 ≡ true = all-intro (alone ws) 1024 (λ i h. alone-out ws i (λ e p q x y. v.apart4 i e p q x y)) in
    let b : all_up_to (aged ws (n - 3)) 1024 ≡ true = all-intro (aged ws (n - 3)) 1024 (λ i h. aged-out ws (n - 3) i (λ x. let g = v.from4 i x in omega arith)) in
    rw (le-leb n horizon v.in-range, f, a, b)

-- ---- after an instant that is accepted

-- the marks of `pushed`
pub mark-pushed : (ws : List ℕ) (d i : ℕ) → i < 1024 → mark (pushed ws d) i ≡ (eqb i 0 || later (mark ws) d i)
unfolding pushed
mark-pushed ws d i h = mark-words (λ i. eqb i 0 || later (mark ws) d i) 16 i (omega arith)

pub length-pushed : (ws : List ℕ) (d : ℕ) → length (pushed ws d) ≡ 16
unfolding pushed
length-pushed ws d = length-words (λ i. eqb i 0 || later (mark ws) d i) 16

-- a mark that is there is the new one, or an old one d before it
old-or-new : (ws : List ℕ) (d i : ℕ) → mark (pushed ws d) i ≡ true → (i ≡ 0) ⊎ ((d ≤ i) × (mark ws (i - d) ≡ true))
old-or-new ws d i h =
    ⊎_elim (λ e. inl (eqb-true i 0 e))
    (λ e. let p = (and-eq-true_iff (leb d i) (mark ws (i - d))).0 e in inr (leb-true d i p.0, p.1))
    (either-in (eqb i 0) (later (mark ws) d i) (sym (mark-pushed ws d i (in_words (pushed ws d) i (length-pushed ws d) h)) ∙ h))

pub valid-pushed : (ws : List ℕ) (n at : ℕ) → Valid ws n → n + 4 ≤ at → at ≤ horizon → Valid (pushed ws (at - n)) at
valid-pushed ws n at v l h =
    record {
      in-range = h;
      first = inr (mark-pushed ws (at - n) 0 (omega arith));
      apart4 = λ i e p q x y. pair i e p q (old-or-new ws d i x) (old-or-new ws d (i + e) y);
      from4 = λ i x. old i (old-or-new ws d i x);
    }
  where
    d : ℕ
    d = at - n

    pair : (i e : ℕ) → 0 < e → e < 4 → (i ≡ 0) ⊎ ((d ≤ i) × (mark ws (i - d) ≡ true)) → (i + e ≡ 0) ⊎ ((d ≤ i + e) × (mark ws (i + e - d) ≡ true)) → ⊥
    pair i e p q (inl z) (inl w) = absurd (omega arith)
    pair i e p q (inl z) (inr w) = let k = w.0 in omega arith
    pair i e p q (inr z) (inl w) = absurd (omega arith)
    pair i e p q (inr z) (inr w) = let k = z.0 in let s : i + e - d ≡ i - d + e = omega arith in v.apart4 (i - d) e p q z.1 (rw s at w.1)

    old : (i : ℕ) → (i ≡ 0) ⊎ ((d ≤ i) × (mark ws (i - d) ≡ true)) → i + 4 ≤ at
    old i (inl z) = omega arith
    old i (inr z) = let k = z.0 in let g = v.from4 (i - d) z.1 in omega arith
