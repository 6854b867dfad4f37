-- Which banks are near a bank: itself and at most two beside it, by the settings. The first laws alone know the relation. Then what
-- all 32 banks ask is what these three ask.
-- Assumes nothing.
use Rattle.std.specs.Prelude.{Some}
use Prim.Native.Nat.{ℕ, ◌+◌, ◌-◌, ◌*◌, ◌/◌, ◌%◌, ◌^◌, ◌≤◌, ◌<◌, max}
use mathlib.Core.Path.{◌≡◌, refl, sym, ◌∙◌, ap}
use mathlib.Core.Bool.{Bool, true, false, not, ◌&&◌, ◌||◌, cond, and-eq-true_iff}
use mathlib.Core.Logic.{◌⊎◌, ⊎_elim, inl, inr}
use native.Mathlib.Nat.{le_antisymm}
use native.Mathlib.Omega.{arith}
use borrow.Author.Tests.{eq-eqb, ne_eqb, eqb-true, eqb-false, ltb-true, ltb-false, leb-true, le-leb}
use lib.Dec.{eqb, leb, ltb, leb-zero}
use Rattle.num.specs.Search.{all_up_to}
use Rattle.num.proofs.SearchLaws.{all-at, all-intro}
use Rattle.settings.specs.declared.Settings.{Settings}
use Rattle.spec_rules.specs.Neighbour.{run_of, in_runs, context_of, near}
use Rattle.spec_rules.specs.History.{only}
use Rattle.spec_rules.specs.Checks.{since, asks, max_up_to}
use Rattle.spec_rules.proofs.Bools.{iff-eq, and_left, and_right, all-ext, leb-max, leb-max_up_to}
use Rattle.chan_view.specs.Form.Beside.{is_first, low_of, high_of, first_near, last_near}
use Rattle.chan_view.specs.Form.Bounds.{three}

-- ---- tests

pub or_cases : (a b : Bool) → (a || b) ≡ true → (a ≡ true) ⊎ (b ≡ true)
or_cases true b e = inl refl
or_cases false b e = inr e

pub or_left : (a b : Bool) → a ≡ true → (a || b) ≡ true
or_left a b e = rw e

pub or_right : (a b : Bool) → b ≡ true → (a || b) ≡ true
or_right true b e = refl
or_right false b e = e

-- ---- the banks that are near

-- bank x is b or beside it
pub data Beside (s : Settings) (b x : ℕ) : Type 0 where
  own : x ≡ b → Beside s b x
  low : x ≡ low_of s b → Beside s b x
  high : x ≡ high_of s b → Beside s b x

-- the bank below, and the first of b and its neighbours
pub data Below (s : Settings) (b : ℕ) : Type 0 where
  no-low : low_of s b ≡ 32 → first_near s b ≡ b → Below s b
  one-low : low_of s b + 1 ≡ b → first_near s b ≡ low_of s b → Below s b

-- the bank above, and the last
pub data Above (s : Settings) (b : ℕ) : Type 0 where
  no-high : high_of s b ≡ 32 → last_near s b ≡ b → Above s b
  one-high : high_of s b ≡ b + 1 → last_near s b ≡ high_of s b → Above s b

-- ---- runs

-- what holds of runs of 16, 32 and 1 banks holds of every core form's
by-run : (P : ℕ → Type 0) → P 16 → P 32 → P 1 → (core : ℕ) → P (run_of core)
unfolding run_of
by-run P halves whole single core = go (eqb core 0) (eqb core 1)
  where
    go : (a c : Bool) → P (cond a 16 (cond c 32 1))
    go true c = halves
    go false true = whole
    go false false = single

-- a bank is in the run of the one before it where it is not the first of its own
next-in : (core x : ℕ) → (((x + 1) % run_of core ≡ 0 → ⊥) → x / run_of core ≡ (x + 1) / run_of core) × (x / run_of core ≡ (x + 1) / run_of core → (x + 1) % run_of core ≡ 0 → ⊥)
next-in core x =
    by-run (λ w. (((x + 1) % w ≡ 0 → ⊥) → x / w ≡ (x + 1) / w) × (x / w ≡ (x + 1) / w → (x + 1) % w ≡ 0 → ⊥))
    (λ n. omega arith, λ e z. omega arith) (λ n. omega arith, λ e z. omega arith) (λ n. omega arith, λ e z. omega arith) core

-- a number whose low bits are cleared stays as it is where it is the first of a run
pub cleared-bits : (core x : ℕ) → x < 2 ^ 64 → eqb (x / run_of core * run_of core % 2 ^ 64) x ≡ is_first core x
cleared-bits core x h =
    by-run (λ w. eqb (x / w * w % 2 ^ 64) x ≡ eqb (x % w) 0) (width 16 (λ q. omega arith) (λ q. omega arith)) (width 32 (λ q. omega arith) (λ q. omega arith)) (width 1 (λ q. omega arith) (λ q. omega arith)) core
  where
    width : (w : ℕ) → (x / w * w % 2 ^ 64 ≡ x → x % w ≡ 0) → (x % w ≡ 0 → x / w * w % 2 ^ 64 ≡ x) → eqb (x / w * w % 2 ^ 64) x ≡ eqb (x % w) 0
    width w f g = iff-eq _ _ (λ e. eq-eqb (x % w) 0 (f (eqb-true (x / w * w % 2 ^ 64) x e))) (λ e. eq-eqb (x / w * w % 2 ^ 64) x (g (eqb-true (x % w) 0 e)))

-- bank 0 is the first of its run
pub not_first : (core b : ℕ) → is_first core b ≡ false → 1 ≤ b
not_first core b =
    by-run (λ w. eqb (b % w) 0 ≡ false → 1 ≤ b)
    (λ e. omega (arith, eqb-false (b % 16) 0 e)) (λ e. omega (arith, eqb-false (b % 32) 0 e)) (λ e. omega (arith, eqb-false (b % 1) 0 e)) core

-- a run ends at bank 31, and at each number of which 32 is a part
pub not_last : (core b : ℕ) → is_first core (b + 1) ≡ false → b % 32 < 31
not_last core b =
    by-run (λ w. eqb ((b + 1) % w) 0 ≡ false → b % 32 < 31)
    (λ e. omega (arith, eqb-false ((b + 1) % 16) 0 e)) (λ e. omega (arith, eqb-false ((b + 1) % 32) 0 e)) (λ e. omega (arith, eqb-false ((b + 1) % 1) 0 e)) core

module _ (s : Settings) (b : ℕ) where
  abbrev run : ℕ
  run = run_of s.core

  pub below : Below s b
  unfolding low_of first_near
  below = go (is_first s.core b) refl
    where
      go : (t : Bool) → is_first s.core b ≡ t → Below s b
      go true e = no-low (rw e) (rw e)
      go false e = one-low (rw e (omega (arith, not_first s.core b e))) (rw e)

  pub above : Above s b
  unfolding high_of last_near
  above = go (is_first s.core (b + 1)) refl
    where
      go : (t : Bool) → is_first s.core (b + 1) ≡ t → Above s b
      go true e = no-high (rw e) (rw e)
      go false e = one-high (rw e) (rw e)

  beside-run : (x : ℕ) → (b + 1 ≡ x) ⊎ (x + 1 ≡ b) → b / run ≡ x / run → Beside s b x
  unfolding low_of high_of
  beside-run x e h =
      ⊎_elim
      (λ p. high (rw (ne_eqb ((b + 1) % run) 0 ((next-in s.core b).1 (h ∙ ap (λ (y : ℕ). y / run) (sym p)))) (sym p)))
      (λ p. low (rw (ne_eqb (b % run) 0 (λ z. (next-in s.core x).1 (sym h ∙ ap (λ (y : ℕ). y / run) (sym p)) (ap (λ (y : ℕ). y % run) p ∙ z))) (omega arith)))
      e

  -- a near bank is one of the three
  pub near-beside : (x : ℕ) → near (context_of s) b x ≡ true → Beside s b x
  unfolding context_of in_runs
  near-beside x e = ⊎_elim (λ p. own (eqb-true x b p)) (λ p. apart ((and-eq-true_iff (eqb (b + 1) x || eqb (x + 1) b) (eqb (b / run) (x / run))).0 p)) (or_cases (eqb x b) _ e)
    where
      apart : ((eqb (b + 1) x || eqb (x + 1) b) ≡ true) × (eqb (b / run) (x / run) ≡ true) → Beside s b x
      apart q = beside-run x (⊎_elim (λ p. inl (eqb-true (b + 1) x p)) (λ p. inr (eqb-true (x + 1) b p)) (or_cases (eqb (b + 1) x) (eqb (x + 1) b) q.0)) (eqb-true (b / run) (x / run) q.1)

  -- and each of the three is near where it is a bank
  pub near-own : near (context_of s) b b ≡ true
  near-own = or_left (eqb b b) _ (eq-eqb b b refl)

  near-run : (x : ℕ) → (b + 1 ≡ x) ⊎ (x + 1 ≡ b) → b / run ≡ x / run → near (context_of s) b x ≡ true
  unfolding context_of in_runs
  near-run x e h =
      or_right (eqb x b) _
      ((and-eq-true_iff (eqb (b + 1) x || eqb (x + 1) b) (eqb (b / run) (x / run))).1 (
        ⊎_elim (λ p. or_left (eqb (b + 1) x) (eqb (x + 1) b) (eq-eqb (b + 1) x p)) (λ p. or_right (eqb (b + 1) x) (eqb (x + 1) b) (eq-eqb (x + 1) b p)) e,
        eq-eqb (b / run) (x / run) h,
      ))

  pub near-low : low_of s b < 32 → near (context_of s) b (low_of s b) ≡ true
  unfolding low_of
  near-low h = go (is_first s.core b) refl h
    where
      go : (t : Bool) → is_first s.core b ≡ t → cond t 32 (b - 1) < 32 → near (context_of s) b (cond t 32 (b - 1)) ≡ true
      go true e h = absurd (omega arith)
      go false e h =
          let p : b - 1 + 1 ≡ b = omega (arith, not_first s.core b e) in
          near-run (b - 1) (inr p) (sym (rw p at ((next-in s.core (b - 1)).0 (rw p (eqb-false (b % run) 0 e)))))

  pub near-high : high_of s b < 32 → near (context_of s) b (high_of s b) ≡ true
  unfolding high_of
  near-high h = go (is_first s.core (b + 1)) refl h
    where
      go : (t : Bool) → is_first s.core (b + 1) ≡ t → cond t 32 (b + 1) < 32 → near (context_of s) b (cond t 32 (b + 1)) ≡ true
      go true e h = absurd (omega arith)
      go false e h = near-run (b + 1) (inl refl) ((next-in s.core b).0 (eqb-false ((b + 1) % run) 0 e))

-- ---- a test on the near banks, and on the bank itself; a number that is no bank passes

module _ (p : ℕ → Bool) (past : (x : ℕ) → 32 ≤ x → p x ≡ true) where
  -- the banks that a test picks are y or do not ask
  passes : (pick : ℕ → Bool) (y : ℕ) → (y < 32 → pick y ≡ true) → all_up_to (λ x. not (pick x) || p x) 32 ≡ true → p y ≡ true
  passes pick y n e = go (ltb y 32) refl
    where
      in-range : y < 32 → p y ≡ true
      in-range h = rw (n h) at (all-at (λ x. not (pick x) || p x) 32 y e h)

      go : (t : Bool) → ltb y 32 ≡ t → p y ≡ true
      go true q = in-range (ltb-true y 32 q)
      go false q = past y (ltb-false y 32 q)

  all_pass : (pick : ℕ → Bool) → ((x : ℕ) → pick x ≡ true → p x ≡ true) → all_up_to (λ x. not (pick x) || p x) 32 ≡ true
  all_pass pick h = all-intro (λ x. not (pick x) || p x) 32 (λ x l. go x (pick x) refl)
    where
      go : (x : ℕ) (t : Bool) → pick x ≡ t → (not (pick x) || p x) ≡ true
      go x true q = rw q (h x q)
      go x false q = rw q

  pub near-all : (s : Settings) (b : ℕ) → all_up_to (λ x. not (near (context_of s) b x) || p x) 32 ≡ (p b && (p (low_of s b) && p (high_of s b)))
  near-all s b =
      iff-eq _ _ (λ e. rw (passes (near (context_of s) b) b (λ h. near-own s b) e, passes (near (context_of s) b) (low_of s b) (near-low s b) e, passes (near (context_of s) b) (high_of s b) (near-high s b) e))
      (λ e. all_pass (near (context_of s) b) (λ x q. at-bank e x (near-beside s b x q)))
    where
      at-bank : (p b && (p (low_of s b) && p (high_of s b))) ≡ true → (x : ℕ) → Beside s b x → p x ≡ true
      at-bank e x (own q) = rw q (and_left (p b) _ e)
      at-bank e x (low q) = rw q (and_left (p (low_of s b)) _ (and_right (p b) _ e))
      at-bank e x (high q) = rw q (and_right (p (low_of s b)) _ (and_right (p b) _ e))

  pub same-all : (b : ℕ) → all_up_to (λ x. not (eqb x b) || p x) 32 ≡ p b
  same-all b = iff-eq _ _ (passes (λ x. eqb x b) b (λ h. eq-eqb b b refl)) (λ e. all_pass (λ x. eqb x b) (λ x q. rw (eqb-true x b q) e))

-- ---- the largest over the near banks

same-bound : (a b : ℕ) → ((t : ℕ) → leb a t ≡ leb b t) → a ≡ b
same-bound a b h = le_antisymm (leb-true a b (h b ∙ le-leb b b (omega arith))) (leb-true b a (sym (h a) ∙ le-leb a a (omega arith)))

module _ (g : ℕ) (last : ℕ → ℕ) (none-past : (x : ℕ) → 32 ≤ x → last x ≡ 0) where
  abbrev kept : ℕ → ℕ → Bool
  kept t x = leb (since (last x) g) t

  kept-past : (t x : ℕ) → 32 ≤ x → kept t x ≡ true
  kept-past t x h = rw (none-past x h) (leb-zero t)

  -- a bound over the banks that a test picks is a test of each
  asks-all : (pick : ℕ → Bool) (t : ℕ) → leb (max_up_to (λ x. asks (only (pick x) (Some g)) (last x)) 32) t ≡ all_up_to (λ x. not (pick x) || kept t x) 32
  asks-all pick t = leb-max_up_to _ 32 t ∙ all-ext _ _ 32 (λ x l. go (pick x) (last x))
    where
      go : (c : Bool) (l : ℕ) → leb (asks (only c (Some g)) l) t ≡ (not c || leb (since l g) t)
      go true l = refl
      go false l = leb-zero t

  pub near-max : (s : Settings) (b : ℕ) → max_up_to (λ x. asks (only (near (context_of s) b x) (Some g)) (last x)) 32 ≡ three (last b) (last (low_of s b)) (last (high_of s b)) g
  near-max s b = same-bound _ _ (λ t. asks-all (near (context_of s) b) t ∙ near-all (kept t) (kept-past t) s b ∙ parts t)
    where
      regroup : (x y z : Bool) → (x && (y && z)) ≡ ((x && y) && z)
      regroup true y z = refl
      regroup false y z = refl

      parts : (t : ℕ) → (kept t b && (kept t (low_of s b) && kept t (high_of s b))) ≡ leb (three (last b) (last (low_of s b)) (last (high_of s b)) g) t
      parts t =
          regroup (kept t b) (kept t (low_of s b)) (kept t (high_of s b))
          ∙ sym (leb-max (max (since (last b) g) (since (last (low_of s b)) g)) (since (last (high_of s b)) g) t
          ∙ ap (λ (c : Bool). c && kept t (high_of s b)) (leb-max (since (last b) g) (since (last (low_of s b)) g) t))

  pub same-max : (b : ℕ) → max_up_to (λ x. asks (only (eqb x b) (Some g)) (last x)) 32 ≡ since (last b) g
  same-max b = same-bound _ _ (λ t. asks-all (λ x. eqb x b) t ∙ same-all (kept t) (kept-past t) b)
