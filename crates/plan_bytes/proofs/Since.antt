-- A distance after an instant or none, and the largest of such numbers over the banks.
-- Assumes nothing.
use Prim.Native.Nat.{ℕ, zero, suc, ◌+◌, ◌<◌, ◌≤◌, max}
use mathlib.Core.Path.{◌≡◌, refl, sym}
use native.Mathlib.Omega.{arith}
use borrow.Author.Tests.{ne_eqb}
use Rattle.spec_rules.specs.Checks.{since, max_up_to}
use Rattle.chan_view.proofs.BoundLaws.{since-max}

-- a claim of none, and of an instant
pub either-instant : (P : ℕ → Type 0) (n : ℕ) → P 0 → (1 ≤ n → P n) → P n
either-instant P zero f g = f
either-instant P (suc n) f g = g (omega arith)

pub since-some : (n g : ℕ) → 1 ≤ n → since n g ≡ n + g
since-some n g l = rw (ne_eqb n 0 (λ e. omega arith))

pub since_none : (n : ℕ) → since n 0 ≡ n
since_none n = either-instant (λ n. since n 0 ≡ n) n refl (λ l. rw (since-some n 0 l) (omega arith))

pub since-top : (t g top : ℕ) → t ≤ top → g ≤ 64 → since t g ≤ top + 64
since-top t g top h k = either-instant (λ t. t ≤ top → since t g ≤ top + 64) t (λ h. omega arith) (λ l h. omega (arith, since-some t g l)) h

-- the longer of two distances asks more
pub since-more : (a g h : ℕ) → g ≤ h → max (since a h) (since a g) ≡ since a h
since-more a g h l = either-instant (λ a. max (since a h) (since a g) ≡ since a h) a refl (λ m. rw (since-some a h m, since-some a g m) (omega arith))

-- ---- the largest over all banks

pub max-ext : (f g : ℕ → ℕ) (n : ℕ) → ((y : ℕ) → y < n → f y ≡ g y) → max_up_to f n ≡ max_up_to g n
unfolding max_up_to
max-ext f g zero h = refl
max-ext f g (suc n) h = rw (max-ext f g n (λ y l. h y (omega arith)), h n (omega arith))

pub max-since : (f : ℕ → ℕ) (g n : ℕ) → max_up_to (λ y. since (f y) g) n ≡ since (max_up_to f n) g
unfolding max_up_to
max-since f g zero = refl
max-since f g (suc n) = rw (max-since f g n) (sym (since-max (max_up_to f n) (f n) g))

pub max-top : (f : ℕ → ℕ) (n top : ℕ) → ((y : ℕ) → y < n → f y ≤ top) → max_up_to f n ≤ top
unfolding max_up_to
max-top f zero top h = omega arith
max-top f (suc n) top h = omega (arith, max-top f n top (λ y l. h y (omega arith)), h n (omega arith))

pub max-both : (f g : ℕ → ℕ) (n : ℕ) → max_up_to (λ y. max (f y) (g y)) n ≡ max (max_up_to f n) (max_up_to g n)
unfolding max_up_to
max-both f g zero = refl
max-both f g (suc n) = rw (max-both f g n) (swap (max_up_to f n) (max_up_to g n) (f n) (g n))
  where
    swap : (a c d e : ℕ) → max (max a c) (max d e) ≡ max (max a d) (max c e)
    swap a c d e = omega arith
