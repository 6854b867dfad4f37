-- Laws of the kinds of a request: kinds 6 and 7 are a read and a write that close their bank.
-- Assumes nothing.
use Rattle.std.specs.Prelude.{Ok}
use Rattle.std.proofs.Common.{◌≡◌, ℕ, ◌≤◌, Bool, true, false, ◌||◌, eqb, List, length, sym, refl, arith, lt-ltb, eq-eqb, eqb-true}
use mathlib.Core.Bool.{or-true, false≢true}
use Rattle.num.specs.Bytes.{number, part}
use Rattle.settings.specs.declared.Settings.{Settings}
use Rattle.record.specs.declared.Request.TheVariants.{Read, Write}
use Rattle.record.specs.Request.{kind_of, place_of, placed, spare_right, request_of, request_read}
use Rattle.record.proofs.RequestLaws.{InPlace, data_of}

-- a kind that is neither of two
neither : (k m n : ℕ) → (eqb k m || eqb k n) ≡ false → (k ≡ m → ⊥) × (k ≡ n → ⊥)
neither k m n h = (λ e. false≢true (sym (rw (eq-eqb k m e) at h)), λ e. false≢true (sym (rw (eq-eqb k n e, or-true) at h)))

-- a kind that is one of two
either-kind : (A : Type 0) (k m n : ℕ) → (eqb k m || eqb k n) ≡ true → (k ≡ m → A) → (k ≡ n → A) → A
either-kind A k m n h f g = go (eqb k m) refl
  where
    go : (t : Bool) → eqb k m ≡ t → A
    go true e = f (eqb-true k m e)
    go false e = g (eqb-true k n (rw e at h))

-- kinds 0 and 6
pub read-kinds : (s : Settings) (b : List ℕ) → (eqb (kind_of b) 0 || eqb (kind_of b) 6) ≡ true
    → placed s (place_of b) (Read (place_of b) (eqb (kind_of b) 6)) ≡ request_of s b
unfolding request_of
read-kinds s b h = either-kind _ (kind_of b) 0 6 h (λ e. rw e) (λ e. rw e)

-- kinds 1 and 7
pub write-kinds : (s : Settings) (b : List ℕ) → (eqb (kind_of b) 1 || eqb (kind_of b) 7) ≡ true
    → placed s (place_of b) (Write (place_of b) (number (part b 6 2)) (data_of b) (eqb (kind_of b) 7)) ≡ request_of s b
unfolding request_of
write-kinds s b h = either-kind _ (kind_of b) 1 7 h (λ e. rw e) (λ e. rw e)

-- a kind with no place
no_access : (k : ℕ) → k ≤ 7 → (eqb k 0 || eqb k 6) ≡ false → (eqb k 1 || eqb k 7) ≡ false → (2 ≤ k) × (k ≤ 5)
no_access k l r w =
    let x = neither k 0 6 r in
    let y = neither k 1 7 w in
    (omega (arith, x.0, y.0), omega (arith, x.1, y.1))

-- the kind that no test named is close
pub last-kind : (k : ℕ) → k ≤ 7 → (eqb k 0 || eqb k 6) ≡ false → (eqb k 1 || eqb k 7) ≡ false → (k ≡ 2 → ⊥) → (k ≡ 3 → ⊥) → (k ≡ 4 → ⊥) → k ≡ 5
last-kind k l r w refresh wait flush = let n = no_access k l r w in omega (arith, refresh, wait, flush)

-- a read in range that leaves its bank open
pub plain-says : (s : Settings) (b : List ℕ) → length b ≡ 24 → kind_of b ≡ 0 → spare_right b ≡ true → InPlace s (place_of b) → request_read s b ≡ Ok (Read (place_of b) false)
unfolding request_read request_of placed
plain-says s b n k h i = rw (eq-eqb (length b) 24 n, k, h, lt-ltb _ _ i.0, lt-ltb _ _ i.1, lt-ltb _ _ i.2)
