-- How a walk is known to have stopped where it did.
-- Assumes nothing.
use Prim.Native.Nat.{ℕ, ◌<◌}
use mathlib.Core.Path.{◌≡◌, sym, ◌∙◌}
use mathlib.Core.Bool.{Bool, true, false, ◌&&◌}
use mathlib.Core.List.{List}
use native.Mathlib.Omega.{arith}
use borrow.Author.Tests.{ne_eqb, lt-ltb, le-ltb}
use lib.Dec.{eqb}
use Rattle.num.proofs.SearchLaws.{first-at, first-none}
use Rattle.spec_rules.specs.Neighbour.{Context}
use Rattle.check_walk.specs.Form.Walk.{formed_via, found_via, stop_of}

module _ (cx : Context) (per : ℕ) (b : List ℕ) (n : ℕ) where
  -- record i is one, and breaks no rule
  abbrev pub holds : ℕ → Bool
  holds i = formed_via cx.settings per b i && eqb (found_via cx per b n i) 0

  pub stop-end : ((i : ℕ) → i < n → holds i ≡ true) → record { at = n; rule = 0 } ≡ stop_of cx per b n
  unfolding stop_of
  stop-end f = rw (first-none holds n f, le-ltb n n (omega arith))

  pub stop-bad : (i : ℕ) → ((j : ℕ) → j < i → holds j ≡ true) → i < n → formed_via cx.settings per b i ≡ false → record { at = i; rule = 0 } ≡ stop_of cx per b n
  unfolding stop_of
  stop-bad i f h q = rw (first-at holds n i f h (rw q), q, lt-ltb i n h)

  pub stop-broken : (i m : ℕ) → ((j : ℕ) → j < i → holds j ≡ true) → i < n → formed_via cx.settings per b i ≡ true → found_via cx per b n i ≡ m → (m ≡ 0 → ⊥)
      → record { at = i; rule = m } ≡ stop_of cx per b n
  unfolding stop_of
  stop-broken i m f h q e z = rw (first-at holds n i f h (rw (q, ne_eqb _ 0 (λ y. z (sym e ∙ y)))), q, lt-ltb i n h, e)
