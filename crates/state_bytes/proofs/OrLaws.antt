-- Numbers or-ed: none of them is above that.
-- Assumes nothing.
use Prim.Native.Nat.{ℕ, ◌+◌, ◌≤◌, ◌<◌}
use mathlib.Core.Path.{◌≡◌}
use native.Mathlib.Omega.{arith}
use borrow.Author.Count.{below_more}
use lib.Bits.{bit_or, or_add_and, and_le_l, and_le_r}

pub or_left : (a b : ℕ) → a ≤ bit_or a b
or_left a b = omega (arith, or_add_and a b, and_le_r a b)

pub or_right : (a b : ℕ) → b ≤ bit_or a b
or_right a b = omega (arith, or_add_and a b, and_le_l a b)

-- one more
pub or-next : (f : ℕ → ℕ) (i top x : ℕ) → ((k : ℕ) → k < i → f k ≤ top) → x ≡ f i → (k : ℕ) → k < i + 1 → f k ≤ bit_or top x
or-next f i top x h e = below_more _ _ (λ k l. omega (arith, h k l, or_left top x)) (omega (arith, or_right top x))
