-- A count over 1,024 as a 32-bit float is exact, and is what the machine's cast and division give.
-- Assumes nothing.
use Prim.Native.Nat.{ℕ, suc, ◌*◌, ◌^◌, ◌<◌, ◌≤◌}
use mathlib.Core.Path.{◌≡◌, sym, ap, ◌∙◌}
use mathlib.Core.Bool.{false}
use native.Mathlib.Omega.{arith}
use native.Mathlib.Nat.{mul_assoc, mul_comm, mul-one, mul-pos, lt_of_lt_of_le}
use lib.IntN.{ℤ, pos, negsuc}
use lib.Dec.{lit<, lit≤}
use lib.Pow.{pow_pos, shl_lt}
use lib.Ieee.{Float, nan, inf, fin, binary32, up, down, div, of_int}
use lib.Ieee.Exact.{HasValue, round_exact}
use lib.Ieee.Scale.{round_same}
use Rattle.meter.specs.Share.{share}

-- the float is n / 1024 itself: no digit is lost
pub share-exact : (n : ℕ) → n ≤ 1024 → HasValue (share n) false n 1024
unfolding share
share-exact n h =
    let q : n < 2 ^ 24 = omega arith in
    round_exact binary32 false n 1024 n 139 (lit< tt) q (lt_of_lt_of_le (shl_lt 24 139 q) (lit≤ tt)) (sym (mul_assoc n (2 ^ 139) 1024))

-- what the machine computes, a cast and a division, is that float
int-exact : (n : ℕ) → n ≤ 1024 → HasValue (of_int binary32 (pos n)) false n 1
unfolding of_int
int-exact n h =
    let q : n < 2 ^ 24 = omega arith in
    round_exact binary32 false n 1 n 149 (lit< tt) q (lt_of_lt_of_le (shl_lt 24 149 q) (lit≤ tt)) (sym (mul-one (n * 2 ^ 149)))

down_pos : (e : ℤ) → 0 < down e
down_pos (pos k) = lit< tt
down_pos (negsuc k) = pow_pos (suc k)

over : (x : Float) (n : ℕ) → HasValue x false n 1 → div binary32 x (fin false 1 (pos 10)) ≡ share n
unfolding div share
over nan n v = absurd v
over (inf s) n v = absurd v
over (fin s m e) n v =
    rw v.0
    (round_same binary32 false (m * up e * 1) (1024 * down e) n 1024 (mul-pos (lit< tt) (down_pos e)) (lit< tt)
    (rw v.1 (mul_assoc n (down e) 1024 ∙ ap (λ (x : ℕ). n * x) (mul_comm (down e) 1024))))

pub machine-share : (n : ℕ) → n ≤ 1024 → div binary32 (of_int binary32 (pos n)) (fin false 1 (pos 10)) ≡ share n
machine-share n h = over (of_int binary32 (pos n)) n (int-exact n h)
