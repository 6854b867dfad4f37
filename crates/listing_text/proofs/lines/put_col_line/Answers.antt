-- `put_col_line` meets its contract: each arm is the line of its packet.
use Prim.Native.Nat.{ℕ}
use mathlib.Core.Path.{◌≡◌, refl, sym}
use mathlib.Core.Bool.{Bool, true, false, cond}
use mathlib.Core.List.{[], ◌∷◌}
use native.Mathlib.Omega.{arith}
use lib.ListN.{take}
use lib.Seq.{length-take-le}
use Rattle.listing_text.specs.Text.{codes, col_line}
use borrow.Author.Rules.{rules}
use Rattle.listing_text.proofs.lines.put_col_line.Goals as goal

-- the name without its third letter where the bank stays open
named : (x y z : ℕ) (close : Bool) → take (cond close 3 2) (x ∷ y ∷ z ∷ []) ≡ cond close (x ∷ y ∷ z ∷ []) (x ∷ y ∷ [])
named x y z true = refl
named x y z false = refl

pub slice_bounds-put_line-end-in-Wr : goal.slice_bounds-put_line-end-in-Wr
slice_bounds-put_line-end-in-Wr c = sym (length-take-le c.letters-n.result _ c.letters-n.ensures.1)

pub slice_bounds-put_line-end-in-Rd : goal.slice_bounds-put_line-end-in-Rd
slice_bounds-put_line-end-in-Rd c = sym (length-take-le c.letters-n-in-Rd.result _ c.letters-n-in-Rd.ensures.1)

pub put_line-requires-in-Wr : goal.put_line-requires-in-Wr
put_line-requires-in-Wr c = (search rules, rw (length-take-le c.letters-n.result _ c.letters-n.ensures.1) (omega arith))

pub put_line-requires-in-Rd : goal.put_line-requires-in-Rd
put_line-requires-in-Rd c = (search rules, rw (length-take-le c.letters-n-in-Rd.result _ c.letters-n-in-Rd.ensures.1) (omega arith))

pub returns-in-Nocop : goal.returns-in-Nocop
unfolding col_line codes
returns-in-Nocop c = rw c.in-Nocop.is c.put_line.ensures

pub returns-in-Wr : goal.returns-in-Wr
unfolding col_line codes
returns-in-Wr c =
    rw c.in-Wr.is
    (rw (c.letters-n.ensures.0, named _ _ _ _) at c.put_line-in-Wr.ensures)

pub returns-in-Rd : goal.returns-in-Rd
unfolding col_line codes
returns-in-Rd c =
    rw c.in-Rd.is
    (rw (c.letters-n-in-Rd.ensures.0, named _ _ _ _) at c.put_line-in-Rd.ensures)
