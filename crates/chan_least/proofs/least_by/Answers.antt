-- `chan_least::least_by` meets its contract: with what leaves, and where nothing does.
use Prim.Native.Nat.{ℕ, max}
use mathlib.Core.Path.{◌≡◌, sym, ◌∙◌}
use native.Mathlib.Omega.{arith}
use Rattle.chan_least.specs.Form.Least.{least_by}
use Rattle.chan_least.proofs.least_by.Goals as goal

max_assoc : (a b c : ℕ) → max (max a b) c ≡ max a (max b c)
max_assoc a b c = omega arith

pub returns-then-leaves_from : goal.returns-then-leaves_from
unfolding least_by
returns-then-leaves_from c =
    let e = rw (
      c.max-free.ensures,
      c.packet_bound.ensures,
      c.max.ensures,
      c.from.ensures,
      max_assoc c.args.now.0 4 _,
    ) at (sym c.leaves_from.ensures ∙ c.if-leaves_from.true) in
    rw (
      c.max-then-leaves_from.ensures,
      c.retire_least.ensures,
      c.max-free.ensures,
      c.packet_bound.ensures,
      c.max.ensures,
      c.from.ensures,
      max_assoc c.args.now.0 4 _,
      e,
    )

pub returns : goal.returns
unfolding least_by
returns c =
    let e = rw (
      c.max-free.ensures,
      c.packet_bound.ensures,
      c.max.ensures,
      c.from.ensures,
      max_assoc c.args.now.0 4 _,
    ) at (sym c.leaves_from.ensures ∙ c.if-leaves_from.false) in
    rw (
      c.max-free.ensures,
      c.packet_bound.ensures,
      c.max.ensures,
      c.from.ensures,
      max_assoc c.args.now.0 4 _,
      e,
    )
