-- The relation of each settings has what laws use of a relation; "same or neighbour" is symmetric for every such relation.
-- Assumes nothing.
use Prim.Native.Nat.{ℕ, ◌+◌, ◌/◌}
use mathlib.Core.Path.{◌≡◌}
use mathlib.Core.Bool.{or_comm}
use lib.Dec.{eqb}
use borrow.Author.Tests.{ne_eqb}
use native.Mathlib.Omega.{arith}
use Rattle.settings.specs.declared.Settings.{Settings}
use Rattle.spec_rules.specs.Neighbour.{Context, Neighbours, run_of, in_runs, context_of, near}
use Rattle.spec_rules.proofs.Bools.{eqb-sym}

pub core-neighbours : (s : Settings) → Neighbours (context_of s)
unfolding in_runs context_of
core-neighbours s =
    record {
      symmetric = λ x y. rw (or_comm (eqb (x + 1) y) (eqb (y + 1) x), eqb-sym (x / run_of s.core) (y / run_of s.core));
      irreflexive = λ x. rw (ne_eqb (x + 1) x (λ q. omega arith));
    }

pub near-sym : (cx : Context) → Neighbours cx → (x y : ℕ) → near cx x y ≡ near cx y x
near-sym cx ns x y = rw (eqb-sym y x, ns.symmetric x y)
