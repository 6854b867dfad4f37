-- `model_next::cols::put_left` meets its contract: by whether the older write leaves.
use Prim.Native.Nat.{ℕ}
use mathlib.Core.Path.{◌≡◌, refl, sym, ◌∙◌}
use mathlib.Core.Bool.{true, false, not}
use mathlib.Core.List.{List}
use native.Mathlib.Omega.{arith}
use borrow.Author.Tests.{eqb-false}
use lib.Dec.{eqb}
use lib.ListN.{get_or}
use Rattle.settings.specs.declared.Settings.{Settings}
use Rattle.spec_rules.proofs.Bools.{and_left, not-passes}
use Rattle.model_next.specs.Form.Next.{leaves_at, left_next, left_count}
use Rattle.model_next.proofs.cols.put_left.Goals as goal

waiting : (s : Settings) (b : List ℕ) (t : ℕ) → leaves_at s b t ≡ true → eqb (get_or b 728 0) 0 ≡ false
unfolding leaves_at
waiting s b t h = not-passes (not (eqb (get_or b 728 0) 0)) (eqb (get_or b 728 0) 0) refl (and_left (not (eqb (get_or b 728 0) 0)) _ h)

pub returns-then-not-leaves_at : goal.returns-then-not-leaves_at
unfolding left_next left_count
returns-then-not-leaves_at c =
    let h = sym c.leaves_at.ensures ∙ c.if-not-leaves_at.true in
    record {
      value = rw (h, c.from-count.ensures);
      b_after = rw h;
    }

pub put_out-requires : goal.put_out-requires
put_out-requires c =
    let h = waiting c.args.s c.args.b.now c.args.t (sym c.leaves_at.ensures ∙ c.if-not-leaves_at.false) in
    let n = c.from-count.ensures in
    record {
      b_bound = c.requires.held_in h;
      le_count = omega (arith, n, eqb-false (get_or c.args.b.now 728 0) 0 h);
      count_value = n;
      t_bound = c.requires.t_bound;
    }

pub overflow_sub-result : goal.overflow_sub-result
overflow_sub-result c =
    let h = waiting c.args.s c.args.b.now c.args.t (sym c.leaves_at.ensures ∙ c.if-not-leaves_at.false) in
    omega (arith, c.from-count.ensures, eqb-false (get_or c.args.b.now 728 0) 0 h)

pub returns : goal.returns
unfolding left_next left_count
returns c =
    let h = sym c.leaves_at.ensures ∙ c.if-not-leaves_at.false in
    record {
      value = rw (h, c.from-count.ensures);
      b_after = rw (h, c.put_out.ensures);
    }
