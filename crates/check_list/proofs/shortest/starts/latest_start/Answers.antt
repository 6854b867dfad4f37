-- `latest_start` meets its contract. The loop's invariant: no start after i has the property; and where the flag says so, the run after i
-- is refused before record j.
use Prim.Native.Nat.{ℕ, ◌<◌}
use mathlib.Core.Path.{◌≡◌, refl, sym, ap, ◌∙◌}
use mathlib.Core.Bool.{Bool, true, false}
use mathlib.Core.List.{List}
use lib.ListN.{length}
use native.Mathlib.Omega.{arith}
use Rattle.record.specs.declared.Record.{Record}
use Rattle.spec_rules.specs.Neighbour.{Context, context_of}
use Rattle.spec_rules.proofs.Bools.{not-both}
use Rattle.spec_check.specs.Check.{records_of}
use Rattle.spec_check.specs.Shortest.{still_breaks, last_true, shortest_start}
use Rattle.check_list.specs.declared.shortest.Tried.{Tried}
use Rattle.check_list.specs.Form.Tried.{tried_at}
use Rattle.check_list.proofs.shortest.RunLaws.{length-records}
use Rattle.check_list.proofs.shortest.StartLaws.{last-here, turn-tried, turn-skipped}
use Rattle.check_list.proofs.shortest.starts.latest_start.Goals as goal
use Rattle.check_list.proofs.shortest.starts.latest_start.Goals.{then-to_try+else-t, else-to_try}

pub loop-i-init : goal.loop-i-init
unfolding shortest_start
loop-i-init c = (refl, λ e. not-both false e refl)

pub try_from-t-requires : goal.try_from-t-requires
try_from-t-requires c =
    record {
      i_le_j = (c.loop-i.auto.i, c.requires.j_bound);
      list_value = c.requires.list_value;
    }

pub returns-then-t : goal.returns-then-t
unfolding tried_at
returns-then-t c =
    let k = c.loop-i in
    let a = c.args in
    let f : ℕ → Bool = still_breaks (context_of a.s) (records_of a.s a.list.now) a.rule a.j in
    let e : f k.i ≡ true = ap (λ (t : Tried). t.found) (sym c.try_from-t.ensures) ∙ c.if-t.true in
    sym (k.invariant.0 ∙ last-here f k.i (omega arith) e)

pub loop-i-preserved : goal.loop-i-preserved
loop-i-preserved c =
    let k = c.loop-i in
    let a = c.args in
    let cx : Context = context_of a.s in
    let rs : List Record = records_of a.s a.list.now in
    let m : ℕ = shortest_start cx rs a.rule a.j in
    let in_list : a.j < length rs = rw (length-records a.s a.list.now) c.requires.j_bound in
    elim c.if-to_try.branch [
      | then-to_try+else-t w ↦ rw w.early-is (turn-tried cx rs a.rule a.j m k.i k.early w.try_from-t.result c.loop-i-test.true k.invariant w.try_from-t.ensures w.if-t.false)
      | else-to_try w ↦ rw w.early-is (turn-skipped cx rs a.rule a.j m k.i k.early c.loop-i-test.true in_list k.invariant (sym c.to_try.ensures ∙ w.if-to_try.false))
    ]

pub returns : goal.returns
unfolding last_true
returns c =
    let k = c.loop-i in
    let z : k.i ≡ 0 = omega arith in
    sym (k.invariant.0 ∙ rw z refl)
