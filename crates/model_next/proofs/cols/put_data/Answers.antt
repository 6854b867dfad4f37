-- `model_next::cols::put_data` meets its contract: the count, then the data of the newest write.
use mathlib.Core.Path.{sym, ◌∙◌}
use borrow.Author.Tests.{eq-eqb, ne_eqb}
use lib.ListN.{get_or}
use Rattle.model_next.specs.Form.Next.{data_next}
use Rattle.model_next.proofs.cols.put_data.Goals as goal

pub returns-then-count-eq2 : goal.returns-then-count-eq2
unfolding data_next
returns-then-count-eq2 c =
    let n = c.from-count.ensures in
    rw (eq-eqb (get_or c.args.b.now 728 0) 2 (sym n ∙ c.if-count-eq2.true), c.put_dualoct.ensures, c.store_data.ensures, n)

pub returns-else-count-eq2 : goal.returns-else-count-eq2
unfolding data_next
returns-else-count-eq2 c =
    let n = c.from-count.ensures in
    rw (ne_eqb (get_or c.args.b.now 728 0) 2 (λ e. c.if-count-eq2.false (n ∙ e)), c.put_dualoct-else-count-eq2.ensures, c.store_data.ensures, n)
