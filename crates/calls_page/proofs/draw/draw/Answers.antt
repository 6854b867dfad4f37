-- `draw` meets its contract: with i records left to be drawn the page is that of the records after them.
use Prim.Native.Nat.{◌-◌}
use mathlib.Core.Path.{sym, ap, ◌∙◌}
use native.Mathlib.Omega.{arith}
use lib.ListN.{drop}
use Rattle.record.specs.Record.{records_in}
use Rattle.spec_check.specs.Check.{records_of}
use Rattle.spec_page.specs.Page.{page}
use Rattle.calls_page.proofs.draw.ListLaws.{none_left, one_more_lem, is-record}
use Rattle.calls_page.proofs.draw.draw.Goals as goal

pub loop-i-init : goal.loop-i-init
loop-i-init c =
    let a = c.args in
    c.put_blank.ensures a.s ∙ ap (λ rs. page a.s rs a.start) (sym (none_left a.s a.list.now (records_in a.list.now) (omega arith)))

pub loop-i-preserved-in-None : goal.loop-i-preserved-in-None
loop-i-preserved-in-None c =
    let k = c.loop-i in
    is-record c.args.s c.args.list.now (k.i - 1) c.requires.list_value (omega arith) (sym c.read_record.ensures ∙ c.in-None.is)

pub loop-i-preserved : goal.loop-i-preserved
loop-i-preserved c =
    let k = c.loop-i in
    let a = c.args in
    let e = sym c.read_record.ensures ∙ c.in-Some.is in
    c.draw_record.ensures (drop k.i (records_of a.s a.list.now)) k.invariant ∙ ap (λ rs. page a.s rs a.start) (one_more_lem a.s a.list.now k.i _ (omega arith) (omega arith) e)
