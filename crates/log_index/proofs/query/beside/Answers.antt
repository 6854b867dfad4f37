-- `beside` meets its contract: the tests are the definition's, in their order.
use mathlib.Core.Path.{◌∙◌, sym}
use Rattle.std.proofs.lemmas.Result.{err_from_is_err_and}
use Rattle.num.specs.Bytes.{Bytes}
use Rattle.log_block.specs.Block.{blocks_in}
use Rattle.log_block.proofs.ListThenLog.{used-few}
use Rattle.log_index.proofs.make.MakeLaws.{fifteen, right-passed, right-refused, right-next}
use Rattle.log_index.proofs.query.QueryLaws.{beside-said}
use Rattle.log_index.proofs.query.beside.Goals as goal

pub compared-requires : goal.compared-requires
compared-requires c =
    let a = c.args in
    used-few 15 fifteen a.log.now (right-passed a.s a.log.now (blocks_in a.log.now) _ (sym c.right.ensures ∙ c.in_ok-right.was)).right

pub returns-in_err-right : goal.returns-in_err-right
returns-in_err-right c =
    let a = c.args in
    let p = err_from_is_err_and c.from_residual.result c.from_residual.ensures.1 in
    rw (p.1, p.2) (sym (right-refused a.s a.log.now (blocks_in a.log.now) _ _ (sym c.right.ensures ∙ c.in_err-right.was)))

pub returns : goal.returns
returns c =
    let a = c.args in
    let p = right-passed a.s a.log.now (blocks_in a.log.now) _ (sym c.right.ensures ∙ c.in_ok-right.was) in
    let w : Bytes a.log.now = λ i h. (c.shared_slice_known-1.given i).fits in
    c.compared.ensures ∙ beside-said a.s 15 fifteen a.log.now a.index.now w p ∙ sym (right-next a.s a.log.now _ p)
