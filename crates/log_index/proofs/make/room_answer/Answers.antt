-- `room_answer` meets its contract: the tests are the definition's, in their order.
use Prim.Native.Nat.{◌/◌}
use mathlib.Core.Path.{◌∙◌, sym}
use borrow.Author.Tests.{eq-eqb, ne_eqb, le-leb, lt-leb}
use lib.ListN.{length}
use Rattle.log_block.specs.Block.{blocks_in}
use Rattle.log_index.specs.Form.Room.{room_answer}
use Rattle.log_index.proofs.make.room_answer.Goals as goal

pub returns-then-wrong-kept : goal.returns-then-wrong-kept
unfolding room_answer
returns-then-wrong-kept c =
    let e = c.first_wrong-wrong.ensures in
    rw (ne_eqb _ _ (λ z. c.if-wrong-kept.true (e ∙ z)), e)

pub returns-then-n-index : goal.returns-then-n-index
unfolding room_answer
returns-then-n-index c =
    let a = c.args in
    rw (eq-eqb _ _ (sym c.first_wrong-wrong.ensures ∙ c.if-wrong-kept.false), le-leb (blocks_in a.log.now) (length a.index.now / 4) c.if-n-index.true)

pub returns : goal.returns
unfolding room_answer
returns c =
    let a = c.args in
    rw (eq-eqb _ _ (sym c.first_wrong-wrong.ensures ∙ c.if-wrong-kept.false), lt-leb (blocks_in a.log.now) (length a.index.now / 4) c.if-n-index.false)
