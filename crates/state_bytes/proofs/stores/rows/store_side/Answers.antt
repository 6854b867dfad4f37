-- `state_bytes::stores::rows::store_side` meets its contract: each way out decides the tests.
use Prim.Native.Nat.{◌+◌, ◌*◌}
use mathlib.Core.Path.{◌∙◌, sym}
use borrow.Author.Tests.{le-ltb, lt-ltb, eq-eqb, ne_eqb}
use Rattle.num.specs.Bytes.{number, part}
use Rattle.spec_state.specs.Form.Stores.{side_stored}
use Rattle.state_bytes.proofs.stores.rows.store_side.Goals as goal

pub returns-then-x-ge32 : goal.returns-then-x-ge32
unfolding side_stored
returns-then-x-ge32 c = rw (le-ltb c.args.x 32 c.if-x-ge32.true)

pub returns-then-u16_at-eq0 : goal.returns-then-u16_at-eq0
unfolding side_stored
returns-then-u16_at-eq0 c =
    let a = c.args in
    rw (lt-ltb a.x 32 c.if-x-ge32.false, eq-eqb (number (part a.b.now (640 + 2 * a.x) 2)) 0 (sym c.u16_at.ensures.0 ∙ c.if-u16_at-eq0.true))

pub returns : goal.returns
unfolding side_stored
returns c =
    let a = c.args in
    rw (lt-ltb a.x 32 c.if-x-ge32.false, ne_eqb (number (part a.b.now (640 + 2 * a.x) 2)) 0 (λ e. c.if-u16_at-eq0.false (c.u16_at.ensures.0 ∙ e)), c.store_shut.ensures)
