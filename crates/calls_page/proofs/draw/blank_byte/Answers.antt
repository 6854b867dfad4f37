-- `blank_byte` meets its contract: each arm is a case of the definition.
use Prim.Native.Nat.{◌/◌, ◌%◌}
use native.Mathlib.Omega.{arith}
use borrow.Author.Tests.{le-leb, lt-leb, lt-ltb, le-ltb, eq-eqb, ne_eqb}
use Rattle.spec_page.specs.Page.{scale, filled, name_of}
use Rattle.spec_page.specs.Form.Bytes.{names, byte_by}
use Rattle.calls_page.specs.Form.Paint.{blank}
use Rattle.calls_page.proofs.draw.blank_byte.Goals as goal

pub returns-then-k-lt8 : goal.returns-then-k-lt8
unfolding byte_by names filled name_of
returns-then-k-lt8 c =
    let a = c.args in
    rw (lt-leb 8 (a.i % 73) (omega arith), lt-ltb (a.i % 73) 8 (omega arith))

pub returns-then-k-ge72 : goal.returns-then-k-ge72
unfolding byte_by
returns-then-k-ge72 c =
    let a = c.args in
    rw (le-leb 8 (a.i % 73) (omega arith), le-ltb (a.i % 73) 72 (omega arith), le-ltb (a.i % 73) 8 (omega arith))

pub returns-then-n-lt3 : goal.returns-then-n-lt3
unfolding byte_by blank
returns-then-n-lt3 c =
    let a = c.args in
    rw (le-leb 8 (a.i % 73) (omega arith), lt-ltb (a.i % 73) 72 (omega arith), lt-ltb (a.i / 73) 3 (omega arith))

pub returns-then-start-k-eq0 : goal.returns-then-start-k-eq0
unfolding byte_by blank scale
returns-then-start-k-eq0 c =
    let a = c.args in
    rw (le-leb 8 (a.i % 73) (omega arith), lt-ltb (a.i % 73) 72 (omega arith), le-ltb (a.i / 73) 3 (omega arith), eq-eqb _ 0 (rw c.from-start.ensures at c.if-start-k-eq0.true))

pub returns : goal.returns
unfolding byte_by blank scale
returns c =
    let a = c.args in
    rw (le-leb 8 (a.i % 73) (omega arith), lt-ltb (a.i % 73) 72 (omega arith), le-ltb (a.i / 73) 3 (omega arith), ne_eqb _ 0 (rw c.from-start.ensures at c.if-start-k-eq0.false))
