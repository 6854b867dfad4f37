-- `fields_right` meets its contract: each arm is a case of the definition.
use native.Mathlib.Omega.{arith}
use borrow.Author.Tests.{ne_eqb, le-leb, lt-leb}
use Rattle.calls_word.specs.Words.{fields_right}
use Rattle.calls_word.proofs.fields_right.Goals as goal

pub returns-in-0 : goal.returns-in-0
unfolding fields_right
returns-in-0 c = rw c.in-0.is

pub returns-in-1-to-3 : goal.returns-in-1-to-3
unfolding fields_right
returns-in-1-to-3 c = rw (ne_eqb c.args.command 0 (λ e. omega arith), le-leb c.args.command 3 (omega arith))

pub returns-in-4 : goal.returns-in-4
unfolding fields_right
returns-in-4 c = rw c.in-4.is

pub returns-in_default : goal.returns-in_default
unfolding fields_right
returns-in_default c = rw (ne_eqb c.args.command 0 (λ e. omega arith), lt-leb c.args.command 3 (omega arith), ne_eqb c.args.command 4 (λ e. omega arith))
