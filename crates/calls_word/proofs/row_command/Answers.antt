-- `row_command` meets its contract: each arm is a case of the definition.
use native.Mathlib.Omega.{arith}
use borrow.Author.Tests.{ne_eqb}
use Rattle.calls_word.specs.Words.{row_command}
use Rattle.calls_word.proofs.row_command.Goals as goal

pub returns-in-0 : goal.returns-in-0
unfolding row_command
returns-in-0 c = rw c.in-0.is

pub returns-in-1 : goal.returns-in-1
unfolding row_command
returns-in-1 c = rw c.in-1.is

pub returns-in-2 : goal.returns-in-2
unfolding row_command
returns-in-2 c = rw c.in-2.is

pub returns-in_default : goal.returns-in_default
unfolding row_command
returns-in_default c = rw (ne_eqb c.args.command 0 (λ e. omega arith), ne_eqb c.args.command 1 (λ e. omega arith), ne_eqb c.args.command 2 (λ e. omega arith))
