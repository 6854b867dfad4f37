-- `col_command` meets its contract: each arm is a case of the definition.
use native.Mathlib.Omega.{arith}
use mathlib.Core.Logic.{⊎_elim}
use borrow.Author.Tests.{ne_eqb}
use Rattle.calls_word.specs.Words.{col_command}
use Rattle.calls_word.proofs.col_command.Goals as goal

pub returns-in-4 : goal.returns-in-4
unfolding col_command
returns-in-4 c = rw c.in-4.is

pub returns-in-5 : goal.returns-in-5
unfolding col_command
returns-in-5 c = ⊎_elim (λ e. rw e) (λ e. rw e) c.in-5.is

pub returns-in_default : goal.returns-in_default
unfolding col_command
returns-in_default c = rw (ne_eqb c.args.command 4 (λ e. omega arith), ne_eqb c.args.command 5 (λ e. grind arith), ne_eqb c.args.command 7 (λ e. grind arith))
