-- `one_bit` meets its contract.
use lib.Dec.{eqb}
use Rattle.log_index.proofs.words.WordLaws.{power-is, none_is}
use Rattle.log_index.proofs.words.one_bit.Goals as goal

pub returns-then-on : goal.returns-then-on
returns-then-on c = rw c.if-on.true (power-is c.args.bank c.requires)

pub returns-else-on : goal.returns-else-on
returns-else-on c = rw c.if-on.false (none_is (λ b. eqb c.args.bank b))
