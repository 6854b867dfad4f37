-- `plan_by_value::ranges::write_valid` meets its contract: the tests are those of the definition.
use Rattle.spec_rules.specs.Neighbour.{bank_count, context_of}
use Rattle.spec_state.specs.Valid.{write_valid}
use Rattle.plan_by_value.proofs.ranges.write_valid.Goals as goal

pub returns : goal.returns
unfolding write_valid bank_count context_of
returns c = rw c.is_instant.ensures
