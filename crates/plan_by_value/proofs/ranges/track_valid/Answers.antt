-- `plan_by_value::ranges::track_valid` meets its contract: the answers, from the last to the first.
use Rattle.spec_state.specs.Valid.{track_valid}
use Rattle.plan_by_value.proofs.ranges.track_valid.Goals as goal

pub returns : goal.returns
unfolding track_valid
returns c =
    rw (
      c.is_stamp-5.ensures,
      c.is_stamp-4.ensures,
      c.bank_valid.ensures,
      c.is_stamp-3.ensures,
      c.is_stamp-2.ensures,
      c.is_stamp.ensures,
    )
