-- `plan_by_value::ranges::lasts_valid` meets its contract: the answers, from the last to the first.
use Rattle.spec_state.specs.Valid.{lasts_valid}
use Rattle.plan_by_value.proofs.ranges.lasts_valid.Goals as goal

pub returns : goal.returns
unfolding lasts_valid
returns c =
    rw (
      c.is_stamp-6.ensures,
      c.is_stamp-5.ensures,
      c.is_stamp-4.ensures,
      c.is_stamp-3.ensures,
      c.is_stamp-2.ensures,
      c.is_stamp.ensures,
    )
