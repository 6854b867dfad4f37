-- The planner's state as 768 bytes: the channel's 752, then now (stored less 3), the refresh bank, zeros, the masks of the older and
-- of the newer waiting write, zeros.
-- Assumes nothing.
use Rattle.std.specs.Prelude.{ℕ, Bool, ◌&&◌, List, ◌++◌, eqb, length}
use Rattle.num.specs.Bytes.{bytes, number, part, zeros}
use Rattle.spec_rules.specs.Neighbour.{Context}
use Rattle.spec_state.specs.ChannelBytes.{instant_bytes, channel_bytes, instant_in, channel_in, zero_part, channel_spare}
use Rattle.spec_plan.specs.declared.PlannerState.{PlannerState}
use Rattle.spec_plan.specs.Planner.{planner_valid}

unfoldable pub planner_length : ℕ
planner_length = 768

unfoldable pub planner_bytes : PlannerState → List ℕ
planner_bytes p =
    channel_bytes p.channel ++ (instant_bytes p.now ++ (bytes 2 p.refresh ++ (zeros 2 ++ (bytes 2 p.mask ++ (bytes 2 p.second ++ zeros 4)))))

-- the state that 768 bytes say
unfoldable pub planner_in : List ℕ → PlannerState
planner_in b =
    record {
      channel = channel_in b;
      now = instant_in b 752;
      refresh = number (part b 756 2);
      mask = number (part b 760 2);
      second = number (part b 762 2);
    }

-- whether refusal 1 has nothing against these bytes: their length, the bytes that no field uses, and the state that they say
unfoldable pub planner_right : Context → List ℕ → Bool
planner_right cx b =
    eqb (length b) planner_length && ((channel_spare b && (zero_part b 758 2 && zero_part b 764 4)) && planner_valid cx (planner_in b))
