-- The planner's state (document 01, "Planner", "What is turned back").
-- Assumes nothing.
use Rattle.std.specs.Prelude.{Bool, true, false, not, ◌&&◌, ltb}
use Rattle.num.specs.Search.{all_up_to}
use Rattle.settings.specs.Instants.{is_instant}
use Rattle.spec_rules.specs.declared.Bank.{Bank}
use Rattle.spec_rules.specs.declared.Bank.TheVariants.{Closed, Open, Refresh}
use Rattle.spec_rules.specs.Neighbour.{bank_count, Context}
use Rattle.spec_rules.specs.History.{any_write}
use Rattle.spec_rules.specs.Channel.{fresh, state_of, waiting_of}
use Rattle.spec_state.specs.Valid.{channel_valid}
use Rattle.spec_plan.specs.declared.PlannerState.{PlannerState}

-- "Fresh: banks closed, buffer empty, refresh bank 0, now 4."
unfoldable pub fresh_planner : PlannerState
fresh_planner = record { channel = fresh; now = record { 0 = 4 }; refresh = 0; mask = 0; second = 0 }

unfoldable pub not_refresh : Bank → Bool
not_refresh Closed = true
not_refresh (Open r) = true
not_refresh Refresh = false

-- a state that is not refused: "a field out of its range", "two neighbours are both not closed, or the bank of a waiting write
-- is not open by ACT, and a planner state with a bank under refresh". "A planner state with a WRA waiting falls under 1."
-- Between requests no data are due.
unfoldable pub planner_valid : Context → PlannerState → Bool
planner_valid cx p =
    channel_valid cx p.channel
    && (all_up_to (λ x. not_refresh (state_of p.channel x)) bank_count
    && (not (any_write (λ w. w.close) (waiting_of p.channel.buffer))
    && (not p.channel.due && (is_instant p.now.0 && (ltb p.refresh bank_count && (ltb p.mask 0x10000 && ltb p.second 0x10000))))))
