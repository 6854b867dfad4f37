-- How many banks close looks at (document 02 e, "Closing stops after the last open bank").
-- Assumes nothing.
use Rattle.std.specs.Prelude.{ℕ, zero, suc, cond, Err, Ok, Result}
use Rattle.record.specs.declared.Request.{Request}
use Rattle.record.specs.declared.Request.TheVariants.{Read, Write, Refresh, Wait, Flush, Close}
use Rattle.spec_rules.specs.declared.Bank.{Bank}
use Rattle.spec_rules.specs.Neighbour.{bank_count}
use Rattle.spec_rules.specs.History.{is_closed}
use Rattle.spec_rules.specs.Channel.{state_of}
use Rattle.spec_plan.specs.declared.PlannerState.{PlannerState}
use Rattle.record.specs.declared.Refusal.{Refusal}

-- of the banks below n, "the highest open bank plus one, or 0 with none open"
unfoldable pub looked_up_to : (ℕ → Bank) → ℕ → ℕ
looked_up_to state zero = 0
looked_up_to state (suc n) = cond (is_closed (state n)) (looked_up_to state n) (suc n)

-- "The walk should end as soon as no open bank remains, and hand back [..] a count, one for each bank it looked at": a request of
-- another kind makes no such walk
unfoldable pub looked : Request → PlannerState → ℕ
looked (Read at close) p = 0
looked (Write at mask d close) p = 0
looked Refresh p = 0
looked (Wait n) p = 0
looked Flush p = 0
looked Close p = looked_up_to (state_of p.channel) bank_count

-- the count of a call that is not refused, by what the bytes of its request say
unfoldable pub looked_by : PlannerState → Result Request Refusal → ℕ
looked_by p (Err why) = 0
looked_by p (Ok q) = looked q p
