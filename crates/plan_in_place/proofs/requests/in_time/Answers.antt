-- `plan_in_place::requests::in_time` meets its contract.
use mathlib.Core.Path.{sym}
use Rattle.std.proofs.Common.{rules}
use Rattle.plan_bytes.proofs.ReadyLaws.{ready}
use Rattle.plan_bytes.proofs.Again.{rested-call}
use Rattle.plan_in_place.proofs.Called.{rested-low, calm-timely, wait-timely}
use Rattle.plan_in_place.proofs.requests.in_time.Goals as goal

pub returns-in-Read : goal.returns-in-Read
returns-in-Read c = rw c.in-Read.is (sym (calm-timely _ _ (rested-low _ _ c.requires.s_value (λ i l. search rules) c.requires.planner_value 999990000 c.requires.below) _ tt))

pub returns-in-Write : goal.returns-in-Write
returns-in-Write c = rw c.in-Write.is (sym (calm-timely _ _ (rested-low _ _ c.requires.s_value (λ i l. search rules) c.requires.planner_value 999990000 c.requires.below) _ tt))

pub returns-in-Refresh : goal.returns-in-Refresh
returns-in-Refresh c = rw c.in-Refresh.is (sym (calm-timely _ _ (rested-low _ _ c.requires.s_value (λ i l. search rules) c.requires.planner_value 999990000 c.requires.below) _ tt))

pub returns-in-Wait : goal.returns-in-Wait
returns-in-Wait c =
    let r = rested-call _ _ c.requires.s_value (λ i l. search rules) c.requires.planner_value in
    rw (c.ends_by.ensures, c.in-Wait.is) (wait-timely _ _ (ready _ _ _ r) _)

pub returns-in-Flush : goal.returns-in-Flush
returns-in-Flush c = rw c.in-Flush.is (sym (calm-timely _ _ (rested-low _ _ c.requires.s_value (λ i l. search rules) c.requires.planner_value 999990000 c.requires.below) _ tt))

pub returns-in-Close : goal.returns-in-Close
returns-in-Close c = rw c.in-Close.is (sym (calm-timely _ _ (rested-low _ _ c.requires.s_value (λ i l. search rules) c.requires.planner_value 999990000 c.requires.below) _ tt))
