-- `plan_in_place::requests::left_in_time` meets its contract.
use mathlib.Core.Path.{refl, ◌∙◌}
use Rattle.std.proofs.Common.{rules}
use Rattle.spec_rules.specs.Neighbour.{context_of}
use Rattle.plan_bytes.proofs.ReadyLaws.{ready}
use Rattle.plan_bytes.proofs.Again.{rested-call}
use Rattle.plan_in_place.proofs.Called.{left-timely, left_alone, wait-timely}
use Rattle.plan_in_place.proofs.requests.left_in_time.Goals as goal

pub returns-in-Read : goal.returns-in-Read
unfolding context_of
returns-in-Read c =
    let r = rested-call _ _ c.requires.s_value (λ i l. search rules) c.requires.planner_value in
    c.ends_by.ensures ∙ left_alone _ _ r c.args.q _ (rw c.in-Read.is (tt, c.read_delay.ensures)) c.requires.in_range _ c.requires.left_value (rw c.in-Read.is refl)

pub returns-in-Write : goal.returns-in-Write
unfolding context_of
returns-in-Write c =
    let r = rested-call _ _ c.requires.s_value (λ i l. search rules) c.requires.planner_value in
    rw (c.ends_by-in-Write.ensures) (left-timely _ _ r c.args.q _ (rw c.in-Write.is (tt, c.write_delay.ensures)) c.requires.in_range _ c.requires.left_value _ c.requires.due_value)

pub returns-in-Refresh : goal.returns-in-Refresh
returns-in-Refresh c =
    let r = rested-call _ _ c.requires.s_value (λ i l. search rules) c.requires.planner_value in
    c.ends_by-in-Refresh.ensures ∙ left_alone _ _ r c.args.q 0 (rw c.in-Refresh.is (tt, refl)) c.requires.in_range _ c.requires.left_value (rw c.in-Refresh.is refl)

pub returns-in-Wait : goal.returns-in-Wait
returns-in-Wait c =
    let r = rested-call _ _ c.requires.s_value (λ i l. search rules) c.requires.planner_value in
    rw (c.ends_by-in-Wait.ensures, c.in-Wait.is) (wait-timely _ _ (ready _ _ _ r) _)

pub returns-in-Flush : goal.returns-in-Flush
returns-in-Flush c =
    let r = rested-call _ _ c.requires.s_value (λ i l. search rules) c.requires.planner_value in
    c.ends_by-in-Flush.ensures ∙ left_alone _ _ r c.args.q 0 (rw c.in-Flush.is (tt, refl)) c.requires.in_range _ c.requires.left_value (rw c.in-Flush.is refl)

pub returns-in-Close : goal.returns-in-Close
returns-in-Close c =
    let r = rested-call _ _ c.requires.s_value (λ i l. search rules) c.requires.planner_value in
    c.ends_by-in-Close.ensures ∙ left_alone _ _ r c.args.q 0 (rw c.in-Close.is (tt, refl)) c.requires.in_range _ c.requires.left_value (rw c.in-Close.is refl)
