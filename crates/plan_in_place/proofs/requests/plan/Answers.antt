-- `plan_in_place::requests::plan` meets its contract.
use mathlib.Core.Path.{refl}
use Rattle.std.proofs.Common.{rules}
use Rattle.plan_bytes.proofs.Again.{rested-call}
use Rattle.plan_in_place.proofs.Called.{called-read, called-write, called-refresh, called-wait, called-flush, close-few, called-close}
use Rattle.plan_in_place.proofs.requests.plan.Goals as goal

pub read-requires : goal.read-requires
read-requires c =
    let r = rested-call _ _ c.requires.s_value (λ i l. search rules) c.requires.planner_value in
    record {
      rested = r;
      in_place = rw c.in-Read.is at c.requires.in_range;
      in_bounds = c.requires.in_bounds;
    }

pub write-requires : goal.write-requires
write-requires c =
    let r = rested-call _ _ c.requires.s_value (λ i l. search rules) c.requires.planner_value in
    let i = rw c.in-Write.is at c.requires.in_range in
    record {
      rested = r;
      in_place = i.0;
      mask_bound = i.1;
      in_bounds = c.requires.in_bounds;
    }

pub refresh-requires : goal.refresh-requires
refresh-requires c =
    let r = rested-call _ _ c.requires.s_value (λ i l. search rules) c.requires.planner_value in
    record {
      rested = r;
      in_bounds = c.requires.in_bounds;
    }

pub wait-requires : goal.wait-requires
wait-requires c =
    let r = rested-call _ _ c.requires.s_value (λ i l. search rules) c.requires.planner_value in
    record {
      rested = r;
    }

pub flush-requires : goal.flush-requires
flush-requires c =
    let r = rested-call _ _ c.requires.s_value (λ i l. search rules) c.requires.planner_value in
    record {
      rested = r;
      in_bounds = c.requires.in_bounds;
    }

pub close-requires : goal.close-requires
close-requires c =
    let r = rested-call _ _ c.requires.s_value (λ i l. search rules) c.requires.planner_value in
    record {
      rested = r;
      b_value = rw c.in-Close.is at c.requires.retired;
      in_bounds = c.requires.in_bounds;
    }

pub walk-requires : goal.walk-requires
walk-requires c = close-few _ _ _ _ _ _ _ (c.close.ensures.drawn, c.close.ensures.banks_value)

pub returns-in-Read : goal.returns-in-Read
returns-in-Read c =
    let all = called-read _ _ _ _ _ _ _ _ _ c.no_walk.ensures _ _ c.read.ensures in
    rw c.in-Read.is (record {
      planner_after = all.planner_after;
      room_after = all.room_after;
      records_value = all.records_value;
      banks_value = all.banks_value;
      due_value = all.due_value;
    })

pub returns-in-Write : goal.returns-in-Write
returns-in-Write c =
    let all = called-write _ _ _ _ _ _ _ _ _ _ _ _ _ _ c.loaded.ensures c.write.ensures.due_value c.write.ensures.drawn in
    rw c.in-Write.is (record {
      planner_after = all.planner_after;
      room_after = all.room_after;
      records_value = all.records_value;
      banks_value = all.banks_value;
      due_value = all.due_value;
    })

pub returns-in-Refresh : goal.returns-in-Refresh
returns-in-Refresh c =
    let all = called-refresh _ _ _ _ _ _ _ _ _ c.no_walk-in-Refresh.ensures c.refresh.ensures in
    rw c.in-Refresh.is (record {
      planner_after = all.planner_after;
      room_after = all.room_after;
      records_value = all.records_value;
      banks_value = all.banks_value;
      due_value = all.due_value;
    })

pub returns-in-Wait : goal.returns-in-Wait
returns-in-Wait c =
    let all = called-wait _ _ _ _ _ 0 _ _ _ c.no_walk-in-Wait.ensures _ c.wait.ensures refl refl in
    rw c.in-Wait.is (record {
      planner_after = all.planner_after;
      room_after = all.room_after;
      records_value = all.records_value;
      banks_value = all.banks_value;
      due_value = all.due_value;
    })

pub returns-in-Flush : goal.returns-in-Flush
returns-in-Flush c =
    let all = called-flush _ _ _ _ _ _ _ _ _ c.no_walk-in-Flush.ensures c.flush.ensures in
    rw c.in-Flush.is (record {
      planner_after = all.planner_after;
      room_after = all.room_after;
      records_value = all.records_value;
      banks_value = all.banks_value;
      due_value = all.due_value;
    })

pub returns-in-Close : goal.returns-in-Close
returns-in-Close c =
    let all = called-close _ _ _ _ _ _ _ (c.close.ensures.drawn, c.close.ensures.banks_value) _ _ _ c.walk.ensures in
    rw c.in-Close.is (record {
      planner_after = all.planner_after;
      room_after = all.room_after;
      records_value = all.records_value;
      banks_value = all.banks_value;
      due_value = all.due_value;
    })
