-- `plan_in_place::requests::reach` meets its contract.
use Rattle.plan_in_place.proofs.Planned.{reach_here, reach-fits, reach-opened, row_in, read_first}
use mathlib.Core.Bool.{false}
use Rattle.plan_in_place.proofs.requests.reach.Goals as goal

pub on_row-requires : goal.on_row-requires
on_row-requires c =
    let a = c.args in
    let r = c.requires in
    record {
      bank_bound = r.in_place.0;
      row_bound = row_in _ _ r.rested a.room.now r.in_bounds a.at r.in_place;
    }

pub returns-then-on_row : goal.returns-then-on_row
returns-then-on_row c =
    let a = c.args in
    let r = c.requires in
    reach_here _ _ r.rested a.room.now r.in_bounds a.at r.in_place _ c.on_row.ensures c.if-on_row.true

pub open_row-requires : goal.open_row-requires
open_row-requires c =
    let a = c.args in
    let r = c.requires in
    record {
      rested = r.rested;
      bank_bound = r.in_place.0;
      row_lt_rows = r.in_place.1;
      fits = reach-fits _ _ r.rested a.room.now r.in_bounds a.at r.in_place _ c.on_row.ensures c.if-on_row.false (read_first _ _ r.rested a.room.now r.in_bounds a.at r.in_place false);
    }

pub returns : goal.returns
returns c =
    let a = c.args in
    let r = c.requires in
    reach-opened _ _ r.rested a.room.now r.in_bounds a.at r.in_place _ c.on_row.ensures c.if-on_row.false _ _ _ c.open_row.ensures
