-- `calls_plan::ways::asked` meets its contract: each arm is a case of the definition.
use mathlib.Core.Path.{sym, ◌∙◌}
use native.Mathlib.Omega.{arith}
use mathlib.Core.Bool.{◌&&◌}
use borrow.Author.Tests.{leb-true}
use lib.Dec.{leb}
use lib.ListN.{length}
use Rattle.settings.proofs.SettingsLaws.{both_true}
use Rattle.record.proofs.RequestLaws.{accepted-range}
use Rattle.calls_plan.proofs.CallLaws.{by-request, request-refused}
use Rattle.calls_plan.proofs.ways.asked.Goals as goal

pub place_of-requires : goal.place_of-requires
place_of-requires c =
    let a = c.args in
    let w = both_true {a = a.quick && leb 1024 (length a.room.now)} c.if-quick-room.true in
    (c.plain_read.ensures w.1).0

pub read_on_lent-requires : goal.read_on_lent-requires
read_on_lent-requires c =
    let w = both_true c.if-quick-room.true in
    let y = both_true w.0 in
    let inside = (c.plain_read.ensures w.1).1 in
    record {
      s_value = c.requires.s_value;
      planner_value = c.requires.planner_value;
      below = c.requires.below y.0;
      in_place = rw c.place_of.ensures inside;
      in_bounds = leb-true _ _ y.1;
    }

pub returns-then-quick-room : goal.returns-then-quick-room
returns-then-quick-room c =
    let w = both_true {a = c.args.quick && leb 1024 (length c.args.room.now)} c.if-quick-room.true in
    let by = by-request c.args.s c.args.planner.now c.args.request.now c.args.room.now c.requires.planner_value in
    record {
      value = rw (by, (c.plain_read.ensures w.1).2) (rw c.place_of.ensures at c.read_on_lent.ensures.value);
      planner_after = rw (by, (c.plain_read.ensures w.1).2) (rw c.place_of.ensures at c.read_on_lent.ensures.planner_after);
      room_after = rw (by, (c.plain_read.ensures w.1).2) (rw c.place_of.ensures at c.read_on_lent.ensures.room_after);
    }

pub granted-requires : goal.granted-requires
granted-requires c =
    let e = sym c.read_request.ensures ∙ c.in-Ok.is in
    let range = accepted-range c.args.s c.args.request.now _ (λ i l. omega (arith, c.shared_slice_known-1.given i)) e in
    record {
      s_value = c.requires.s_value;
      planner_value = c.requires.planner_value;
      below = c.requires.below;
      in_range = range;
    }

pub returns-in-Err : goal.returns-in-Err
returns-in-Err c =
    let all = request-refused c.args.s c.args.planner.now c.args.request.now c.args.room.now c.requires.planner_value _ (sym c.read_request.ensures ∙ c.in-Err.is) _ c.answer.ensures in
    record {
      value = all.0;
      planner_after = all.1.0;
      room_after = all.1.1;
    }

pub returns-in-Ok : goal.returns-in-Ok
returns-in-Ok c =
    record {
      value = rw (by-request c.args.s c.args.planner.now c.args.request.now c.args.room.now c.requires.planner_value, sym c.read_request.ensures ∙ c.in-Ok.is) c.granted.ensures.value;
      planner_after = rw (by-request c.args.s c.args.planner.now c.args.request.now c.args.room.now c.requires.planner_value, sym c.read_request.ensures ∙ c.in-Ok.is) c.granted.ensures.planner_after;
      room_after = rw (by-request c.args.s c.args.planner.now c.args.request.now c.args.room.now c.requires.planner_value, sym c.read_request.ensures ∙ c.in-Ok.is) c.granted.ensures.room_after;
    }
