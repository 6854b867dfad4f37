-- `put_each` meets its contract: at each turn planner, records and text are those of the requests before the next one.
use Prim.Native.Nat.{◌/◌}
use mathlib.Core.Path.{◌≡◌}
use native.Mathlib.Omega.{arith}
use lib.ListN.{length}
use borrow.Author.Rules.{rules}
use Rattle.listing.proofs.entries.TurnLaws.{set_h-valid}
use Rattle.listing.proofs.entries.StepLaws.{Turn, none-listed, turn, lines_fit, records-bound, place-bound, now-listed, all_listed, stop-within, stop-room, stop-listed}
use Rattle.listing.proofs.entries.put_each.Goals as goal
use Rattle.listing.proofs.entries.put_each.Goals.{After-plan_all_under-planned}

-- what is known where a call comes back
called : (c : After-plan_all_under-planned)
    → Turn c.args.input.now c.args.out.now c.loop-i.planner c.loop-i.out c.loop-i.room c.loop-i.latest.bank c.loop-i.latest.column c.loop-i.records c.loop-i.end c.loop-i.i c.plan_all_under-planned.result c.plan_all_under-planned.new.planner c.plan_all_under-planned.new.room
called c =
    let v = c.loop-i.invariant in
    let e = c.plan_all_under-planned.ensures in
    turn v.given v.listed c.loop-i-test.true c.loop-i.room (omega arith) c.set_h.result c.set_h.ensures (e.value, (e.planner_after, e.room_after))

pub loop-i-init : goal.loop-i-init
loop-i-init c =
    let a = c.args in
    record {
      given = record {
        bytes = search rules;
        short = c.requires.input_len_bound.0;
        whole = c.requires.input_len_bound.1;
        space = c.requires.input_len_bound.2;
      };
      listed = none-listed a.input.now a.planner.now a.out.now c.requires.planner_value;
    }

pub plan_all_under-planned-requires : goal.plan_all_under-planned-requires
plan_all_under-planned-requires c = rw c.set_h.ensures set_h-valid

pub put_lines-lines-requires : goal.put_lines-lines-requires
put_lines-lines-requires c = lines_fit (called (goal.at.put_lines-lines-requires c).After-plan_all_under-planned)

pub overflow_add-records : goal.overflow_add-records
overflow_add-records c =
    let t = called (goal.at.overflow_add-records c).After-plan_all_under-planned in
    omega (arith, records-bound t, place-bound t, t.given.short)

pub overflow_add-i : goal.overflow_add-i
overflow_add-i c =
    let t = called (goal.at.overflow_add-i c).After-plan_all_under-planned in
    omega (arith, place-bound t, t.given.short)

pub put_refused-end-requires : goal.put_refused-end-requires
put_refused-end-requires c =
    let t = called (goal.at.put_refused-end-requires c).After-plan_all_under-planned in
    let p = c.put_lines-lines in
    stop-room t p.ensures.put p.auto.out p.ensures.bank_value c.if-planned-ne0.true

pub overflow_add-i-then-planned-ne0 : goal.overflow_add-i-then-planned-ne0
overflow_add-i-then-planned-ne0 c =
    let t = called (goal.at.overflow_add-i-then-planned-ne0 c).After-plan_all_under-planned in
    let p = c.put_lines-lines in
    omega (arith, stop-within t p.ensures.put p.auto.out p.ensures.bank_value c.if-planned-ne0.true, t.given.short)

pub loop-i-preserved-then-planned-ne0 : goal.loop-i-preserved-then-planned-ne0
loop-i-preserved-then-planned-ne0 c =
    let t = called (goal.at.loop-i-preserved-then-planned-ne0 c).After-plan_all_under-planned in
    let p = c.put_lines-lines in
    let f = c.put_refused-end in
    record {
      given = t.given;
      listed = stop-listed t p.ensures.put p.auto.out p.ensures.bank_value c.if-planned-ne0.true f.ensures f.auto.out;
    }

pub loop-i-smaller : goal.loop-i-smaller
loop-i-smaller c =
    let t = called (goal.at.loop-i-smaller c).After-plan_all_under-planned in
    let p = c.put_lines-lines in
    omega (arith, t.left, all_listed t p.ensures.put p.auto.out p.ensures.bank_value c.if-planned-ne0.false)

pub loop-i-preserved : goal.loop-i-preserved
loop-i-preserved c =
    let t = called (goal.at.loop-i-preserved c).After-plan_all_under-planned in
    let p = c.put_lines-lines in
    record { given = t.given; listed = now-listed t p.ensures.put p.auto.out p.ensures.bank_value }

pub returns : goal.returns
returns c =
    let v = c.loop-i.invariant in
    let h = v.listed in
    let n : c.loop-i.i ≡ length c.args.input.now / 24 = omega (arith, h.within) in
    record {
      records_value = rw n at h.records-are;
      put = (rw n at h.text-is, omega (arith, h.within, h.end-within, v.given.short));
    }
