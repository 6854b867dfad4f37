-- `plan_by_value::answers::served` meets its contract: by its draft, which is late, full, or put to the room.
use mathlib.Core.Path.{sym, ◌∙◌, ap}
use native.Mathlib.Omega.{arith}
use lib.ListN.{length}
use Rattle.num.specs.Bytes.{splice}
use Rattle.spec_plan.specs.Call.{list_bytes}
use Rattle.settings.proofs.SettingsLaws.{bounds}
use Rattle.plan_by_value.proofs.AnswerLaws.{now-in-time, refused-keeps, late_is, count_most, full_is, made-is, next-is, records-are}
use Rattle.plan_by_value.proofs.answers.served.Goals as goal

pub planned-d-requires : goal.planned-d-requires
planned-d-requires c =
    record {
      offp_bound = (bounds c.args.s c.requires.0).offp-most;
      horizon_value = now-in-time c.args.s c.args.p c.requires.1;
    }

pub put_list-requires : goal.put_list-requires
put_list-requires c =
    let l = count_most c.args.s c.args.p c.args.q c.requires.1 c.requires.2 c.planned-d.result c.planned-d.ensures (length c.args.room.now) c.if-d.false in
    (l, omega (arith, c.if-room-n.false), omega (arith, (bounds c.args.s c.requires.0).device-most))

pub returns-then-d : goal.returns-then-d
returns-then-d c =
    let a = late_is c.args.s c.args.p c.args.q c.requires.1 c.requires.2 c.planned-d.result c.planned-d.ensures (length c.args.room.now) c.if-d.true in
    let h = refused-keeps c.args.s c.args.p _ _ c.args.room.now a in
    record {
      outcome_value = c.refused.ensures.0 ∙ sym a;
      state_value = c.refused.ensures.1 ∙ h.0;
      room_after = h.1;
    }

pub returns-then-room-n : goal.returns-then-room-n
returns-then-room-n c =
    let a = full_is c.args.s c.args.p c.args.q c.requires.1 c.requires.2 c.planned-d.result c.planned-d.ensures (length c.args.room.now) c.if-d.false c.if-room-n.true in
    let h = refused-keeps c.args.s c.args.p _ _ c.args.room.now a in
    record {
      outcome_value = c.refused-then-room-n.ensures.0 ∙ sym a;
      state_value = c.refused-then-room-n.ensures.1 ∙ h.0;
      room_after = h.1;
    }

pub returns : goal.returns
returns c =
    let k = c.planned-d in
    let n = length c.args.room.now in
    let w = c.if-room-n.false in
    record {
      outcome_value = sym (made-is c.args.s c.args.p c.args.q c.requires.1 c.requires.2 k.result k.ensures n c.if-d.false w);
      state_value = next-is c.args.s c.args.p c.args.q c.requires.1 c.requires.2 k.result k.ensures n c.if-d.false w;
      room_after = c.put_list.ensures ∙ ap (λ r. splice c.args.room.now 0 (list_bytes c.args.s r)) (records-are c.args.s c.args.p c.args.q c.requires.1 c.requires.2 k.result k.ensures n c.if-d.false w);
    }
