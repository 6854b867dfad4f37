-- `plan_in_place::requests::write` meets its contract.
use mathlib.Core.Path.{refl, ap, ◌∙◌}
use native.Mathlib.Omega.{arith}
use Rattle.settings.specs.declared.DataAt.{DataAt}
use Rattle.plan_bytes.proofs.Again.{rested-more}
use Rattle.plan_in_place.proofs.Planned.{reached-after, write-room, write-drawn, wra-after, wra-newest, wra-fits, wra-data, closing-drawn}
use Rattle.plan_in_place.proofs.requests.write.Goals as goal

pub wr-next-requires : goal.wr-next-requires
wr-next-requires c =
    let a = c.args in
    let r = c.requires in
    let w = c.reach-to.ensures in
    record {
      rested = rested-more _ 1000011000 1000012000 _ (omega arith) (reached-after _ _ r.rested a.room.now r.in_bounds a.at r.in_place _ w.planner).ready;
      in_place = r.in_place;
      to_in_bounds = write-room _ _ r.rested _ r.in_bounds a.at r.in_place a.close a.mask a.d _ _ _ w;
    }

pub data_at-due-requires : goal.data_at-due-requires
data_at-due-requires c =
    let a = c.args in
    let r = c.requires in
    rw c.stored.ensures (wra-data _ _ r.rested _ r.in_bounds a.at r.in_place a.close a.mask a.d _ _ _ c.reach-to.ensures _ _ _ c.wr-next.ensures r.mask_bound c.if-close.true).0

pub flush_wra-end-requires : goal.flush_wra-end-requires
flush_wra-end-requires c =
    let a = c.args in
    let r = c.requires in
    let w = c.reach-to.ensures in
    let t = c.if-close.true in
    let x = c.wr-next.ensures in
    record {
      ready = (wra-after _ _ r.rested _ r.in_bounds a.at r.in_place a.close a.mask a.d _ _ _ w _ _ _ x r.mask_bound t).ready;
      newest_closes = wra-newest _ _ r.rested _ r.in_bounds a.at r.in_place a.close a.mask a.d _ _ _ w _ _ _ x r.mask_bound t;
      fits = wra-fits _ _ r.rested _ r.in_bounds a.at r.in_place a.close a.mask a.d _ _ _ w _ _ _ x r.mask_bound t;
    }

pub returns-then-close : goal.returns-then-close
returns-then-close c =
    let a = c.args in
    let r = c.requires in
    let w = c.reach-to.ensures in
    let t = c.if-close.true in
    let x = c.wr-next.ensures in
    record {
      drawn = closing-drawn _ _ r.rested _ r.in_bounds a.at r.in_place a.close a.mask a.d _ _ _ w _ _ _ x r.mask_bound t _ _ _ c.flush_wra-end.ensures;
      due_value = ap (λ (d : DataAt). d.0) c.data_at-due.ensures ∙ rw c.stored.ensures (wra-data _ _ r.rested _ r.in_bounds a.at r.in_place a.close a.mask a.d _ _ _ w _ _ _ x r.mask_bound t).1;
    }

pub returns : goal.returns
returns c =
    let a = c.args in
    let r = c.requires in
    let n = c.if-close.false in
    record {
      drawn = write-drawn _ _ r.rested _ r.in_bounds a.at r.in_place a.close a.mask a.d _ _ _ c.reach-to.ensures _ _ _ c.wr-next.ensures n;
      due_value = rw n refl;
    }
