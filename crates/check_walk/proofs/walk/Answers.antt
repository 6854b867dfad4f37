-- `walk` meets its contract: the state is that after the records passed, each of which is one and breaks no rule.
use mathlib.Core.Path.{◌≡◌, refl, sym, ◌∙◌, ap}
use native.Mathlib.Omega.{arith}
use borrow.Author.Count.{below_more}
use lib.ListN.{length, replicate}
use Rattle.spec_rules.specs.declared.Channel.{Channel}
use Rattle.spec_rules.specs.Neighbour.{bank_count, context_of}
use Rattle.spec_rules.specs.Channel.{idle, fresh}
use Rattle.spec_rules.specs.Checks.{judged, channel_after}
use Rattle.check_walk.specs.declared.Fields.{Fields}
use Rattle.check_walk.specs.declared.Latest.{Latest}
use Rattle.check_walk.specs.Form.Turn.{channel_of}
use Rattle.check_walk.proofs.StopLaws.{stop-end, stop-bad, stop-broken}
use Rattle.check_walk.proofs.StoreLaws.{within_none, opened-fresh, opened-same}
use Rattle.check_walk.proofs.TurnLaws.{Turn, Implied, Stored, formed-here, bank-here, found_here, after-here, holds-here, unformed, quick-here, quick-plain, slow-here, plain_here, open-here, close-here, read_here, left_here, none_here, banks-here, length-here, opened-here, within-here, state-here}
use Rattle.check_walk.proofs.ImpliedLaws.{implied-fits}
use Rattle.check_walk.proofs.ShortLaws.{Before, read-turn, data-turn}
use Rattle.check_walk.proofs.walk.Goals as goal
use Rattle.check_walk.proofs.walk.Goals.{then-not-passes+else-rule-ne0, else-not-passes, then-v, else-v+then-v-2, else-v+else-v-2+then-v-3, else-v+else-v-2+else-v-3+then-v-4, else-v+else-v-2+else-v-3+else-v-4, then-leaving, else-leaving}

opened-by : {a b : Latest} → a ≡ b → a.opened ≡ b.opened
opened-by e = ap (λ (k : Latest). k.opened) e

pub loop-i-init : goal.loop-i-init
unfolding channel_after fresh bank_count
loop-i-init c = (omega arith, rw (c.no_lasts-l.ensures, c.unused-banks.ensures), refl, opened-same _ _ (replicate 32 idle) (ap (replicate 32) c.unused-banks.ensures) opened-fresh, within_none, λ j l. absurd (omega arith))

pub place_of-at-requires : goal.place_of-at-requires
place_of-at-requires c =
    let p = c.requires.n_bound in
    (omega arith, p.1, p.2)

pub fields_at-f-requires : goal.fields_at-f-requires
fields_at-f-requires c = rw c.place_of-at.ensures (c.requires.by_index c.loop-i.i c.loop-i-test.true)

pub is_read-requires : goal.is_read-requires
is_read-requires c = (rw c.place_of-at.ensures (c.requires.by_index c.loop-i.i c.loop-i-test.true), c.fields_at-f.ensures)

pub offset_bounds-banks-g : goal.offset_bounds-banks-g
offset_bounds-banks-g c =
    let e = c.bank_in-g.ensures.1 in omega arith

pub bounds-banks-g : goal.bounds-banks-g
bounds-banks-g c =
    let e = c.bank_in-g.ensures.1 in omega arith

pub offset_bounds-banks-g-then-reads_now : goal.offset_bounds-banks-g-then-reads_now
offset_bounds-banks-g-then-reads_now c =
    let e = c.bank_in-g.ensures.1 in omega arith

pub bounds-banks-g-then-reads_now : goal.bounds-banks-g-then-reads_now
bounds-banks-g-then-reads_now c =
    let e = c.bank_in-g.ensures.1 in omega arith

pub overflow_step-i : goal.overflow_step-i
overflow_step-i c =
    let l = c.loop-i-test.true in
    let p = c.requires.n_bound in
    omega arith

pub loop-i-smaller-then-reads_now : goal.loop-i-smaller-then-reads_now
loop-i-smaller-then-reads_now c =
    let l = c.loop-i-test.true in omega arith

-- after an RD that is known by its numbers
pub loop-i-preserved-then-reads_now : goal.loop-i-preserved-then-reads_now
loop-i-preserved-then-reads_now c =
    let a = c.args in
    let k = c.loop-i in
    let lt = c.loop-i-test.true in
    let q : Before a.s a.per a.b.now a.n k.i lt k.banks k.l k.buffer k.latest = record { state-is = k.invariant.1; size = k.invariant.2; top = k.invariant.3; within = k.invariant.4 } in
    let e = rw c.place_of-at.ensures at (c.is_read.ensures c.if-is_read.true) in
    let x = c.bank_in-g in
    let m = read-turn a.s a.per a.b.now a.n k.i lt k.banks k.l k.buffer k.latest q c.fields_at-f.result e x.result x.ensures.0 (sym c.reads_now.ensures ∙ c.if-reads_now.true) in (
      omega arith,
      rw c.read_lasts-l.ensures m.state-next,
      m.size-next,
      m.top-next,
      k.invariant.4,
      below_more _ _ k.invariant.5 m.held-here,
    )

pub is_data-requires : goal.is_data-requires
is_data-requires c = rw c.place_of-at.ensures (c.requires.by_index c.loop-i.i c.loop-i-test.true)

pub overflow_step-i-then-data_now : goal.overflow_step-i-then-data_now
overflow_step-i-then-data_now c =
    let l = c.loop-i-test.true in
    let p = c.requires.n_bound in
    omega arith

pub loop-i-smaller-then-data_now : goal.loop-i-smaller-then-data_now
loop-i-smaller-then-data_now c =
    let l = c.loop-i-test.true in omega arith

-- after data
pub loop-i-preserved-then-data_now : goal.loop-i-preserved-then-data_now
loop-i-preserved-then-data_now c =
    let a = c.args in
    let k = c.loop-i in
    let lt = c.loop-i-test.true in
    let q : Before a.s a.per a.b.now a.n k.i lt k.banks k.l k.buffer k.latest = record { state-is = k.invariant.1; size = k.invariant.2; top = k.invariant.3; within = k.invariant.4 } in
    let place = c.place_of-at.ensures in
    let e = rw place at (c.is_data.ensures c.if-is_data.true) in
    let u = rw place at (ap (λ (f : Fields). f.at.0) c.fields_at-f.ensures) in
    let m = data-turn a.s a.per a.b.now a.n k.i lt k.banks k.l k.buffer k.latest q e (rw u at (sym c.data_now.ensures ∙ c.if-data_now.true)) in (
      omega arith,
      m.state-next,
      m.size-next,
      m.top-next,
      k.invariant.4,
      below_more _ _ k.invariant.5 m.held-here,
    )

pub read_record-requires : goal.read_record-requires
read_record-requires c = rw c.place_of-at.ensures (c.requires.by_index c.loop-i.i c.loop-i-test.true)

pub returns-in_default : goal.returns-in_default
returns-in_default c =
    let a = c.args in
    let k = c.loop-i in
    let q = rw c.place_of-at.ensures at c.read_record.ensures in
    stop-bad (context_of a.s) a.per a.b.now a.n k.i k.invariant.5 c.loop-i-test.true (unformed a.s a.per a.b.now k.i (sym q ∙ c.in_default.is))

pub returns-then-rule-ne0 : goal.returns-then-rule-ne0
returns-then-rule-ne0 c =
    let a = c.args in
    let k = c.loop-i in
    let lt = c.loop-i-test.true in
    let r = c.in-Some.r in
    let e = sym (rw c.place_of-at.ensures at c.read_record.ensures) ∙ c.in-Some.is in
    let ch : Channel = channel_of k.banks k.l k.buffer k.latest.due in
    let m = c.judge-rule.ensures in
    stop-broken (context_of a.s) a.per a.b.now a.n k.i _ k.invariant.5 lt (formed-here a.s a.per a.b.now a.n k.i lt r e)
    (found_here a.s a.per a.b.now a.n k.i lt r e ch k.invariant.1 ∙ sym m) c.if-rule-ne0.true

pub banks_implied-banks-requires : goal.banks_implied-banks-requires
banks_implied-banks-requires c =
    let a = c.args in
    let k = c.loop-i in
    let lt = c.loop-i-test.true in
    let r = c.in-Some.r in
    let e = sym (rw c.place_of-at.ensures at c.read_record.ensures) ∙ c.in-Some.is in
    let ch : Channel = channel_of k.banks k.l k.buffer k.latest.due in
    let zero : judged (context_of a.s) ch r ≡ 0 = sym c.judge-rule.ensures ∙ c.if-rule-ne0.false in
    λ q. let fits = implied-fits a.s ch r zero q in omega arith

pub lasts_implied-l-requires : goal.lasts_implied-l-requires
lasts_implied-l-requires c =
    let a = c.args in
    let k = c.loop-i in
    let lt = c.loop-i-test.true in
    let r = c.in-Some.r in
    let e = sym (rw c.place_of-at.ensures at c.read_record.ensures) ∙ c.in-Some.is in
    let ch : Channel = channel_of k.banks k.l k.buffer k.latest.due in
    let zero : judged (context_of a.s) ch r ≡ 0 = sym c.judge-rule.ensures ∙ c.if-rule-ne0.false in
    λ q. let fits = implied-fits a.s ch r zero q in omega arith

pub offset_bounds-banks-x-then-v : goal.offset_bounds-banks-x-then-v
offset_bounds-banks-x-then-v c =
    let e = c.slot_of-x.ensures.1 in omega arith

pub bounds-banks-x-then-v : goal.bounds-banks-x-then-v
bounds-banks-x-then-v c =
    let e = c.slot_of-x.ensures.1 in omega arith

pub offset_bounds-banks-x-then-v-2 : goal.offset_bounds-banks-x-then-v-2
offset_bounds-banks-x-then-v-2 c =
    let e = c.slot_of-x.ensures.1 in omega arith

pub bounds-banks-x-then-v-2 : goal.bounds-banks-x-then-v-2
bounds-banks-x-then-v-2 c =
    let e = c.slot_of-x.ensures.1 in omega arith

pub offset_bounds-banks-x-then-v-2-2 : goal.offset_bounds-banks-x-then-v-2-2
offset_bounds-banks-x-then-v-2-2 c =
    let e = c.slot_of-x.ensures.1 in omega arith

pub bounds-banks-x-then-v-2-2 : goal.bounds-banks-x-then-v-2-2
bounds-banks-x-then-v-2-2 c =
    let e = c.slot_of-x.ensures.1 in omega arith

pub offset_bounds-banks-x-then-v-2-3 : goal.offset_bounds-banks-x-then-v-2-3
offset_bounds-banks-x-then-v-2-3 c =
    let e = c.slot_of-x.ensures.1 in omega arith

pub bounds-banks-x-then-v-2-3 : goal.bounds-banks-x-then-v-2-3
bounds-banks-x-then-v-2-3 c =
    let e = c.slot_of-x.ensures.1 in omega arith

pub offset_bounds-banks-y-then-v-2 : goal.offset_bounds-banks-y-then-v-2
offset_bounds-banks-y-then-v-2 c =
    let e = c.first_near-y.ensures.1 in omega arith

pub bounds-banks-y-then-v-2 : goal.bounds-banks-y-then-v-2
bounds-banks-y-then-v-2 c =
    let e = c.first_near-y.ensures.1 in omega arith

pub offset_bounds-banks-y-then-v-2-2 : goal.offset_bounds-banks-y-then-v-2-2
offset_bounds-banks-y-then-v-2-2 c =
    let e = c.first_near-y.ensures.1 in omega arith

pub bounds-banks-y-then-v-2-2 : goal.bounds-banks-y-then-v-2-2
bounds-banks-y-then-v-2-2 c =
    let e = c.first_near-y.ensures.1 in omega arith

pub offset_bounds-banks-z-then-v-2 : goal.offset_bounds-banks-z-then-v-2
offset_bounds-banks-z-then-v-2 c =
    let e = c.last_near-z.ensures.1 in omega arith

pub bounds-banks-z-then-v-2 : goal.bounds-banks-z-then-v-2
bounds-banks-z-then-v-2 c =
    let e = c.last_near-z.ensures.1 in omega arith

pub offset_bounds-banks-z-then-v-2-2 : goal.offset_bounds-banks-z-then-v-2-2
offset_bounds-banks-z-then-v-2-2 c =
    let e = c.last_near-z.ensures.1 in omega arith

pub bounds-banks-z-then-v-2-2 : goal.bounds-banks-z-then-v-2-2
bounds-banks-z-then-v-2-2 c =
    let e = c.last_near-z.ensures.1 in omega arith

pub offset_bounds-banks-x-then-v-3 : goal.offset_bounds-banks-x-then-v-3
offset_bounds-banks-x-then-v-3 c =
    let e = c.slot_of-x.ensures.1 in omega arith

pub bounds-banks-x-then-v-3 : goal.bounds-banks-x-then-v-3
bounds-banks-x-then-v-3 c =
    let e = c.slot_of-x.ensures.1 in omega arith

pub offset_bounds-banks-w-then-v-4 : goal.offset_bounds-banks-w-then-v-4
offset_bounds-banks-w-then-v-4 c =
    let e = c.slot_of-w.ensures.1 in omega arith

pub bounds-banks-w-then-v-4 : goal.bounds-banks-w-then-v-4
bounds-banks-w-then-v-4 c =
    let e = c.slot_of-w.ensures.1 in omega arith

pub offset_bounds-banks-w-then-v-4-2 : goal.offset_bounds-banks-w-then-v-4-2
offset_bounds-banks-w-then-v-4-2 c =
    let e = c.slot_of-w.ensures.1 in omega arith

pub bounds-banks-w-then-v-4-2 : goal.bounds-banks-w-then-v-4-2
bounds-banks-w-then-v-4-2 c =
    let e = c.slot_of-w.ensures.1 in omega arith

pub overflow_step-i-in-loop-i : goal.overflow_step-i-in-loop-i
overflow_step-i-in-loop-i c =
    let l = c.loop-i-test.true in
    let p = c.requires.n_bound in
    omega arith

pub loop-i-smaller : goal.loop-i-smaller
loop-i-smaller c =
    let l = c.loop-i-test.true in omega arith

pub loop-i-preserved : goal.loop-i-preserved
loop-i-preserved c =
    let a = c.args in
    let k = c.loop-i in
    let lt = c.loop-i-test.true in
    let r = c.in-Some.r in
    let e = sym (rw c.place_of-at.ensures at c.read_record.ensures) ∙ c.in-Some.is in
    let ch : Channel = channel_of k.banks k.l k.buffer k.latest.due in
    let v = c.view_of-v.result in
    let h = c.held_of-h.result in
    let o = c.next_slot in
    let t : Turn a.s r k.banks k.l k.buffer k.latest v h c.slot_of-x.result c.first_near-y.result c.last_near-z.result c.slot_of-w.result o.result =
    record {
      size = k.invariant.2;
      top = k.invariant.3;
      within = k.invariant.4;
      inside = bank-here a.s a.per a.b.now a.n k.i lt r e;
      view = c.view_of-v.ensures;
      held = c.held_of-h.ensures;
      own = c.slot_of-x.ensures.0;
      low = c.first_near-y.ensures.0;
      high = c.last_near-z.ensures.0;
      waiting = c.slot_of-w.ensures.0;
      second = o.ensures.value;
    } in
    let test = c.passes.ensures in
    let zero : judged (context_of a.s) ch r ≡ 0 =
    elim c.if-not-passes.branch [
      | then-not-passes+else-rule-ne0 o ↦ sym o.judge-rule.ensures ∙ o.if-rule-ne0.false
      | else-not-passes o ↦ quick-here t _ _ refl test o.if-not-passes.false
    ]
    in
    let m = c.if-not-passes.banks in
    let p = c.if-not-passes.l in
    let implied : Implied t m p =
    elim c.if-not-passes.branch [
      | then-not-passes+else-rule-ne0 o ↦ slow-here t m p (o.banks-is ∙ o.banks_implied-banks.ensures) (o.l-is ∙ o.lasts_implied-l.ensures)
      | else-not-passes o ↦ plain_here t m p (quick-plain t _ _ refl test o.if-not-passes.false) o.banks-is o.l-is
    ]
    in
    let n = c.if-v.banks in
    let q = c.if-v.buffer in
    let newest = c.if-v.latest.opened in
    let stored : Stored t m p implied n q newest =
    elim c.if-v.branch [
      | then-v o ↦ open-here t m p implied n q newest _ o.if-v.true o.opened_track.ensures o.banks-is o.buffer-is (opened-by o.latest-is ∙ o.max.ensures)
      | else-v+then-v-2 o ↦ close-here t m p implied n q newest _ _ _ o.if-v.false o.if-v-2.true o.closed_track.ensures o.side_track.ensures o.side_track-then-v-2.ensures o.banks-is o.buffer-is (opened-by o.latest-is)
      | else-v+else-v-2+then-v-3 o ↦ read_here t m p implied n q newest o.if-v.false o.if-v-2.false o.if-v-3.true o.banks-is o.buffer-is (opened-by o.latest-is)
      | else-v+else-v-2+else-v-3+then-v-4 o ↦ left_here t m p implied n q newest _ _ _ o.if-v.false o.if-v-2.false o.if-v-3.false o.if-v-4.true o.leaving.ensures (elim o.if-leaving.branch [ then-leaving w ↦ rw w.if-leaving.true w.retire-is | else-leaving w ↦ rw w.if-leaving.false w.retire-is ]) o.buffer_next-buffer.ensures o.banks-is o.buffer-is (opened-by o.latest-is)
      | else-v+else-v-2+else-v-3+else-v-4 o ↦ none_here t m p implied n q newest o.if-v.false o.if-v-2.false o.if-v-3.false o.if-v-4.false o.banks-is o.buffer-is (opened-by o.latest-is)
    ]
    in
    let banks = banks-here t m p implied n stored.0 in (
      omega arith,
      rw (c.lasts_after-l.ensures, banks, stored.1)
          (state-here t m p implied ∙ after-here a.s a.per a.b.now a.n k.i lt r e ch k.invariant.1),
      ap length banks ∙ length-here t m p implied,
      rw stored.2 (opened-same _ _ _ banks (opened-here t m p implied)),
      within-here t q stored.1,
      below_more _ _ k.invariant.5 (holds-here a.s a.per a.b.now a.n k.i lt r e ch k.invariant.1 zero),
    )

pub returns : goal.returns
returns c =
    let a = c.args in
    let k = c.loop-i in
    let l = c.loop-i-test.false in
    stop-end (context_of a.s) a.per a.b.now a.n (λ j m. k.invariant.5 j (omega arith))
