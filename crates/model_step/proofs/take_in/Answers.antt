-- `model_step::take_in` meets its contract: the rule, then what the record asks of the store, then the next state.
use Rattle.std.specs.Prelude.{Err, Result}
use Rattle.std.proofs.lemmas.Result.{err_from_is_err_and}
use mathlib.Core.Path.{◌≡◌, refl, sym, ◌∙◌}
use native.Mathlib.Omega.{arith}
use Rattle.record.specs.declared.Refusal.{Refusal}
use Rattle.spec_rules.specs.Neighbour.{context_of}
use Rattle.spec_model.specs.declared.Event.{Event}
use Rattle.spec_model.specs.Step.{is_taken}
use Rattle.state_bytes.proofs.RangeLaws.{model-in-range}
use Rattle.model_step.proofs.TouchLaws.{asks_in}
use Rattle.model_step.proofs.TakeLaws.{broken, asked}
use Rattle.model_step.proofs.take_in.Goals as goal

pub returns-then-rule-ne0 : goal.returns-then-rule-ne0
returns-then-rule-ne0 c =
    let a = c.args in
    let all = broken (context_of a.s) a.model.now (λ i l. omega arith) c.requires.model_value a.r a.store.now a.room.now _ c.judge_in-rule.ensures c.if-rule-ne0.true in
    record { value = all.value; model_after = all.model_after; store_after = all.store_after; room_after = all.room_after }

pub touch_in-requires : goal.touch_in-requires
touch_in-requires c = record { in_range = model-in-range (context_of c.args.s) c.args.model.now c.requires.model_value }

pub access-requires-clause-touch_in : goal.access-requires-clause-touch_in
access-requires-clause-touch_in c =
    let a = c.args in
    let k = asks_in a.s a.model.now a.r _ c.requires.s_value c.requires.model_value c.requires.r_value c.touch_in.ensures in
    k.within

pub returns-in_err-event : goal.returns-in_err-event
unfolding is_taken
returns-in_err-event c =
    let a = c.args in
    let k = asks_in a.s a.model.now a.r _ c.requires.s_value c.requires.model_value c.requires.r_value c.touch_in.ensures in
    let p = err_from_is_err_and c.from_residual.result c.from_residual.ensures.1 in
    let e : c.from_residual.result ≡ c.access.result = rw (p.1, p.2, c.in_err-event.was) in
    let all = asked (context_of a.s) a.model.now (λ i l. omega arith) c.requires.model_value a.r _ k (sym c.judge_in-rule.ensures ∙ c.if-rule-ne0.false) a.store.now a.room.now
    _ c.access.ensures.value a.model.now (rw c.in_err-event.was) _ c.data_at.ensures _ c.access.ensures.store_after _ c.access.ensures.room_after in
    record { value = e ∙ all.value; model_after = all.model_after; store_after = all.store_after; room_after = all.room_after }

pub returns : goal.returns
unfolding is_taken
returns c =
    let a = c.args in
    let k = asks_in a.s a.model.now a.r _ c.requires.s_value c.requires.model_value c.requires.r_value c.touch_in.ensures in
    let all = asked (context_of a.s) a.model.now (λ i l. omega arith) c.requires.model_value a.r _ k (sym c.judge_in-rule.ensures ∙ c.if-rule-ne0.false) a.store.now a.room.now
    _ c.access.ensures.value c.put_next.new.b (c.put_next.ensures ∙ rw c.in_ok-event.was) _ c.data_at.ensures _ c.access.ensures.store_after _ c.access.ensures.room_after in
    record { value = sym c.in_ok-event.was ∙ all.value; model_after = all.model_after; store_after = all.store_after; room_after = all.room_after }
