-- `calls_model::step_under` meets its contract: refusal 1, or the step on the model's bytes.
use mathlib.Core.Path.{sym, ◌∙◌}
use native.Mathlib.Omega.{arith}
use Rattle.num.specs.Bytes.{Bytes}
use Rattle.calls_model.proofs.CallLaws.{another-length, turned-back, stepped}
use Rattle.calls_model.proofs.step_under.Goals as goal

pub returns-in_default : goal.returns-in_default
returns-in_default c =
    let a = c.args in
    let all = another-length a.s a.model.now a.store.now a.given.now a.room.now c.in_default.ensures.cases _ c.answer.ensures in
    record { value = all.0; model_after = all.1.0; store_after = all.1.1.0; room_after = all.1.1.1 }

pub returns-then-not-model_right : goal.returns-then-not-model_right
returns-then-not-model_right c =
    let a = c.args in
    let all = turned-back a.s c.in-Some.bytes.now a.store.now a.given.now a.room.now (sym c.model_right.ensures ∙ c.if-not-model_right.true) _ c.answer-then-not-model_right.ensures in
    rw (← c.in-Some.ensures.cases.same) (record { value = all.0; model_after = all.1.0; store_after = all.1.1.0; room_after = all.1.1.1 })

pub step-requires : goal.step-requires
step-requires c = record { s_value = c.requires; model_value = sym c.model_right.ensures ∙ c.if-not-model_right.false }

pub returns : goal.returns
returns c =
    let a = c.args in
    let w : Bytes a.model.now = λ i l. omega (arith, c.slice_known-1.given i) in
    let all = stepped a.s c.in-Some.bytes.now a.store.now a.given.now a.room.now (rw c.in-Some.ensures.cases.same w) (sym c.model_right.ensures ∙ c.if-not-model_right.false) _ c.step.ensures.value _ c.step.ensures.model_after _ c.step.ensures.store_after _ c.step.ensures.room_after _ c.answer-2.ensures in
    rw (← c.in-Some.ensures.cases.same) (record { value = all.0; model_after = all.1.0; store_after = all.1.1.0; room_after = all.1.1.1 })
