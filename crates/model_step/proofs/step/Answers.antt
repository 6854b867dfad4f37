-- `model_step::step` meets its contract: the refusals in their order, and then the record.
use mathlib.Core.Path.{sym, ◌∙◌}
use native.Mathlib.Omega.{arith}
use Rattle.record.proofs.RoundTrip.{record-read-fits}
use Rattle.spec_rules.specs.Neighbour.{context_of}
use Rattle.model_step.proofs.CallLaws.{none_of, read_whole, wrong-store, wrong-length, wrong_word, known}
use Rattle.model_step.proofs.step.Goals as goal

pub returns-then-store-store_length : goal.returns-then-store-store_length
returns-then-store-store_length c =
    let a = c.args in
    let all = wrong-store (context_of a.s) a.model.now (λ i l. omega arith) c.requires.model_value a.store.now a.given.now a.room.now (λ q. c.if-store-store_length.true (q ∙ sym c.store_length.ensures)) in
    record { value = all.value; model_after = all.model_after; store_after = all.store_after; room_after = all.room_after }

pub returns-then-given-ne32 : goal.returns-then-given-ne32
returns-then-given-ne32 c =
    let a = c.args in
    let all = wrong-length (context_of a.s) a.model.now (λ i l. omega arith) c.requires.model_value a.store.now a.given.now a.room.now (c.if-store-store_length.false ∙ c.store_length.ensures) c.if-given-ne32.true in
    record { value = all.value; model_after = all.model_after; store_after = all.store_after; room_after = all.room_after }

pub returns-in_default : goal.returns-in_default
unfolding context_of
returns-in_default c =
    let a = c.args in
    let all = wrong_word (context_of a.s) a.model.now (λ i l. omega arith) c.requires.model_value a.store.now a.given.now a.room.now (c.if-store-store_length.false ∙ c.store_length.ensures) c.if-given-ne32.false
    (read_whole a.s a.given.now _ c.if-given-ne32.false c.read_record.ensures ∙ none_of c.read_record.result c.in_default.not-Some) in
    record { value = all.value; model_after = all.model_after; store_after = all.store_after; room_after = all.room_after }

pub take_in-requires-clause-r_value : goal.take_in-requires-clause-r_value
take_in-requires-clause-r_value c =
    let a = c.args in
    record-read-fits a.s a.given.now c.in-Some.r (read_whole a.s a.given.now _ c.if-given-ne32.false c.read_record.ensures ∙ c.in-Some.is)

pub returns : goal.returns
unfolding context_of
returns c =
    let a = c.args in
    let t = c.take_in.ensures in
    let all = known (context_of a.s) a.model.now (λ i l. omega arith) c.requires.model_value a.store.now a.given.now a.room.now (c.if-store-store_length.false ∙ c.store_length.ensures) c.if-given-ne32.false
    c.in-Some.r (read_whole a.s a.given.now _ c.if-given-ne32.false c.read_record.ensures ∙ c.in-Some.is) _ _ _ _
    (record { value = t.value; model_after = t.model_after; store_after = t.store_after; room_after = t.room_after }) in
    record { value = all.value; model_after = all.model_after; store_after = all.store_after; room_after = all.room_after }
