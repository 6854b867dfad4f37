-- `record_of` meets its contract: the tests are the definition's, in their order.
use Rattle.std.proofs.Common.{rules, ap, eq-eqb, ne_eqb}
use Rattle.std.specs.Prelude.{ℕ, ◌≡◌, None, Some, Option, IsSomeAnd, MatchOption}
use Rattle.packet.specs.declared.RowPacket.{RowPacket}
use Rattle.packet.specs.declared.ColPacket.{ColPacket}
use Rattle.record.specs.declared.Record.{Record}
use Rattle.record.specs.declared.Record.TheVariants.{RowAt, ColAt}
use Rattle.record.specs.Record.{row_record, col_record, record_of}
use Rattle.record_bytes.proofs.record_of.Goals as goal

-- what a map gives, from what its closure says
mapped : {A : Type 0} (f : A → Record) (Q : A → Record → Type 0) (d : Option A) (r : Option Record) → MatchOption d (r ≡ None) (λ p. IsSomeAnd r (Q p)) → ((p : A) (y : Record) → Q p y → y ≡ f p)
    → MatchOption d (r ≡ None) (λ p. r ≡ Some (f p))
mapped f Q None r h g = h
mapped f Q (Some p) None h g = elim h [ ]
mapped f Q (Some p) (Some y) h g = ap Some (g p y h)

row-mapped : (at : ℕ) (d : Option RowPacket) (r : Option Record) → MatchOption d (r ≡ None) (λ p. r ≡ Some (RowAt (record { 0 = at }) p)) → r ≡ row_record at d
unfolding row_record
row-mapped at None r h = h
row-mapped at (Some p) r h = h

col-mapped : (at : ℕ) (d : Option ColPacket) (r : Option Record) → MatchOption d (r ≡ None) (λ p. r ≡ Some (ColAt (record { 0 = at }) p)) → r ≡ col_record at d
unfolding col_record
col-mapped at None r h = h
col-mapped at (Some p) r h = h

pub returns-then-word-eq0 : goal.returns-then-word-eq0
unfolding record_of
returns-then-word-eq0 c = rw (eq-eqb _ 2 c.if-kind-eq2.true, eq-eqb _ 0 c.if-word-eq0.true)

pub returns-then-kind-eq2 : goal.returns-then-kind-eq2
unfolding record_of
returns-then-kind-eq2 c = rw (eq-eqb _ 2 c.if-kind-eq2.true, ne_eqb _ 0 c.if-word-eq0.false)

pub returns-then-d-ne0 : goal.returns-then-d-ne0
unfolding record_of
returns-then-d-ne0 c = rw (ne_eqb _ 2 c.if-kind-eq2.false, ne_eqb _ 0 c.if-d-ne0.true)

pub returns-then-d-ne0-2 : goal.returns-then-d-ne0-2
unfolding record_of
returns-then-d-ne0-2 c = rw (ne_eqb _ 2 c.if-kind-eq2.false, eq-eqb _ 0 c.if-d-ne0.false, ne_eqb _ 0 c.if-d-ne0-2.true)

pub returns-then-kind-eq0 : goal.returns-then-kind-eq0
unfolding record_of
returns-then-kind-eq0 c =
    rw (ne_eqb _ 2 c.if-kind-eq2.false, eq-eqb _ 0 c.if-d-ne0.false, eq-eqb _ 0 c.if-d-ne0-2.false, eq-eqb _ 0 c.if-kind-eq0.true, ← c.decode_row.ensures)
    (row-mapped _ _ _ (mapped (RowAt (record { 0 = c.args.at })) _ _ _ c.map.ensures.cases (λ p y q. search rules)))

pub returns-then-kind-eq1 : goal.returns-then-kind-eq1
unfolding record_of
returns-then-kind-eq1 c =
    rw (ne_eqb _ 2 c.if-kind-eq2.false, eq-eqb _ 0 c.if-d-ne0.false, eq-eqb _ 0 c.if-d-ne0-2.false, ne_eqb _ 0 c.if-kind-eq0.false, eq-eqb _ 1 c.if-kind-eq1.true, ← c.decode_col.ensures)
    (col-mapped _ _ _ (mapped (ColAt (record { 0 = c.args.at })) _ _ _ c.map-then-kind-eq1.ensures.cases (λ p y q. search rules)))

pub returns : goal.returns
unfolding record_of
returns c = rw (ne_eqb _ 2 c.if-kind-eq2.false, eq-eqb _ 0 c.if-d-ne0.false, eq-eqb _ 0 c.if-d-ne0-2.false, ne_eqb _ 0 c.if-kind-eq0.false, ne_eqb _ 1 c.if-kind-eq1.false)
