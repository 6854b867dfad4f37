-- `put_lines` meets its contract: after i turns the lines of the first i records are put.
use mathlib.Core.Path.{◌≡◌, refl, sym, ◌∙◌, ap}
use mathlib.Core.List.{List, [], ◌∷◌, ◌++◌}
use Prim.Native.Nat.{ℕ, ◌+◌, ◌*◌}
use native.Mathlib.Nat.{add-zero}
use native.Mathlib.Omega.{arith}
use native.Mathlib.Numerals.{add-one}
use Rattle.num.proofs.SpliceLaws.{splice-none}
use Rattle.num.specs.Bytes.{part}
use Rattle.settings.specs.declared.Settings.{Settings}
use Rattle.record.specs.declared.Record.{Record}
use Rattle.record.specs.Record.{record_read}
use Rattle.spec_check.specs.Check.{known, records_up_to}
use Rattle.listing_text.specs.Text.{write_bank, write_column, write_bank_after, write_column_after, record_lines}
use Rattle.settings.specs.Bench.{set_h}
use Rattle.listing_text.proofs.LineLaws.{bank-next, column-next, line-next}
use Rattle.listing_text.proofs.lines.put_lines.Goals as goal

-- the records read so far, and the next one
next : (s : Settings) → s ≡ set_h → (room : List ℕ) (i : ℕ) (r : Record) → r ≡ known (record_read s (part room (32 * i) 32)) → records_up_to set_h room (i + 1) ≡ records_up_to set_h room i ++ (r ∷ [])
unfolding records_up_to
next s es room i r e = rw (add-one, e, es)

pub loop-i-init : goal.loop-i-init
unfolding records_up_to record_lines write_bank_after write_column_after
loop-i-init c = record {
  bank = refl;
  column = refl;
  lines = (sym (add-zero _), splice-none c.args.out.now c.args.at);
  within = omega arith;
}

pub loop-i-preserved : goal.loop-i-preserved
loop-i-preserved c =
    let k = c.loop-i in
    let v = k.invariant in
    let a = c.args in
    let r = c.record_at-r.result in
    let e = next c.set_h-s.result c.set_h-s.ensures a.room.now k.i r c.record_at-r.ensures in
    let h = c.latest_after-latest.ensures in
    let old = records_up_to set_h a.room.now k.i in
    rw e
    (record {
      bank = h.0 ∙ ap (write_bank r) v.bank ∙ sym (bank-next a.before.bank old r);
      column = h.1 ∙ ap (write_column r) v.column ∙ sym (column-next a.before.column old r);
      lines = line-next a.out.now a.at a.before.bank a.before.column old r k.latest.bank k.latest.column (omega (arith, v.within)) v.bank v.column v.lines c.put_record_line-end.ensures.0;
      within = omega (arith, v.within, c.put_record_line-end.ensures.1);
    })

pub returns : goal.returns
returns c =
    let v = c.loop-i.invariant in
    let e : c.loop-i.i ≡ c.args.n = omega arith in
    record {
      put = (rw e at v.lines, omega (arith, e, v.within));
      bank_value = (rw e at v.bank, rw e at v.column);
    }
