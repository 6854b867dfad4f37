-- `put_lines` meets its contract: after i turns the lines of the first i records are put.
use mathlib.Core.Path.{◌≡◌}
use Prim.Native.Nat.{◌+◌, ◌*◌, ◌≤◌}
use Rattle.spec_check.specs.Check.{records_up_to}
use Rattle.listing_text.specs.Text.{Put, line_room, write_bank_after, write_column_after, record_lines}
use Rattle.settings.specs.Bench.{set_h}
use Rattle.listing_text.proofs.lines.put_lines.Given as goal

abbrev pub invariant-loop-i : goal.invariant-loop-i
invariant-loop-i l = record {
  bank : l.latest.bank ≡ write_bank_after l.initial.latest.bank (records_up_to set_h l.room l.i);
  column : l.latest.column ≡ write_column_after l.initial.latest.column (records_up_to set_h l.room l.i);
  lines : Put l.initial.out l.at (record_lines l.initial.latest.bank l.initial.latest.column (records_up_to set_h l.room l.i)) l.out l.end;
  within : l.end ≤ l.at + line_room * l.i;
}
