-- `plan_by_value::records::put_list` meets its contract: the records before i are put.
use mathlib.Core.Path.{◌≡◌}
use Rattle.num.specs.Bytes.{splice}
use Rattle.spec_plan.specs.Call.{list_bytes}
use Rattle.plan_by_value.specs.Form.Drawn.{records_of}
use Rattle.plan_by_value.proofs.records.put_list.Given as goal

abbrev pub invariant-loop-i : goal.invariant-loop-i
invariant-loop-i l = l.room ≡ splice l.initial.room 0 (list_bytes l.s (records_of l.list l.i))
