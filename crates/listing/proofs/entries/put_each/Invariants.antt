-- `put_each` meets its contract: at each turn planner, records and text are those of the requests before the next one.
use Prim.Native.Nat.{◌-◌}
use Rattle.listing.proofs.entries.StepLaws.{Given, Listed}
use Rattle.listing.proofs.entries.put_each.Given as goal

abbrev pub invariant-loop-i : goal.invariant-loop-i
invariant-loop-i l = record {
  given : Given l.input l.initial.out;
  listed : Listed l.input l.initial.out l.planner l.out l.latest.bank l.latest.column l.records l.end l.i;
}

abbrev pub decreases-loop-i : goal.decreases-loop-i
decreases-loop-i l = l.n - l.i
