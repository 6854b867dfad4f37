-- `model_store::put_masked` meets its contract: after i turns the first i bytes are written where their bits are 1.
use Prim.Native.Nat.{◌/◌, ◌^◌}
use mathlib.Core.Path.{◌≡◌}
use Rattle.model_store.specs.Form.Touch.{masked_up_to}
use Rattle.model_store.proofs.put_masked.Given as goal

abbrev pub invariant-loop-i : goal.invariant-loop-i
invariant-loop-i l = (l.bits ≡ l.mask / 2 ^ l.i) × (l.store ≡ masked_up_to l.initial.store l.at l.mask l.new l.i)
