-- `model_store::touching::retire_touch` meets its contract: by the state of the buffer.
use Rattle.std.specs.Prelude.{None}
use Prim.Native.Nat.{ℕ}
use mathlib.Core.Path.{◌≡◌, refl}
use mathlib.Core.Bool.{Bool, true, false}
use Rattle.spec_rules.specs.declared.Bank.{Bank}
use Rattle.spec_rules.specs.History.{only_write}
use Rattle.spec_rules.specs.Channel.{waiting_of}
use Rattle.model_store.specs.declared.Touch.TheVariants.{Nothing}
use Rattle.model_store.specs.Form.Touch.{retire_touch}
use Rattle.model_store.proofs.touching.retire_touch.Goals as goal

-- where no write waits, none leaves
no_write : (leaves : Bool) (held : Bank) (mask : ℕ) → Nothing ≡ retire_touch (only_write leaves None) held mask
unfolding retire_touch
no_write true held mask = refl
no_write false held mask = refl

pub returns-in-Empty : goal.returns-in-Empty
unfolding waiting_of
returns-in-Empty c =
    let a = c.args in rw c.in-Empty.is (no_write a.leaves a.held.bank a.mask)

pub returns-in-One : goal.returns-in-One
unfolding waiting_of
returns-in-One c = rw c.in-One.is c.leave_touch.ensures

pub returns-in-Two : goal.returns-in-Two
unfolding waiting_of
returns-in-Two c = rw c.in-Two.is c.leave_touch-in-Two.ensures
