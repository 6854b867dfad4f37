-- `chan_judge::acts::act_by` meets its contract: asked is what the banks below x ask, in every turn.
use Prim.Native.Nat.{ℕ, ◌<◌}
use mathlib.Core.Path.{◌≡◌}
use mathlib.Core.List.{List}
use lib.ListN.{get_or}
use Rattle.settings.specs.declared.PacketAt.{PacketAt}
use Rattle.spec_rules.specs.declared.BankTrack.{BankTrack}
use Rattle.spec_rules.specs.Channel.{idle}
use Rattle.spec_rules.specs.Checks.{max_up_to}
use Rattle.chan_judge.specs.Form.Tests.{act_term}
use Rattle.chan_judge.proofs.acts.act_by.Given as goal

abbrev pub invariant-loop-x : goal.invariant-loop-x
invariant-loop-x g l =
    (banks : List BankTrack) → ((x : ℕ) (t : PacketAt) → x < 32 → goal.F-post g l.opened x t → t ≡ (get_or banks x idle).opened)
    → l.asked ≡ max_up_to (act_term l.s banks l.b) l.x
