-- The waiting writes directly after a WRA: it is the newest, and the one before it, if there is one, does not close its bank.
-- Assumes nothing.
use Rattle.std.specs.Prelude.{ℕ, ◌≡◌, true, false, List}
use Rattle.spec_state.specs.ChannelBytes.{write_in}
use Rattle.plan_bytes.specs.Form.Numbers.{waits_in, held_closes, two_in}

pub record NewestCloses (b : List ℕ) : Type 0 where
  pub waits : waits_in b ≡ true
  pub alone : two_in b ≡ false → held_closes b ≡ true
  pub older : two_in b ≡ true → held_closes b ≡ false
  pub newer : two_in b ≡ true → (write_in b 744).close ≡ true
