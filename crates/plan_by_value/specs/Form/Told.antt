-- What a test in code gives.
-- Assumes nothing.
use Rattle.std.specs.Prelude.{◌≡◌, Bool}

-- of each argument that which `asks` says of it
pub record Tells {A : Type 0} (gives : A → Bool → Type 0) (asks : A → Bool) : Type 0 where
  pub told : (x : A) (r : Bool) → gives x r → r ≡ asks x
