-- What the bytes of a planner say of its banks and of the waiting writes.
-- Assumes nothing.
use Prim.Native.Nat.{ℕ, ◌<◌, ◌≤◌}
use mathlib.Core.Path.{◌≡◌, refl}
use mathlib.Core.Bool.{Bool, true, false, cond, not}
use mathlib.Core.List.{List, [], ◌∷◌}
use native.Mathlib.Omega.{arith}
use borrow.Author.Tests.{eqb-true, eqb-false, ne_eqb, ltb-true, ltb-false}
use lib.Dec.{eqb}
use lib.ListN.{length, get_or}
use Rattle.spec_rules.specs.declared.Buffer.{Buffer}
use Rattle.spec_rules.specs.declared.Buffer.TheVariants.{Empty, One, Two}
use Rattle.spec_rules.specs.Neighbour.{bank_count}
use Rattle.spec_rules.specs.declared.Write.{Write}
use Rattle.spec_rules.specs.Channel.{track_of, waiting_of}
use Rattle.spec_rules.proofs.Bools.{not-both}
use Rattle.spec_state.specs.ChannelBytes.{track_in, buffer_in, write_in, channel_in}
use Rattle.spec_state.proofs.PlaneLaws.{length-tracks, tracks-at}
use Rattle.spec_plan.specs.PlannerBytes.{planner_in}
use Rattle.plan_bytes.specs.Form.Numbers.{waits_in, two_in}

-- the WR of the older waiting write, if one waits, has an instant
abbrev pub Early : Buffer → Type 0
Early Empty = Unit {0}
Early (One x) = 4 ≤ x.at.0
Early (Two x y) = 4 ≤ x.at.0

-- what waits behind the older write
abbrev pub rest_in : List ℕ → List Write
rest_in b = cond (two_in b) (write_in b 744 ∷ []) []

module _ (b : List ℕ) where
  pub sized : length (planner_in b).channel.banks ≡ 32
  unfolding planner_in channel_in bank_count
  sized = length-tracks b 32

  pub track-at : (x : ℕ) → x < 32 → track_of (planner_in b).channel x ≡ track_in b x
  unfolding planner_in channel_in bank_count
  track-at x l = tracks-at b 32 x l

  -- the waiting writes
  abbrev says : Bool → Bool → Buffer
  says p q = cond p Empty (cond q (One (write_in b 736)) (Two (write_in b 736) (write_in b 744)))

  pub two-waits : two_in b ≡ true → waits_in b ≡ true
  two-waits e = rw (ne_eqb (get_or b 728 0) 0 (λ z. omega (arith, ltb-true 1 (get_or b 728 0) e)))

  pub two_is : two_in b ≡ true → (planner_in b).channel.buffer ≡ Two (write_in b 736) (write_in b 744)
  unfolding planner_in channel_in buffer_in
  two_is e = go (eqb (get_or b 728 0) 0) (eqb (get_or b 728 0) 1) refl refl
    where
      go : (p q : Bool) → eqb (get_or b 728 0) 0 ≡ p → eqb (get_or b 728 0) 1 ≡ q → says p q ≡ Two (write_in b 736) (write_in b 744)
      go true q f g = absurd (omega (arith, ltb-true 1 (get_or b 728 0) e, eqb-true (get_or b 728 0) 0 f))
      go false true f g = absurd (omega (arith, ltb-true 1 (get_or b 728 0) e, eqb-true (get_or b 728 0) 1 g))
      go false false f g = refl

  pub one-is : waits_in b ≡ true → two_in b ≡ false → (planner_in b).channel.buffer ≡ One (write_in b 736)
  unfolding planner_in channel_in buffer_in
  one-is w e = go (eqb (get_or b 728 0) 0) (eqb (get_or b 728 0) 1) refl refl w
    where
      go : (p q : Bool) → eqb (get_or b 728 0) 0 ≡ p → eqb (get_or b 728 0) 1 ≡ q → not p ≡ true → says p q ≡ One (write_in b 736)
      go true q f g h = not-both false h refl
      go false true f g h = refl
      go false false f g h = absurd (omega (arith, ltb-false 1 (get_or b 728 0) e, eqb-false (get_or b 728 0) 0 f, eqb-false (get_or b 728 0) 1 g))

  pub none_is : waits_in b ≡ false → (planner_in b).channel.buffer ≡ Empty
  unfolding planner_in channel_in buffer_in
  none_is e = go (eqb (get_or b 728 0) 0) (eqb (get_or b 728 0) 1) e
    where
      go : (p q : Bool) → not p ≡ false → says p q ≡ Empty
      go true q h = refl
      go false q h = not-both true refl h

  -- as a list
  pub waiting-is : waits_in b ≡ true → waiting_of (planner_in b).channel.buffer ≡ write_in b 736 ∷ rest_in b
  unfolding waiting_of
  waiting-is w = go (two_in b) refl
    where
      go : (q : Bool) → two_in b ≡ q → waiting_of (planner_in b).channel.buffer ≡ write_in b 736 ∷ cond q (write_in b 744 ∷ []) []
      go true e = rw (two_is e)
      go false e = rw (one-is w e)
