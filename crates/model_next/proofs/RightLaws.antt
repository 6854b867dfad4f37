-- What bytes that refusal 1 has nothing against say of a model: their length, REFR, and the writes that wait.
-- Assumes nothing.
use Prim.Native.Nat.{ℕ, ◌-◌, ◌<◌, ◌≤◌}
use mathlib.Core.Path.{◌≡◌, refl}
use mathlib.Core.Bool.{Bool, true, false, cond, ◌&&◌}
use mathlib.Core.List.{List, [], ◌∷◌}
use native.Mathlib.Omega.{arith}
use lib.Dec.{eqb, leb, ltb}
use lib.ListN.{length, get_or}
use borrow.Author.Tests.{ltb-true, leb-true, eqb-true, eqb-false}
use Rattle.settings.specs.declared.Settings.{Settings}
use Rattle.spec_rules.specs.declared.Write.{Write}
use Rattle.spec_rules.specs.declared.Buffer.{Buffer}
use Rattle.spec_rules.specs.declared.Buffer.TheVariants.{Empty, One, Two}
use Rattle.spec_rules.specs.Neighbour.{bank_count, context_of}
use Rattle.spec_rules.specs.History.{rest, all_writes}
use Rattle.spec_rules.specs.Channel.{waiting_of}
use Rattle.spec_rules.proofs.Bools.{and_left, and_right}
use Rattle.spec_state.specs.Valid.{write_valid, channel_valid}
use Rattle.spec_state.specs.ChannelBytes.{write_in, buffer_in, channel_in, zero_part, channel_spare}
use Rattle.spec_state.proofs.NextValid.{Sound, valid-sound}
use Rattle.spec_model.specs.Model.{model_valid}
use Rattle.spec_model.specs.ModelBytes.{model_length, model_in, model_right}
use Rattle.model_next.specs.Form.Next.{HeldIn}

-- how many writes wait, and which
pub data Waits (b : List ℕ) (buffer : Buffer) : Type 0 where
  none-waits : get_or b 728 0 ≡ 0 → buffer ≡ Empty → Waits b buffer
  one-waits : get_or b 728 0 ≡ 1 → buffer ≡ One (write_in b 736) → Waits b buffer
  two-wait : get_or b 728 0 ≡ 2 → buffer ≡ Two (write_in b 736) (write_in b 744) → Waits b buffer

waits-by : (b : List ℕ) → get_or b 728 0 ≤ 2 → Waits b (buffer_in b)
unfolding buffer_in
waits-by b l = go (eqb (get_or b 728 0) 0) refl (eqb (get_or b 728 0) 1) refl
  where
    go : (p : Bool) → eqb (get_or b 728 0) 0 ≡ p → (q : Bool) → eqb (get_or b 728 0) 1 ≡ q
        → Waits b (cond p Empty (cond q (One (write_in b 736)) (Two (write_in b 736) (write_in b 744))))
    go true e q f = none-waits (eqb-true (get_or b 728 0) 0 e) refl
    go false e true f = one-waits (eqb-true (get_or b 728 0) 1 f) refl
    go false e false f = two-wait (omega (arith, eqb-false (get_or b 728 0) 0 e, eqb-false (get_or b 728 0) 1 f)) refl

module _ (s : Settings) (b : List ℕ) (r : model_right (context_of s) b ≡ true) where
  pub right-length : length b ≡ 792
  unfolding model_right model_length
  right-length = eqb-true (length b) 792 (and_left (eqb (length b) 792) _ r)

  rest-right : (channel_spare b && zero_part b 754 6) && model_valid (context_of s) (model_in b) ≡ true
  unfolding model_right model_length
  rest-right = and_right (eqb (length b) 792) _ r

  right_valid : model_valid (context_of s) (model_in b) ≡ true
  right_valid = and_right (channel_spare b && zero_part b 754 6) _ rest-right

  pub channel-right : channel_valid (context_of s) (model_in b).channel ≡ true
  unfolding model_valid
  channel-right = and_left (channel_valid (context_of s) (model_in b).channel) _ right_valid

  pub refr-in : (model_in b).refr < s.rows
  unfolding model_valid context_of
  refr-in = ltb-true (model_in b).refr s.rows (and_right (channel_valid (context_of s) (model_in b).channel) _ right_valid)

  pub sound : Sound (context_of s) (model_in b).channel
  sound = valid-sound (context_of s) (model_in b).channel channel-right

  count-in : get_or b 728 0 ≤ 2
  unfolding channel_spare
  count-in =
      let spare = and_left (channel_spare b) (zero_part b 754 6) (and_left (channel_spare b && zero_part b 754 6) _ rest-right) in
      leb-true (get_or b 728 0) 2
      (and_left (leb (get_or b 728 0) 2) _ (and_left (leb (get_or b 728 0) 2 && (leb (get_or b 729 0) 1 && zero_part b 730 6)) _ spare))

  pub waits : Waits b (model_in b).channel.buffer
  unfolding model_in channel_in
  waits = waits-by b count-in

  pub waits-count : length (waiting_of (model_in b).channel.buffer) ≡ get_or b 728 0
  unfolding waiting_of
  waits-count = go waits
    where
      go : Waits b (model_in b).channel.buffer → length (waiting_of (model_in b).channel.buffer) ≡ get_or b 728 0
      go (none-waits e z) = rw (z, e)
      go (one-waits e z) = rw (z, e)
      go (two-wait e z) = rw (z, e)

  pub rest-count : length (rest (waiting_of (model_in b).channel.buffer)) ≡ get_or b 728 0 - 1
  unfolding waiting_of
  rest-count = go waits
    where
      go : Waits b (model_in b).channel.buffer → length (rest (waiting_of (model_in b).channel.buffer)) ≡ get_or b 728 0 - 1
      go (none-waits e z) = rw (z, e)
      go (one-waits e z) = rw (z, e)
      go (two-wait e z) = rw (z, e)

  -- the older write waits for a bank
  older-in : (ws : List Write) → all_writes (write_valid (context_of s)) (write_in b 736 ∷ ws) ≡ true → get_or b 736 0 < 32
  unfolding write_valid bank_count
  older-in ws h = ltb-true (get_or b 736 0) 32 (and_left (ltb (get_or b 736 0) 32) _ (and_left (write_valid (context_of s) (write_in b 736)) _ h))

  pub bank-in : HeldIn b
  unfolding waiting_of
  bank-in n = go waits
    where
      go : Waits b (model_in b).channel.buffer → get_or b 736 0 < 32
      go (none-waits e z) = absurd (eqb-false (get_or b 728 0) 0 n e)
      go (one-waits e z) = older-in [] (rw z at sound.write)
      go (two-wait e z) = older-in (write_in b 744 ∷ []) (rw z at sound.write)
