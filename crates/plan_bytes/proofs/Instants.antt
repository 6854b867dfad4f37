-- Stored instants: the instant that a stored number says goes through the later of two and through a distance.
-- Assumes nothing.
use Rattle.std.specs.Prelude.{Option, None}
use Prim.Native.Nat.{ℕ, ◌+◌, ◌-◌, ◌≤◌, max}
use mathlib.Core.Path.{◌≡◌, refl, ap, ◌∙◌}
use mathlib.Core.Bool.{false}
use mathlib.Core.List.{List, [], ◌∷◌}
use native.Mathlib.Omega.{arith}
use Rattle.record.specs.declared.Record.{Record}
use Rattle.spec_rules.specs.declared.Write.{Write}
use Rattle.spec_rules.specs.declared.Channel.{Channel}
use Rattle.spec_rules.specs.Neighbour.{Context}
use Rattle.spec_rules.specs.Packets.{traits}
use Rattle.spec_rules.specs.Checks.{since, bounds}
use Rattle.spec_rules.specs.Earliest.{bound_implied, earliest, slot_from}
use Rattle.spec_state.specs.ChannelBytes.{instant_of}
use Rattle.chan_view.proofs.BoundLaws.{since-max}
use Rattle.spec_plan.specs.declared.PlannerState.{PlannerState}
use Rattle.plan_bytes.proofs.Since.{either-instant, since-some, since_none}

pub said-max : (a b : ℕ) → instant_of (max a b) ≡ max (instant_of a) (instant_of b)
said-max a b = since-max a b 3

-- a distance after a stored instant
pub said-since : (a g : ℕ) → instant_of (since a g) ≡ since (instant_of a) g
said-since a g =
    either-instant (λ a. instant_of (since a g) ≡ since (instant_of a) g) a refl
    (λ l. rw (since-some a g l, since-some a 3 l, since-some (a + g) 3 (omega arith), since-some (a + 3) g (omega arith)) (omega arith))

-- an instant is its stored number and 3
pub said-some : (a : ℕ) → 1 ≤ a → instant_of a ≡ a + 3
said-some a l = since-some a 3 l

pub some-said : (a : ℕ) → 4 ≤ instant_of a → 1 ≤ a
some-said a = either-instant (λ a. 4 ≤ instant_of a → 1 ≤ a) a (λ h. absurd (omega arith)) (λ l _. l)

-- a bound of the instant is one of the number, and back
pub said-top : (a top : ℕ) → instant_of a ≤ top + 3 → a ≤ top
said-top a top = either-instant (λ a. instant_of a ≤ top + 3 → a ≤ top) a (λ h. omega arith) (λ l h. omega (arith, said-some a l))

pub top-said : (a top : ℕ) → a ≤ top → instant_of a ≤ top + 3
top-said a top = either-instant (λ a. a ≤ top → instant_of a ≤ top + 3) a (λ h. omega arith) (λ l h. omega (arith, said-some a l))

-- now, which is at least 4, the last packet and one more bound before the others
floor : (n l r k : ℕ) → 4 ≤ n → max n (max 4 (max l (max r k))) ≡ max (max (max n l) r) k
floor n l r k h = let e : max n 4 ≡ n = omega arith in simp (max-left, e)
  where
    max-left : (a b c : ℕ) → max a (max b c) ≡ max (max a b) c
    max-left a b c = omega arith

-- the floor of a packet: now, the last packet and one more bound
pub floored : (p : PlannerState) → 4 ≤ p.now.0 → (base k : ℕ)
    → max p.now.0 (max 4 (max (since p.channel.lasts.packet.0 0) (max base k))) ≡ max (max (max p.now.0 p.channel.lasts.packet.0) base) k
floored p low base k = rw (since_none p.channel.lasts.packet.0) (floor p.now.0 p.channel.lasts.packet.0 base k low)

-- a packet that implies no PRER is asked for itself alone
pub own-earliest : (cx : Context) (ch : Channel) (r : Record) → (traits r).implies ≡ None → earliest cx ch r ≡ max 4 (bounds cx ch (traits r))
unfolding earliest
own-earliest cx ch r e = ap (λ (o : Option ℕ). max 4 (max (bounds cx ch (traits r)) (bound_implied cx ch r o - cx.settings.offp))) e ∙ go (bounds cx ch (traits r)) cx.settings.offp
  where
    go : (n g : ℕ) → max 4 (max n (0 - g)) ≡ max 4 n
    go n g = omega arith

-- what the table asks tOFFP after a packet that has an instant
pub said-less : (a v n g : ℕ) → 1 ≤ v → instant_of v ≡ n → instant_of (max v (a - g)) ≡ max n (instant_of a - g)
said-less a v n g l e = rw (← e, said-max v (a - g), said-some v l) (either-instant (λ a. max (v + 3) (instant_of (a - g)) ≡ max (v + 3) (instant_of a - g)) a (None g) (some-a a))
  where
    None : (g : ℕ) → max (v + 3) (instant_of (0 - g)) ≡ max (v + 3) (instant_of 0 - g)
    None g = let z : 0 - g ≡ 0 = omega arith in rw z refl

    some-a : (a : ℕ) → 1 ≤ a → max (v + 3) (instant_of (a - g)) ≡ max (v + 3) (instant_of a - g)
    some-a a m = rw (said-some a m) (either-instant (λ z. a - g ≡ z → max (v + 3) (instant_of z) ≡ max (v + 3) (a + 3 - g)) (a - g) (λ q. omega (arith, q)) (λ o q. rw (said-some (a - g) o) (omega arith)) refl)

-- a packet that retires nothing stands where it would with no write waiting
pub kept_slot : (cx : Context) (ch : Channel) (r : Record) → (traits r).not_read ≡ false → (t : ℕ) (ws : List Write) → slot_from cx ch r t ws ≡ t
kept_slot cx ch r e t [] = refl
kept_slot cx ch r e t (w ∷ ws) = rw e
