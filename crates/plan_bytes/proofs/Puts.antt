-- Stores of a planner's own numbers, and of a channel's numbers and now.
-- Assumes nothing.
use Prim.Native.Nat.{ℕ, ◌+◌, ◌-◌, ◌<◌}
use mathlib.Core.Path.{◌≡◌, sym, ap, ◌∙◌}
use mathlib.Core.Bool.{false}
use mathlib.Core.List.{List, ◌++◌}
use native.Mathlib.Omega.{arith}
use lib.ListN.{length}
use Rattle.num.specs.Bytes.{bytes, splice, zeros}
use Rattle.num.proofs.ByteLaws.{length-bytes}
use Rattle.num.proofs.SpliceLaws.{splice-left, splice-right, splice-whole, length-zeros}
use Rattle.spec_rules.specs.declared.Buffer.{Buffer}
use Rattle.spec_rules.specs.declared.Buffer.TheVariants.{Empty, One, Two}
use Rattle.spec_rules.specs.declared.Channel.{Channel}
use Rattle.spec_state.specs.ChannelBytes.{channel_bytes}
use Rattle.spec_state.specs.Form.Stores.{put}
use Rattle.spec_state.proofs.Lengths.{channel-length}
use Rattle.spec_state.proofs.StoreLaws.{WriteIn}
use Rattle.spec_plan.specs.declared.PlannerState.{PlannerState}
use Rattle.spec_plan.specs.PlannerBytes.{planner_bytes}

-- ---- the planner's own numbers

-- a number stored where one stands
over : (n v w : ℕ) (q : List ℕ) → splice (bytes n v ++ q) 0 (bytes n w) ≡ bytes n w ++ q
over n v w q =
    let e : length (bytes n w) ≡ length (bytes n v) = length-bytes n w ∙ sym (length-bytes n v) in
    splice-left (bytes n v) q 0 (bytes n w) (omega arith) ∙ ap (λ (l : List ℕ). l ++ q) (splice-whole (bytes n v) (bytes n w) e)

past : (xs q : List ℕ) (k at : ℕ) (vs ws : List ℕ) → length xs ≡ k → splice q at vs ≡ ws → splice (xs ++ q) (k + at) vs ≡ xs ++ ws
past xs q k at vs ws e h = splice-right xs q k at vs e ∙ ap (λ (l : List ℕ). xs ++ l) h

-- the bytes of a planner, by now as it is stored, refresh bank and masks
abbrev whole : Channel → ℕ → ℕ → ℕ → ℕ → List ℕ
whole ch t f m n = channel_bytes ch ++ (bytes 4 t ++ (bytes 2 f ++ (zeros 2 ++ (bytes 2 m ++ (bytes 2 n ++ zeros 4)))))

module _ (ch : Channel) (t f m n v : ℕ) where
  now-put : put (whole ch t f m n) 752 v ≡ whole ch v f m n
  now-put = past (channel_bytes ch) _ 752 0 (bytes 4 v) _ (channel-length ch) (over 4 t v _)

  refresh-put : splice (whole ch t f m n) 756 (bytes 2 v) ≡ whole ch t v m n
  refresh-put = past (channel_bytes ch) _ 752 4 (bytes 2 v) _ (channel-length ch) (past (bytes 4 t) _ 4 0 (bytes 2 v) _ (length-bytes 4 t) (over 2 f v _))

  mask-put : splice (whole ch t f m n) 760 (bytes 2 v) ≡ whole ch t f v n
  mask-put =
      past (channel_bytes ch) _ 752 8 (bytes 2 v) _ (channel-length ch)
      (past (bytes 4 t) _ 4 4 (bytes 2 v) _ (length-bytes 4 t)
      (past (bytes 2 f) _ 2 2 (bytes 2 v) _ (length-bytes 2 f) (past (zeros 2) _ 2 0 (bytes 2 v) _ (length-zeros 2) (over 2 m v _))))

  second-put : splice (whole ch t f m n) 762 (bytes 2 v) ≡ whole ch t f m v
  second-put =
      past (channel_bytes ch) _ 752 10 (bytes 2 v) _ (channel-length ch)
      (past (bytes 4 t) _ 4 6 (bytes 2 v) _ (length-bytes 4 t)
      (past (bytes 2 f) _ 2 4 (bytes 2 v) _ (length-bytes 2 f) (past (zeros 2) (bytes 2 m ++ (bytes 2 n ++ zeros 4)) 2 2 (bytes 2 v) _ (length-zeros 2) (past (bytes 2 m) _ 2 0 (bytes 2 v) _ (length-bytes 2 m) (over 2 n v _)))))

-- another now, another refresh bank, other masks
pub now-stored : (p : PlannerState) (t : ℕ) → put (planner_bytes p) 752 (t - 3) ≡ planner_bytes (record { channel = p.channel; now = record { 0 = t }; refresh = p.refresh; mask = p.mask; second = p.second })
unfolding planner_bytes
now-stored p t = now-put p.channel (p.now.0 - 3) p.refresh p.mask p.second (t - 3)

pub refresh-stored : (p : PlannerState) (v : ℕ) → splice (planner_bytes p) 756 (bytes 2 v) ≡ planner_bytes (record { channel = p.channel; now = p.now; refresh = v; mask = p.mask; second = p.second })
unfolding planner_bytes
refresh-stored p v = refresh-put p.channel (p.now.0 - 3) p.refresh p.mask p.second v

pub mask-stored : (p : PlannerState) (v : ℕ) → splice (planner_bytes p) 760 (bytes 2 v) ≡ planner_bytes (record { channel = p.channel; now = p.now; refresh = p.refresh; mask = v; second = p.second })
unfolding planner_bytes
mask-stored p v = mask-put p.channel (p.now.0 - 3) p.refresh p.mask p.second v

pub second-stored : (p : PlannerState) (v : ℕ) → splice (planner_bytes p) 762 (bytes 2 v) ≡ planner_bytes (record { channel = p.channel; now = p.now; refresh = p.refresh; mask = p.mask; second = v })
unfolding planner_bytes
second-stored p v = second-put p.channel (p.now.0 - 3) p.refresh p.mask p.second v

-- ---- packets

-- what the stores of a packet ask of a state: all banks, waiting writes that fit their bytes, no data due
pub record Plain (ch : Channel) : Type 0 where
  pub size : length ch.banks ≡ 32
  pub write : WriteIn ch.buffer
  pub no_due : ch.due ≡ false

-- the channel's numbers, then now
pub then-now : (p : PlannerState) (next : Channel) (stored : List ℕ → List ℕ) (t : ℕ) → ((q : List ℕ) → stored (channel_bytes p.channel ++ q) ≡ channel_bytes next ++ q)
    → put (stored (planner_bytes p)) 752 (t - 3) ≡ planner_bytes (record { channel = next; now = record { 0 = t }; refresh = p.refresh; mask = p.mask; second = p.second })
unfolding planner_bytes
then-now p next stored t h = ap (λ (b : List ℕ). put b 752 (t - 3)) (h _) ∙ now-put next (p.now.0 - 3) p.refresh p.mask p.second (t - 3)

-- the waiting writes are for banks
abbrev pub BankIn : Buffer → Type 0
BankIn Empty = Unit {0}
BankIn (One x) = x.bank < 32
BankIn (Two x y) = (x.bank < 32) × (y.bank < 32)
