-- When data come, by the instant of their packet: in time, and at an instant in range; and implied PRERs in time.
-- Assumes nothing.
use Prim.Native.Nat.{ℕ, ◌+◌, max}
use mathlib.Core.Path.{◌≡◌, refl, ap}
use mathlib.Core.Bool.{Bool, true, false, ◌&&◌, ◌||◌, cond, and-true}
use native.Mathlib.Nat.{add-zero}
use native.Mathlib.Omega.{arith}
use borrow.Author.Tests.{leb-true, leb-false, ne_eqb}
use lib.Dec.{eqb, leb}
use Rattle.settings.specs.declared.Settings.{Settings}
use Rattle.settings.specs.declared.PacketAt.{PacketAt}
use Rattle.settings.specs.declared.DataAt.{DataAt}
use Rattle.settings.specs.Instants.{horizon, is_instant, arrival}
use Rattle.spec_rules.proofs.Bools.{and_right, leb-max}
use Rattle.chan_view.specs.declared.View.{View}
use Rattle.chan_view.specs.declared.Held.{Held}
use Rattle.chan_view.specs.Form.View.{delay_of}
use Rattle.chan_judge.specs.Form.Tests.{in_time, comes_at, data_in_time, data_rule}

pub arrives-in-time : (p : PacketAt) (delay : ℕ) → in_time (arrival p delay) ≡ leb (p.0 + delay) horizon
unfolding arrival in_time
arrives-in-time p delay = go (leb (p.0 + delay) horizon) refl
  where
    go : (c : Bool) → leb (p.0 + delay) horizon ≡ c → in_time (arrival p delay) ≡ c
    go true e = rw e
    go false e = rw e

-- data at an instant in range are not late
pub arrives_at : (t : DataAt) (p : PacketAt) (delay : ℕ) → is_instant t.0 ≡ true → comes_at t (arrival p delay) ≡ eqb t.0 (p.0 + delay)
unfolding arrival comes_at
arrives_at t p delay r = go (leb (p.0 + delay) horizon) refl
  where
    go : (c : Bool) → leb (p.0 + delay) horizon ≡ c → comes_at t (arrival p delay) ≡ eqb t.0 (p.0 + delay)
    go true e = rw e
    go false e =
        let late = leb-false (p.0 + delay) horizon e in
        let early = leb-true t.0 horizon (and_right (leb 4 t.0) _ r) in
        rw (e, ne_eqb t.0 (p.0 + delay) (λ q. omega arith))

-- so rule 15 may ask for the arrival
pub data-rule-is : (s : Settings) (h : Held) (t : DataAt) → cond (is_instant t.0) (cond (h.due && comes_at t (arrival h.newest s.cwd)) 0 15) 1 ≡ data_rule s h t
unfolding data_rule
data-rule-is s h t = go (is_instant t.0) refl
  where
    go : (c : Bool) → is_instant t.0 ≡ c
        → ◌≡◌ {A = ℕ} (cond c (cond (h.due && comes_at t (arrival h.newest s.cwd)) 0 15) 1) (cond c (cond (h.due && eqb t.0 (h.newest.0 + s.cwd)) 0 15) 1)
    go true e = rw (arrives_at t h.newest s.cwd e)
    go false e = refl

-- what a packet sets is in time: its data, and the PRER that it implies by itself or by a retire
module _ (s : Settings) (v : View) where
  abbrev at : ℕ
  at = v.at.0

  abbrev within : ℕ → Bool
  within delay = leb (at + delay) horizon

  pub in-time : (closing : Bool)
      → (is_instant at && (within (delay_of s v) && within (cond closing s.offp 0)))
      ≡ (is_instant at && (data_in_time s v && within (cond ((v.reads && v.close) || closing) s.offp 0)))
  in-time closing = go v.reads v.close v.writes closing
    where
      now : (a c b : Bool) → ((a && c) && (c && b)) ≡ ((a && c) && b)
      now true true b = refl
      now true false b = refl
      now false c b = refl

      now-last : (a c b : Bool) → ((a && c) && (b && c)) ≡ ((a && c) && b)
      now-last true true b = and-true b
      now-last true false b = refl
      now-last false c b = refl

      same : (a b : Bool) → ((a && b) && b) ≡ (a && b)
      same true true = refl
      same true false = refl
      same false b = refl

      largest : within (max s.cac s.offp) ≡ (within s.cac && within s.offp)
      largest = let d : at + max s.cac s.offp ≡ max (at + s.cac) (at + s.offp) = omega arith in rw d (leb-max (at + s.cac) (at + s.offp) horizon)

      go : (reads close writes closing : Bool)
          → (is_instant at && (within (cond reads (cond close (max s.cac s.offp) s.cac) (cond writes s.cwd 0)) && within (cond closing s.offp 0)))
          ≡ (is_instant at && (cond reads (within s.cac) (cond writes (within s.cwd) true) && within (cond ((reads && close) || closing) s.offp 0)))
      go true true writes true = rw largest (ap (λ (b : Bool). is_instant at && b) (same (within s.cac) (within s.offp)))
      go true true writes false = rw (largest, add-zero at) (now-last (leb 4 at) (leb at horizon) (within s.cac && within s.offp))
      go true false writes closing = refl
      go false close true closing = refl
      go false close false closing = rw (add-zero at) (now (leb 4 at) (leb at horizon) (within (cond closing s.offp 0)))
