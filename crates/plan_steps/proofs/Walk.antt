-- The walk of close: it goes on while open banks are left, so that its turns are the banks that close looks at.
-- Assumes nothing.
use Prim.Native.Nat.{ℕ, zero, suc, ◌+◌, ◌-◌, ◌<◌, ◌≤◌}
use mathlib.Core.Path.{◌≡◌, refl, sym, ap, ◌∙◌}
use mathlib.Core.Bool.{Bool, true, false, not, cond}
use mathlib.Core.List.{List}
use native.Mathlib.Numerals.{add-one}
use native.Mathlib.Omega.{arith}
use borrow.Author.Tests.{leb-true, leb-false, le-leb}
use lib.Dec.{leb}
use Rattle.settings.specs.declared.Settings.{Settings}
use Rattle.spec_rules.specs.declared.Bank.{Bank}
use Rattle.spec_rules.specs.Neighbour.{bank_count, Context, context_of}
use Rattle.spec_rules.specs.History.{is_closed}
use Rattle.spec_plan.specs.Plan.{Draft, when, state_in, closed, closed_up_to, planned_close}
use Rattle.spec_plan.specs.Looked.{looked_up_to}
use Rattle.spec_plan.specs.PlannerBytes.{planner_in}
use Rattle.spec_plan.proofs.SentLaws.{Sized, Plain}
use Rattle.spec_plan.proofs.CallLaws.{Rest}
use Rattle.spec_plan.proofs.LookedLaws.{looked-open, looked-le, looked-above, up-to-rest, up-to-ahead}
use Rattle.plan_bytes.specs.Form.Drawn.{drafted, Rested, Fits, Drawn}
use Rattle.plan_bytes.proofs.ReadyLaws.{at_rest}
use Rattle.plan_bytes.proofs.Again.{AtRest}
use Rattle.plan_steps.specs.Form.Opened.{opened, open_up_to}
use Rattle.plan_steps.proofs.Ranges.{up-to-ext}
use Rattle.plan_steps.proofs.Stepwise.{up-to-after, first-drawn, turn-fits, turn-drawn}

module _ (state : ℕ → Bank) where
  pub opens-next : (n : ℕ) → open_up_to state (n + 1) ≡ open_up_to state n + opened (state n)
  unfolding open_up_to
  opens-next n = ap (open_up_to state) (add-one n)

  one-most : (q : Bool) → cond q 0 1 ≤ 1
  one-most true = omega arith
  one-most false = omega arith

  pub opens-few : (n : ℕ) → open_up_to state n + opened (state n) ≤ n + 1
  unfolding open_up_to
  opens-few zero = omega (arith, one-most (is_closed (state 0)))
  opens-few (suc n) = omega (arith, opens-few n, one-most (is_closed (state (suc n))))

  -- a turn of the count
  pub opens-step : (n count one : ℕ) → count ≡ open_up_to state n → one ≡ opened (state n) → count + one ≡ open_up_to state (n + 1)
  opens-step n count one e f = omega (arith, opens-next n, e, f)

  pub opens-le : (k n : ℕ) → k ≤ n → open_up_to state k ≤ open_up_to state n
  unfolding open_up_to
  opens-le k zero l = let e : k ≡ 0 = omega arith in rw e (omega arith)
  opens-le k (suc n) l = go (leb k n) refl (opens-le k n)
    where
      go : (b : Bool) → leb k n ≡ b → (k ≤ n → open_up_to state k ≤ open_up_to state n) → open_up_to state k ≤ open_up_to state n + opened (state n)
      go true e ih = omega (arith, ih (leb-true k n e))
      go false e ih = let f : k ≡ suc n = omega (arith, leb-false k n e) in rw f (omega arith)

  -- closed banks add none
  opens-rest : (k n : ℕ) → k ≤ n → ((x : ℕ) → k ≤ x → x < n → is_closed (state x) ≡ true) → open_up_to state n ≡ open_up_to state k
  unfolding open_up_to
  opens-rest k zero l h = let e : k ≡ 0 = omega arith in rw e
  opens-rest k (suc n) l h = go (leb k n) refl (opens-rest k n)
    where
      go : (b : Bool) → leb k n ≡ b → (k ≤ n → ((x : ℕ) → k ≤ x → x < n → is_closed (state x) ≡ true) → open_up_to state n ≡ open_up_to state k)
          → open_up_to state n + opened (state n) ≡ open_up_to state k
      go true e ih =
          let m : k ≤ n = leb-true k n e in
          rw (h n m (omega arith), ih m (λ x i j. h x i (omega arith))) (omega arith)
      go false e ih = let f : k ≡ suc n = omega (arith, leb-false k n e) in rw f

  module _ (k n left : ℕ) (l : k ≤ n) (e : left + open_up_to state k ≡ open_up_to state n) where
    -- where an open bank is left, this bank is among those that are looked at
    pub walk_more : 0 < left → k < looked_up_to state n
    walk_more m = go (leb (looked_up_to state n) k) refl
      where
        go : (b : Bool) → leb (looked_up_to state n) k ≡ b → k < looked_up_to state n
        go true q =
            let below : looked_up_to state n ≤ k = leb-true _ _ q in
            absurd (omega (arith, opens-rest k n l (λ x i j. looked-above state n x (omega arith) j)))
        go false q = leb-false _ _ q

    -- one that is open is one of those that are left
    pub walk-less : k < n → opened (state k) ≤ left
    walk-less m = omega (arith, opens-next k, opens-le (k + 1) n (omega arith))

    -- and where none is left, it and the ones after it are not
    pub walk-done : left ≡ 0 → looked_up_to state n ≤ k
    walk-done z = last (looked_up_to state n) refl (leb (looked_up_to state n) k) refl
      where
        last : (v : ℕ) → looked_up_to state n ≡ v → (b : Bool) → leb (looked_up_to state n) k ≡ b → looked_up_to state n ≤ k
        last v q true f = leb-true _ _ f
        last zero q false f = omega (arith, q)
        last (suc b) q false f =
            let past : k < looked_up_to state n = leb-false _ _ f in
            let one : open_up_to state (b + 1) ≡ open_up_to state b + 1 = rw (looked-open state n b q) at (opens-next b) in
            absurd (omega (arith, q, one, opens-le k b (omega (arith, q)), opens-le (b + 1) n (omega (arith, q, looked-le state n))))

module _ (cx : Context) (d : Draft) (z : Sized d) (pl : Plain cx d) where
  -- the banks that a walk from bank 0 on has turned to are all, where it has come to the end of those that are looked at
  pub walked_all : (k : ℕ) → looked_up_to (state_in d) 32 ≤ k → k ≤ 32 → closed_up_to cx (λ y. leb 0 y) k d ≡ planned_close cx d
  unfolding planned_close bank_count
  walked_all k l m =
      up-to-ext cx d (λ y. leb 0 y) (λ y. true) k (λ y _. le-leb 0 y (omega arith))
      ∙ sym (up-to-rest cx (λ y. true) d z pl k 32 m (omega arith) (λ x i j. looked-above (state_in d) 32 x (omega arith) j))

  pub all-range : closed_up_to cx (λ y. leb 0 y) 32 d ≡ planned_close cx d
  all-range = walked_all 32 (looked-le (state_in d) 32) (omega arith)

-- ---- the walk on bytes

-- a turn of the walk from bytes and a room: the banks below x are closed, so many open ones are left, and it goes no further than
-- close looks
pub record Walking (s : Settings) (b room b1 room1 : List ℕ) (left to x : ℕ) : Type 0 where
  pub looks : x ≤ looked_up_to (state_in (drafted b)) 32
  pub lefts : left + open_up_to (state_in (drafted b)) x ≡ open_up_to (state_in (drafted b)) 32
  pub drawn : Drawn s (closed_up_to (context_of s) (λ y. leb 0 y) x (drafted b)) room 0 b1 room1 to

module _ (s : Settings) (top : ℕ) (b : List ℕ) (k : Rested s top b) (h : top ≤ 1000001000) (room : List ℕ) where
  abbrev d : Draft
  d = drafted b

  abbrev state : ℕ → Bank
  state = state_in d

  calm : Rest (context_of s) (planner_in b)
  calm = at_rest s top b k

  pub walk_start : (count : ℕ) → count ≡ open_up_to state 32 → Walking s b room b room count 0 0
  unfolding open_up_to
  walk_start count e = record { looks = omega arith; lefts = omega (arith, e); drawn = first-drawn s top b k h 0 32 (omega arith) room 0 }

  module _ (b1 room1 : List ℕ) (left to x : ℕ) (w : Walking s b room b1 room1 left to x) where
    walk-few : x ≤ 32
    walk-few = omega (arith, w.looks, looked-le state 32)

    pub walk-bank : 0 < left → x < 32
    walk-bank m = omega (arith, walk_more state x 32 left walk-few w.lefts m, looked-le state 32)

    pub walk_after : AtRest s 1000011000 (closed_up_to (context_of s) (λ y. leb 0 y) x d) b1
    walk_after = up-to-after s top b k h 0 32 (omega arith) x walk-few b1 w.drawn.planner

    pub walk-fits : Fits (planned_close (context_of s) d) room 0 → 0 < left → Fits (when (not (is_closed (state_in (drafted b1) x))) (closed (context_of s) x) (drafted b1)) room1 to
    walk-fits f m =
        turn-fits s top b k h 0 32 (omega arith) room 0 (rw (all-range (context_of s) d calm.inv.size calm.plain) f) x (omega arith) (walk-bank m) b1 room1 to w.drawn

    -- the bank is open where it was
    walk-one : 0 < left → opened (state_in (drafted b1) x) ≡ opened (state x)
    unfolding bank_count
    walk-one m = rw (walk_after.back, up-to-ahead (context_of s) (λ y. leb 0 y) d calm.inv.size calm.plain calm.inv.banked x x (omega arith) (walk-bank m))

    module _ (m : 0 < left) (one : ℕ) (e : one ≡ opened (state_in (drafted b1) x)) where
      walk-sub : one ≤ left
      walk-sub = omega (arith, e, walk-one m, walk-less state x 32 left walk-few w.lefts (walk-bank m))

      pub walk-next : Fits (planned_close (context_of s) d) room 0 → (b2 room2 : List ℕ) (to2 : ℕ)
          → Drawn s (when (not (is_closed (state_in (drafted b1) x))) (closed (context_of s) x) (drafted b1)) room1 to b2 room2 to2
          → Walking s b room b2 room2 (left - one) to2 (x + 1)
      walk-next f b2 room2 to2 v =
          record {
            looks = omega (arith, walk_more state x 32 left walk-few w.lefts m);
            lefts = omega (arith, opens-next state x, e, walk-one m, walk-sub, w.lefts);
            drawn = turn-drawn s top b k h 0 32 (omega arith) room 0 (rw (all-range (context_of s) d calm.inv.size calm.plain) f) x (omega arith) (walk-bank m) b1 room1 to w.drawn b2 room2 to2 v;
          }

    -- where none is left, all are closed, and the turns are the banks that close looks at
    pub walk_end : left ≡ 0 → Drawn s (planned_close (context_of s) d) room 0 b1 room1 to × (x ≡ looked_up_to state 32)
    walk_end e =
        let done : looked_up_to state 32 ≤ x = walk-done state x 32 left walk-few w.lefts e in
        (rw (walked_all (context_of s) d calm.inv.size calm.plain x done walk-few) at w.drawn, omega (arith, done, w.looks))
