-- A bank where a flag says so: what is asked of it.
-- Assumes nothing.
use Rattle.std.specs.Prelude.{None, Some}
use Prim.Native.Nat.{ℕ}
use mathlib.Core.Path.{◌≡◌, refl, sym}
use mathlib.Core.Bool.{Bool, true, false, not, ◌&&◌, ◌||◌, cond, and-true, and-false}
use mathlib.Core.List.{List, [], ◌∷◌}
use Rattle.num.specs.Search.{all_up_to}
use Rattle.settings.specs.declared.Settings.{Settings}
use Rattle.spec_rules.specs.declared.Bank.{Bank}
use Rattle.spec_rules.specs.declared.Bank.TheVariants.{Closed}
use Rattle.spec_rules.specs.declared.Write.{Write}
use Rattle.spec_rules.specs.Neighbour.{bank_count, context_of, near}
use Rattle.spec_rules.specs.History.{is_closed, is_open, only, closed_by, reaches, has}
use Rattle.spec_rules.specs.Rules.{free_for, open_for, loses_none}
use Rattle.spec_rules.specs.Checks.{bound_of}
use Rattle.chan_view.specs.Form.Bounds.{bound_if}

pub bound-only : (t : Bool) (b : ℕ) (f : ℕ → ℕ) → bound_of (only t (Some b)) f ≡ bound_if t (f b)
bound-only true b f = refl
bound-only false b f = refl

pub open-only : (t : Bool) (b : ℕ) (state : ℕ → Bank) → open_for state (only t (Some b)) ≡ (not t || is_open (state b))
open-only true b state = refl
open-only false b state = refl

pub has-only : (t : Bool) (b : ℕ) → has (only t (Some b)) ≡ t
has-only true b = refl
has-only false b = refl

-- an implied PRER to bank a, where there is one, leaves bank x open
pub open_after : (s : Settings) (c : Bool) (a x : ℕ) (state : Bank) → is_open (closed_by (context_of s) (only c (Some a)) x state) ≡ (is_open state && not (c && near (context_of s) a x))
unfolding is_open
open_after s false a x state = sym (and-true (is_open state))
open_after s true a x state = go (near (context_of s) a x)
  where
    go : (n : Bool) → is_open (cond n Closed state) ≡ (is_open state && not n)
    go true = sym (and-false (is_open state))
    go false = sym (and-true (is_open state))

module _ (s : Settings) where
  pub free-only : (t : Bool) (b : ℕ) (state : ℕ → Bank)
      → free_for (context_of s) state (only t (Some b)) ≡ (not t || all_up_to (λ x. not (near (context_of s) b x) || is_closed (state x)) 32)
  unfolding bank_count
  free-only true b state = refl
  free-only false b state = refl

  -- no PRER loses no write
  pub safe-none : (state : ℕ → Bank) (ws : List Write) → loses_none (context_of s) state None ws ≡ true
  safe-none state [] = refl
  safe-none state (x ∷ ws) = safe-none state ws

  pub safe-only : (w p : Bool) (b x : ℕ) (closed : Bool)
      → not (w && (reaches (context_of s) (only p (Some b)) x && not closed)) ≡ (not (w && (p && near (context_of s) b x)) || closed)
  safe-only false p b x closed = refl
  safe-only true false b x closed = refl
  safe-only true true b x closed = go (near (context_of s) b x) closed
    where
      go : (n c : Bool) → not (n && not c) ≡ (not n || c)
      go false c = refl
      go true true = refl
      go true false = refl
