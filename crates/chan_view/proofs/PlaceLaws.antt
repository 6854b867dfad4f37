-- Tracks of banks, read at indices of the array of all banks.
-- Assumes nothing.
use Prim.Native.Nat.{ℕ, ◌≤◌}
use mathlib.Core.Path.{◌≡◌, refl, sym, ◌∙◌}
use mathlib.Core.Bool.{Bool, true, false, cond}
use mathlib.Core.List.{List, map}
use native.Mathlib.Omega.{arith}
use borrow.Author.Tests.{ltb-false}
use lib.Dec.{ltb}
use lib.ListN.{length, length-map, get_or, get_or-eq_default}
use Rattle.settings.specs.declared.Settings.{Settings}
use Rattle.spec_rules.specs.declared.BankTrack.{BankTrack}
use Rattle.spec_rules.specs.Channel.{idle}
use Rattle.chan_view.specs.declared.Held.{Held}
use Rattle.chan_view.specs.declared.Tracks.{Tracks}
use Rattle.chan_view.specs.Form.Beside.{low_of, high_of, slot_of, held_at, tracks_of, around_of}

pub length-of-map : {A B : Type 0} (f : A → B) (l : List A) (n : ℕ) → length (map f l) ≡ n → length l ≡ n
length-of-map f l n e = sym (length-map l f) ∙ e

module _ (l : List BankTrack) (e : length l ≡ 32) where
  -- a number that is no bank
  pub past : (x : ℕ) → 32 ≤ x → get_or l x idle ≡ idle
  past x h = get_or-eq_default l idle (omega arith)

  pub slot_read : (b : ℕ) → held_at b (get_or l (slot_of b) idle) ≡ get_or l b idle
  slot_read b = go (ltb b 32) refl
    where
      go : (t : Bool) → ltb b 32 ≡ t → cond t (get_or l (cond t b 0) idle) idle ≡ get_or l b idle
      go true q = refl
      go false q = sym (past b (ltb-false b 32 q))

  -- the tracks from what was read at the indices
  abbrev pub read_around : Settings → ℕ → ℕ → Held → Tracks
  read_around s b c h =
      around_of s b c h (get_or l (slot_of b) idle) (get_or l (slot_of (low_of s c)) idle) (get_or l (slot_of (high_of s c)) idle) (get_or l (slot_of h.bank) idle) (get_or l (slot_of h.next) idle)

  pub around-is : (s : Settings) (b c : ℕ) (h : Held) → read_around s b c h ≡ tracks_of s l b c h
  around-is s b c h = rw (slot_read b, slot_read (low_of s c), slot_read (high_of s c), slot_read h.bank, slot_read h.next)
