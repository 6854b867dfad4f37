-- Banks beside a bank and their places in the array of all banks, as code computes them. Number 32 stands for no bank.
-- Assumes nothing.
use Rattle.std.specs.Prelude.{ℕ, ◌+◌, ◌-◌, ◌%◌, Bool, cond, List, eqb, ltb, get_or}
use Rattle.settings.specs.declared.Settings.{Settings}
use Rattle.spec_rules.specs.declared.BankTrack.{BankTrack}
use Rattle.spec_rules.specs.Neighbour.{run_of}
use Rattle.spec_rules.specs.Channel.{idle}
use Rattle.chan_view.specs.declared.Held.{Held}
use Rattle.chan_view.specs.declared.Tracks.{Tracks}

-- ---- neighbours, by a bank's place in its run

-- whether a bank is the first of its run, by the core form; the last is before a first
abbrev pub is_first : ℕ → ℕ → Bool
is_first core b = eqb (b % run_of core) 0

unfoldable pub low_of : Settings → ℕ → ℕ
low_of s b = cond (is_first s.core b) 32 (b - 1)

unfoldable pub high_of : Settings → ℕ → ℕ
high_of s b = cond (is_first s.core (b + 1)) 32 (b + 1)

-- the first and the last of a bank and its neighbours
unfoldable pub first_near : Settings → ℕ → ℕ
first_near s x = cond (is_first s.core x) x (x - 1)

unfoldable pub last_near : Settings → ℕ → ℕ
last_near s x = cond (is_first s.core (x + 1)) x (x + 1)

-- ---- places

-- an index of the array for a bank, 0 where there is no such bank
abbrev pub slot_of : ℕ → ℕ
slot_of b = cond (ltb b 32) b 0

-- what was read at that index, or idle where there is no such bank
abbrev pub held_at : ℕ → BankTrack → BankTrack
held_at b t = cond (ltb b 32) t idle

-- the tracks that a packet to bank b concerns, where its PRER is to bank c and these writes wait
abbrev pub tracks_of : Settings → List BankTrack → ℕ → ℕ → Held → Tracks
tracks_of s l b c h =
    record {
      own = get_or l b idle;
      low = get_or l (low_of s c) idle;
      high = get_or l (high_of s c) idle;
      held = get_or l h.bank idle;
      next = get_or l h.next idle;
    }

-- the same from what stands at the indices of these banks
abbrev pub around_of : Settings → ℕ → ℕ → Held → BankTrack → BankTrack → BankTrack → BankTrack → BankTrack → Tracks
around_of s b c h own low high held next =
    record {
      own = held_at b own;
      low = held_at (low_of s c) low;
      high = held_at (high_of s c) high;
      held = held_at h.bank held;
      next = held_at h.next next;
    }
