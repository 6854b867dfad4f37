-- The records that a walk meets, and the state after each.
-- Assumes nothing.
use Prim.Native.Nat.{ℕ, zero, suc, ◌+◌, ◌<◌}
use mathlib.Core.Path.{◌≡◌, refl, ◌∙◌}
use mathlib.Core.Bool.{Bool}
use mathlib.Core.List.{List, []}
use mathlib.Core.Logic.{⊎_elim}
use native.Mathlib.Nat.{eq-or-lt_of_le, le_of_suc-le-suc}
use native.Mathlib.Numerals.{add-one}
use native.Mathlib.Omega.{arith}
use lib.ListN.{length, get_or, length-append, get_or-append}
use lib.Seq.{get_or_at}
use Rattle.settings.specs.declared.Settings.{Settings}
use Rattle.record.specs.declared.Record.{Record}
use Rattle.spec_rules.specs.Neighbour.{Context}
use Rattle.spec_rules.specs.Broken.{record_in}
use Rattle.spec_rules.specs.Channel.{after}
use Rattle.spec_rules.specs.Checks.{channel_after}
use Rattle.check_walk.specs.Form.Walk.{record_via, records_via}

pub length-via : (s : Settings) (per : ℕ) (b : List ℕ) (n : ℕ) → length (records_via s per b n) ≡ n
unfolding records_via
length-via s per b zero = refl
length-via s per b (suc n) = simp (length-append, length-via s per b n) (omega arith)

-- record i of the first n
pub via-at : (s : Settings) (per : ℕ) (b : List ℕ) (n i : ℕ) (d : Record) → i < n → get_or (records_via s per b n) i d ≡ record_via s per b i
unfolding records_via
via-at s per b zero i d h = absurd (omega arith)
via-at s per b (suc n) i d h =
    ⊎_elim
    (λ (e : i ≡ n). rw e (get_or_at (records_via s per b n) (record_via s per b n) [] d n (length-via s per b n)))
    (λ (m : i < n). get_or-append (records_via s per b n) _ d i (rw length-via m) ∙ via-at s per b n i d m)
    (eq-or-lt_of_le (le_of_suc-le-suc h))

-- the state after one record more
pub channel-next : (cx : Context) (l : List Record) (i : ℕ) (r : Record) → record_in l i ≡ r → after cx (channel_after cx l i) r ≡ channel_after cx l (i + 1)
unfolding channel_after
channel-next cx l i r e = rw (add-one, e)
