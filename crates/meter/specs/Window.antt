-- The count over all instants ever accepted (document 02, request g). A history is the list of them, newest first.
-- Assumes nothing.
use Rattle.std.specs.Prelude.{ℕ, ◌+◌, ◌-◌, Bool, false, cond, ◌&&◌, ◌||◌, List, [], ◌∷◌, leb, ltb, Err, Ok, Result}
use Rattle.settings.specs.Instants.{is_instant}
use Rattle.num.specs.Marks.{count_up_to}
use Rattle.meter.specs.declared.FeedRefusal.{FeedRefusal}
use Rattle.meter.specs.declared.FeedRefusal.TheVariants.{Horizon, Overlap}

-- whether a test holds of one of a list
unfoldable pub one_of : (ℕ → Bool) → List ℕ → Bool
one_of f [] = false
one_of f (t ∷ ts) = f t || one_of f ts

-- "Each dualoct fills four cycles": whether cycle c carries data
unfoldable pub has_data : List ℕ → ℕ → Bool
has_data history c = one_of (λ t. leb t c && ltb c (t + 4)) history

-- how many of the n cycles that end with cycle `last` carry data; there is no cycle before 0
unfoldable pub data_cycles : List ℕ → ℕ → ℕ → ℕ
data_cycles history last n = count_up_to (λ i. leb i last && has_data history (last - i)) n

-- "how many of the 1,024 cycles ending with the newest dualoct's fourth cycle carried data", "cycles before the first feed count
-- as idle", "Before any feed the count is 0"
unfoldable pub metered : List ℕ → ℕ
metered [] = 0
metered (t ∷ ts) = data_cycles (t ∷ ts) (t + 3) 1024

-- "an instant less than 4 after the newest"
unfoldable pub overlaps : List ℕ → ℕ → Bool
overlaps [] at = false
overlaps (t ∷ ts) at = ltb at (t + 4)

-- "An instant outside 4 to 1,000,000,000 falls under 7. Answers: 16 overlap, after 7, for an instant less than 4 after the newest."
unfoldable pub answer_to : List ℕ → ℕ → Result (Unit {0}) FeedRefusal
answer_to history at = cond (is_instant at) (cond (overlaps history at) (Err Overlap) (Ok tt)) (Err Horizon)
