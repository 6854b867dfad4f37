-- Flat memory (document 01, "Flat memory and whole runs"). "It never sees planner state, write buffer or packets."
-- Assumes nothing.
use Rattle.std.specs.Prelude.{ℕ, Bool, cond, List, [], ◌∷◌, ◌++◌, Err, Ok, Result}
use Rattle.record.specs.declared.Place.{Place}
use Rattle.record.specs.declared.Request.{Request}
use Rattle.record.specs.declared.Request.TheVariants.{Read, Write, Refresh, Wait, Flush, Close}
use Rattle.record.specs.Request.{request_read}
use Rattle.spec_rules.specs.Neighbour.{Context}
use Rattle.spec_model.specs.Store.{dualoct_at, dualoct, dualoct_bytes, masked}
use Rattle.record.specs.declared.Refusal.{Refusal}

-- "Flat memory is fed the plan calls in order: each request, and whether the answer was a refusal (accepted means not refused)."
pub record Fed : Type 0 where
  pub request : List ℕ
  pub accepted : Bool

-- the number of the dualoct at a place
abbrev pub dualoct_of : Context → Place → ℕ
dualoct_of cx at = dualoct_at cx at.bank at.row at.column

-- "An accepted write sets byte i of its dualoct to its data byte i where mask bit i is 1, leaves every other byte [..]. An accepted
-- refresh, wait [..] change nothing"; "Close joins demand 3's calls and, like flush, changes and answers nothing in flat memory."; to which "kind 6 is a read and kind 7 a write"
unfoldable pub memory_by : Context → Request → List ℕ → List ℕ
memory_by cx (Read at close) memory = memory
memory_by cx (Write at mask d close) memory = masked memory (dualoct_of cx at) mask (dualoct_bytes d)
memory_by cx Refresh memory = memory
memory_by cx (Wait n) memory = memory
memory_by cx Flush memory = memory
memory_by cx Close memory = memory

-- "An accepted read answers its dualoct and changes nothing." Every other request answers nothing.
unfoldable pub answers_by : Context → Request → List ℕ → List (List ℕ)
answers_by cx (Read at close) memory = dualoct memory (dualoct_of cx at) ∷ []
answers_by cx (Write at mask d close) memory = []
answers_by cx Refresh memory = []
answers_by cx (Wait n) memory = []
answers_by cx Flush memory = []
answers_by cx Close memory = []

-- the same of bytes that say a request, or none
unfoldable pub memory_of : Context → Result Request Refusal → List ℕ → List ℕ
memory_of cx (Err why) memory = memory
memory_of cx (Ok q) memory = memory_by cx q memory

unfoldable pub answers_of : Context → Result Request Refusal → List ℕ → List (List ℕ)
answers_of cx (Err why) memory = []
answers_of cx (Ok q) memory = answers_by cx q memory

-- "every refused call" changes nothing and answers nothing
unfoldable pub flat_next : Context → Fed → List ℕ → List ℕ
flat_next cx f memory = cond f.accepted (memory_of cx (request_read cx.settings f.request) memory) memory

unfoldable pub flat_answer : Context → Fed → List ℕ → List (List ℕ)
flat_answer cx f memory = cond f.accepted (answers_of cx (request_read cx.settings f.request) memory) []

-- flat memory after what it is fed, and its answers in order
unfoldable pub flat_after : Context → List Fed → List ℕ → List ℕ
flat_after cx [] memory = memory
flat_after cx (f ∷ l) memory = flat_after cx l (flat_next cx f memory)

unfoldable pub flat_answers : Context → List Fed → List ℕ → List (List ℕ)
flat_answers cx [] memory = []
flat_answers cx (f ∷ l) memory = flat_answer cx f memory ++ flat_answers cx l (flat_next cx f memory)

-- ---- the masks of accepted writes, in order

unfoldable pub masks_by : Request → List ℕ
masks_by (Read at close) = []
masks_by (Write at mask d close) = mask ∷ []
masks_by Refresh = []
masks_by (Wait n) = []
masks_by Flush = []
masks_by Close = []

unfoldable pub masks_of : Result Request Refusal → List ℕ
masks_of (Err why) = []
masks_of (Ok q) = masks_by q

unfoldable pub flat_mask : Context → Fed → List ℕ
flat_mask cx f = cond f.accepted (masks_of (request_read cx.settings f.request)) []

unfoldable pub flat_masks : Context → List Fed → List ℕ
flat_masks cx [] = []
flat_masks cx (f ∷ l) = flat_mask cx f ++ flat_masks cx l
