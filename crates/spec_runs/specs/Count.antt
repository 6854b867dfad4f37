-- "the number of bytes a retire wrote (16 where M = 0); their sum over a run is the ones in all retired masks" (document 01, "What
-- is turned back").
-- Assumes nothing.
use Rattle.std.specs.Prelude.{ℕ, ◌+◌, cond, List, [], ◌∷◌, ◌++◌, length, Option, None, Some, Err, Ok, Result}
use Rattle.record.specs.declared.Record.{Record}
use Rattle.record.specs.Record.{record_read}
use Rattle.spec_rules.specs.declared.Write.{Write}
use Rattle.spec_rules.specs.Neighbour.{Context}
use Rattle.spec_rules.specs.History.{leaving, waiting_after}
use Rattle.spec_model.specs.declared.ModelState.{ModelState}
use Rattle.spec_model.specs.Store.{ones}
use Rattle.spec_model.specs.Model.{retire_mask}
use Rattle.spec_model.specs.Step.{step_answer, taken, step_model, step_store}
use Rattle.spec_model.specs.Judges.{record_said}
use Rattle.spec_model.specs.declared.Event.TheVariants.{Neither, Read, Retired}
use Rattle.spec_model.specs.declared.Event.{Event}
use Rattle.record.specs.declared.Refusal.{Refusal}

-- the number of bytes that an answer says were written
unfoldable pub written_by : Result Event Refusal → ℕ
written_by (Err why) = 0
written_by (Ok Read) = 0
written_by (Ok (Retired n)) = n
written_by (Ok Neither) = 0

-- the mask under which a write is retired, where one is
abbrev pub mask_if : Option Write → ℕ → List ℕ
mask_if None mask = []
mask_if (Some w) mask = mask ∷ []

-- the mask of a record that retires a write, after the records es, newest first; FFFF stands for M = 0
unfoldable pub mask_at : Context → List Record → Record → List ℕ
mask_at cx es r = mask_if (leaving cx (waiting_after cx es) r) (retire_mask r)

-- those of the records l, in order
unfoldable pub masks_after : Context → List Record → List Record → List ℕ
masks_after cx es [] = []
masks_after cx es (r ∷ l) = mask_at cx es r ++ masks_after cx (r ∷ es) l

-- "all retired masks" of a packet list
abbrev pub retired_masks : Context → List Record → List ℕ
retired_masks cx l = masks_after cx [] l

-- "the ones in" masks
unfoldable pub ones_of : List ℕ → ℕ
ones_of [] = 0
ones_of (mask ∷ l) = ones mask + ones_of l

-- ---- any model calls, of any bytes

pub record ModelCall : Type 0 where
  pub given : List ℕ
  pub room : ℕ

module _ (cx : Context) where
  -- "their sum": of the numbers that the calls answer
  unfoldable pub written_all : ModelState → List ℕ → List ModelCall → ℕ
  written_all m store [] = 0
  written_all m store (c ∷ l) =
      written_by (step_answer cx m (length store) c.given c.room)
      + written_all (step_model cx m (length store) c.given c.room) (step_store cx m store c.given c.room) l

  -- the records that the calls take, in order
  unfoldable pub taken_all : ModelState → List ℕ → List ModelCall → List Record
  taken_all m store [] = []
  taken_all m store (c ∷ l) =
      cond (taken cx m (length store) c.given c.room) (record_said (record_read cx.settings c.given)) []
      ++ taken_all (step_model cx m (length store) c.given c.room) (step_store cx m store c.given c.room) l
