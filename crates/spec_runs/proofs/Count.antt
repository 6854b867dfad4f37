-- The numbers of bytes that model calls answer: each is the ones in the mask that its record retires under, and "their sum over a
-- run is the ones in all retired masks" (document 01, "What is turned back"), of any model calls.
-- Assumes nothing.
use Rattle.std.specs.Prelude.{Option, None, Some, Err, Ok, Result}
use Prim.Native.Nat.{ℕ, ◌+◌}
use mathlib.Core.Path.{◌≡◌, refl, sym, ap, ◌∙◌}
use mathlib.Core.Bool.{Bool, true, false, cond}
use mathlib.Core.List.{List, [], ◌∷◌, ◌++◌}
use lib.Dec.{eqb, leb}
use lib.ListN.{length}
use native.Mathlib.Nat.{add-zero, zero-add}
use native.Mathlib.Omega.{arith}
use Rattle.packet.specs.declared.ColPacket.TheVariants.{Nocop, Wr, Rd}
use Rattle.record.specs.declared.Record.{Record}
use Rattle.record.specs.declared.Record.TheVariants.{RowAt, ColAt, DataOf}
use Rattle.record.specs.declared.Refusal.{Refusal}
use Rattle.record.specs.declared.Refusal.TheVariants.{Full, Store, Length}
use Rattle.record.specs.Record.{record_read}
use Rattle.spec_rules.specs.declared.Write.{Write}
use Rattle.spec_rules.specs.Neighbour.{Context}
use Rattle.spec_rules.specs.Packets.{traits, col_traits}
use Rattle.spec_rules.specs.History.{leaving, waiting_next, waiting_after}
use Rattle.spec_rules.specs.Channel.{fresh, waiting_of}
use Rattle.spec_rules.specs.Checks.{judged}
use Rattle.spec_rules.proofs.TrackLaws.{after-waits}
use Rattle.spec_model.specs.declared.ModelState.{ModelState}
use Rattle.spec_model.specs.Store.{governs, ones_up_to, ones, store_length}
use Rattle.spec_model.specs.Model.{fresh_model, retire_mask, retired_write, model_next, read_of}
use Rattle.spec_model.specs.Step.{retire_answer, passed_answer, record_answer, read_answer, step_answer, is_taken, taken, model_by, step_model, step_store}
use Rattle.spec_model.specs.Judges.{record_said}
use Rattle.spec_runs.specs.Count.{written_by, mask_if, mask_at, masks_after, retired_masks, ones_of, ModelCall, written_all, taken_all}
use Rattle.spec_runs.proofs.PlainRun.{mask_by, masks_all}
use Rattle.spec_model.specs.declared.Event.TheVariants.{Read}
use Rattle.spec_model.specs.declared.Event.{Event}

pub ones-append : (a b : List ℕ) → ones_of (a ++ b) ≡ ones_of a + ones_of b
unfolding ones_of
ones-append [] b = sym (zero-add (ones_of b))
ones-append (mask ∷ a) b = rw (ones-append a b) (omega arith)

-- "16 where M = 0"
pub ones-full : ones 0xFFFF ≡ 16
unfolding ones_up_to governs
ones-full = refl

-- ---- the masks of the retiring packets are those that the model retires under

module _ (cx : Context) where
  -- the same writes wait in the model as after the records es
  abbrev pub Waits : ModelState → List Record → Type 0
  Waits m es = waiting_of m.channel.buffer ≡ waiting_after cx es

  mask_is : (m : ModelState) (es : List Record) → Waits m es → (r : Record) → mask_at cx es r ≡ mask_by cx m r
  unfolding mask_at retired_write
  mask_is m es e r = ap (λ (ws : List Write). mask_if (leaving cx ws r) (retire_mask r)) (sym e)

  waits-next : (m : ModelState) (es : List Record) → Waits m es → (r : Record) → Waits (model_next cx m r) (r ∷ es)
  unfolding model_next waiting_after
  waits-next m es e r = after-waits cx m.channel r ∙ ap (waiting_next cx r) e

  pub masks-are : (m : ModelState) (es : List Record) → Waits m es → (l : List Record) → masks_all cx m l ≡ masks_after cx es l
  unfolding masks_all masks_after
  masks-are m es e [] = refl
  masks-are m es e (r ∷ l) = rw (mask_is m es e r, masks-are (model_next cx m r) (r ∷ es) (waits-next m es e r) l)

-- ---- one call

-- a record that reads retires nothing
read-retires : (cx : Context) (m : ModelState) (r : Record) (k : ℕ) → read_of cx m.channel r ≡ Some k → retired_write cx m r ≡ None
unfolding read_of retired_write leaving traits col_traits
read-retires cx m (RowAt t p) k e = cc
read-retires cx m (ColAt t (Nocop mask)) k e = cc
read-retires cx m (ColAt t (Wr b c mask x)) k e = cc
read-retires cx m (ColAt t (Rd b c mask x)) k e = refl
read-retires cx m (DataOf t d) k e = cc

-- an answer counts the ones of these masks where the record is taken, and none where it is not
abbrev Counts : Result Event Refusal → List ℕ → Type 0
Counts a masks = written_by a ≡ ones_of (cond (is_taken a) masks [])

counts-if : (b : Bool) (a : Result Event Refusal) (why : Refusal) (masks : List ℕ) → Counts a masks → Counts (cond b a (Err why)) masks
unfolding written_by ones_of is_taken
counts-if true a why masks h = h
counts-if false a why masks h = refl

module _ (cx : Context) (m : ModelState) where
  -- what a record that breaks no rule answers
  pub passed-count : (r : Record) (room : ℕ) (o : Option ℕ) → read_of cx m.channel r ≡ o → Counts (passed_answer o (retire_answer (retired_write cx m r) (retire_mask r)) room) (mask_by cx m r)
  unfolding written_by ones_of is_taken passed_answer retire_answer
  passed-count r room None e = go (retired_write cx m r)
    where
      go : (w : Option Write) → Counts (retire_answer w (retire_mask r)) (mask_if w (retire_mask r))
      go None = refl
      go (Some w) = sym (add-zero (ones (retire_mask r)))
  passed-count r room (Some k) e = rw (read-retires cx m r k e) (go (leb 16 room))
    where
      go : (b : Bool) → Counts (cond b (Ok Read) (Err Full)) []
      go true = refl
      go false = refl

  record-count : (r : Record) (room : ℕ) → Counts (record_answer cx m r room) (mask_by cx m r)
  unfolding record_answer
  record-count r room = counts-if (eqb (judged cx m.channel r) 0) _ _ (mask_by cx m r) (passed-count r room (read_of cx m.channel r) refl)

  -- the mask of the record that bytes say
  unfoldable mask_in : Option Record → List ℕ
  mask_in None = []
  mask_in (Some r) = mask_by cx m r

  read_count : (x : Option Record) (room : ℕ) → Counts (read_answer cx m x room) (mask_in x)
  unfolding read_answer mask_in written_by ones_of is_taken
  read_count None room = refl
  read_count (Some r) room = record-count r room

  call-count : (stored : ℕ) (given : List ℕ) (room : ℕ) → Counts (step_answer cx m stored given room) (mask_in (record_read cx.settings given))
  unfolding step_answer
  call-count stored given room =
      counts-if (eqb stored (store_length cx)) _ Store (mask_in (record_read cx.settings given))
      (counts-if (eqb (length given) 32) _ Length (mask_in (record_read cx.settings given)) (read_count (record_read cx.settings given) room))

  -- a call before others, which take the records l
  count_next : (es : List Record) → Waits cx m es → (t : Bool) (x : Option Record) (l : List Record) (sum : ℕ)
      → ((es : List Record) → Waits cx (cond t (model_by cx m x) m) es → sum ≡ ones_of (masks_after cx es l))
      → ones_of (cond t (mask_in x) []) + sum ≡ ones_of (masks_after cx es (cond t (record_said x) [] ++ l))
  unfolding mask_in record_said model_by masks_after ones_of
  count_next es e true None l sum h = zero-add sum ∙ h es e
  count_next es e true (Some r) l sum h = rw (mask_is cx m es e r, ones-append (mask_by cx m r) (masks_after cx (r ∷ es) l), h (r ∷ es) (waits-next cx m es e r))
  count_next es e false x l sum h = zero-add sum ∙ h es e

-- ---- any calls, of any bytes

pub count-all : (cx : Context) (m : ModelState) (es : List Record) → Waits cx m es → (store : List ℕ) (l : List ModelCall)
    → written_all cx m store l ≡ ones_of (masks_after cx es (taken_all cx m store l))
unfolding written_all taken_all masks_after ones_of step_model
count-all cx m es e store [] = refl
count-all cx m es e store (c ∷ l) =
    rw (call-count cx m (length store) c.given c.room)
    (count_next cx m es e (taken cx m (length store) c.given c.room) (record_read cx.settings c.given) _ _
    (λ es e. count-all cx (step_model cx m (length store) c.given c.room) es e (step_store cx m store c.given c.room) l))

-- of a fresh model
pub count-run : (cx : Context) (store : List ℕ) (l : List ModelCall) → written_all cx fresh_model store l ≡ ones_of (retired_masks cx (taken_all cx fresh_model store l))
unfolding fresh_model fresh waiting_of waiting_after
count-run cx store l = count-all cx fresh_model [] refl store l
