-- A plain run of the model: records taken one after the other, with no rooms, and over lists that are joined.
-- Assumes nothing.
use Rattle.std.specs.Prelude.{Option, None, Some}
use Prim.Native.Nat.{ℕ, suc, ◌<◌}
use mathlib.Core.Path.{◌≡◌, refl, sym, ◌∙◌}
use mathlib.Core.List.{List, [], ◌∷◌, ◌++◌, append_assoc}
use lib.ListN.{length, length-append}
use lib.Seq.{get_or-append_seam, append_snoc}
use native.Mathlib.Omega.{arith}
use Rattle.record.specs.declared.Record.{Record}
use Rattle.spec_rules.specs.declared.Write.{Write}
use Rattle.spec_rules.specs.declared.Channel.{Channel}
use Rattle.spec_rules.specs.Neighbour.{Context}
use Rattle.spec_rules.specs.Broken.{record_in}
use Rattle.spec_rules.specs.Channel.{fresh, after}
use Rattle.spec_rules.specs.Checks.{judged, channel_after, found_at}
use Rattle.record.specs.declared.Dualoct.{Dualoct}
use Rattle.spec_model.specs.declared.ModelState.{ModelState}
use Rattle.spec_model.specs.Store.{dualoct}
use Rattle.spec_model.specs.Model.{retire_mask, retired_write, retired_to, store_next, model_next, read_of}
use Rattle.spec_model.proofs.StoreLaws.{length-masked}
use Rattle.spec_runs.specs.Count.{mask_if}

-- the dualoct that is read, where one is
unfoldable pub answer_of : Option ℕ → List ℕ → List (List ℕ)
answer_of None store = []
answer_of (Some k) store = dualoct store k ∷ []

-- the mask under which a record retires a write, where it does
abbrev pub mask_by : Context → ModelState → Record → List ℕ
mask_by cx m r = mask_if (retired_write cx m r) (retire_mask r)

module _ (cx : Context) where
  -- the model, the store and the answers in order, after all records of a list
  unfoldable pub model_all : ModelState → List Record → ModelState
  model_all m [] = m
  model_all m (r ∷ l) = model_all (model_next cx m r) l

  unfoldable pub store_all : ModelState → List Record → List ℕ → List ℕ
  store_all m [] store = store
  store_all m (r ∷ l) store = store_all (model_next cx m r) l (store_next cx m r store)

  unfoldable pub answers_all : ModelState → List Record → List ℕ → List (List ℕ)
  answers_all m [] store = []
  answers_all m (r ∷ l) store = answer_of (read_of cx m.channel r) store ++ answers_all (model_next cx m r) l (store_next cx m r store)

  -- the masks under which writes are retired, in order
  unfoldable pub masks_all : ModelState → List Record → List ℕ
  masks_all m [] = []
  masks_all m (r ∷ l) = mask_by cx m r ++ masks_all (model_next cx m r) l

  -- each record of a list is judged 0 in its turn
  abbrev pub Passing : Channel → List Record → Type 0
  Passing ch [] = Unit {0}
  Passing ch (r ∷ l) = (judged cx ch r ≡ 0) × Passing (after cx ch r) l

  -- ---- lists that are joined

  pub model-append : (m : ModelState) (a b : List Record) → model_all m (a ++ b) ≡ model_all (model_all m a) b
  unfolding model_all
  model-append m [] b = refl
  model-append m (r ∷ a) b = model-append (model_next cx m r) a b

  pub store-append : (m : ModelState) (a b : List Record) (store : List ℕ) → store_all m (a ++ b) store ≡ store_all (model_all m a) b (store_all m a store)
  unfolding model_all store_all
  store-append m [] b store = refl
  store-append m (r ∷ a) b store = store-append (model_next cx m r) a b (store_next cx m r store)

  pub answers-append : (m : ModelState) (a b : List Record) (store : List ℕ)
      → answers_all m (a ++ b) store ≡ answers_all m a store ++ answers_all (model_all m a) b (store_all m a store)
  unfolding model_all store_all answers_all
  answers-append m [] b store = refl
  answers-append m (r ∷ a) b store =
      rw (answers-append (model_next cx m r) a b (store_next cx m r store)) (sym (append_assoc (answer_of (read_of cx m.channel r) store) _ _))

  pub masks-append : (m : ModelState) (a b : List Record) → masks_all m (a ++ b) ≡ masks_all m a ++ masks_all (model_all m a) b
  unfolding model_all masks_all
  masks-append m [] b = refl
  masks-append m (r ∷ a) b = rw (masks-append (model_next cx m r) a b) (sym (append_assoc (mask_by cx m r) _ _))

  -- ---- the store keeps its length

  retired-length : (ch : Channel) (w : Option Write) (mask : ℕ) (d : Dualoct) (store : List ℕ) → length (retired_to cx ch w mask d store) ≡ length store
  retired-length ch None mask d store = refl
  retired-length ch (Some w) mask d store = length-masked store _ mask _

  pub length-next : (m : ModelState) (r : Record) (store : List ℕ) → length (store_next cx m r store) ≡ length store
  unfolding store_next
  length-next m r store = retired-length m.channel (retired_write cx m r) (retire_mask r) m.bytes store

  pub length-all : (m : ModelState) (l : List Record) (store : List ℕ) → length (store_all m l store) ≡ length store
  unfolding store_all
  length-all m [] store = refl
  length-all m (r ∷ l) store = length-all (model_next cx m r) l (store_next cx m r store) ∙ length-next m r store

  -- ---- records judged one by one

  -- a list in which nothing is found passes, from any of its records on
  passing-from : (all : List Record) → ((j : ℕ) → j < length all → found_at cx all j ≡ 0)
      → (before l : List Record) (n : ℕ) → all ≡ before ++ l → length before ≡ n → Passing (channel_after cx all n) l
  unfolding channel_after
  passing-from all h before [] n e m = tt
  passing-from all h before (r ∷ l) n e m =
      let at : record_in all n ≡ r = rw (e, ← m) (get_or-append_seam before r l _) in
      let inside : n < length all = rw (e, length-append before (r ∷ l)) (omega arith) in
      let size : length (before ++ (r ∷ [])) ≡ suc n = length-append before (r ∷ []) ∙ omega arith in
      (rw at at (h n inside), rw at at (passing-from all h (before ++ (r ∷ [])) l (suc n) (e ∙ sym (append_snoc before r l)) size))

  pub passing-all : (l : List Record) → ((j : ℕ) → j < length l → found_at cx l j ≡ 0) → Passing fresh l
  unfolding channel_after
  passing-all l h = passing-from l h [] l 0 refl refl
