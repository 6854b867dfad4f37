-- Model calls, one for each room, are the plain run of as many records as they have taken; calls with room for an answer take one
-- record each.
-- Assumes nothing.
use Rattle.std.specs.Prelude.{Option, None, Some, Err, Ok, Result}
use Prim.Native.Nat.{ℕ, suc, ◌+◌, ◌-◌, ◌≤◌, ◌<◌}
use mathlib.Core.Path.{◌≡◌, refl, sym, ap, ◌∙◌}
use mathlib.Core.Bool.{Bool, true, false, cond}
use mathlib.Core.List.{List, [], ◌∷◌, ◌++◌, append-nil, append_assoc}
use lib.Dec.{leb}
use lib.ListN.{length, take, drop, length-append, length-drop, take-append-drop, drop_of_length-le}
use lib.Seq.{take_all, take-append_seam}
use borrow.Author.Tests.{le-leb, eq-eqb}
use native.Mathlib.Nat.{add-zero, zero-add, add_assoc}
use native.Mathlib.Omega.{arith}
use Rattle.num.proofs.ByteLaws.{length-bytes}
use Rattle.packet.specs.declared.RowPacket.TheVariants.{Act, Prer, Refa, Refp}
use Rattle.packet.specs.declared.ColPacket.TheVariants.{Nocop, Wr, Rd}
use Rattle.record.specs.declared.Record.{Record}
use Rattle.record.specs.declared.Record.TheVariants.{RowAt, ColAt, DataOf}
use Rattle.record.specs.declared.Refusal.TheVariants.{Full}
use Rattle.record.specs.Refusal.{answer_of as answer_to}
use Rattle.record.specs.Record.{record_fields, record_bytes, record_read}
use Rattle.spec_rules.specs.declared.Write.{Write}
use Rattle.spec_rules.specs.Neighbour.{Context}
use Rattle.spec_rules.specs.Packets.{traits, row_traits, col_traits}
use Rattle.spec_rules.specs.History.{has}
use Rattle.spec_rules.specs.Broken.{record_in}
use Rattle.spec_rules.proofs.Bools.{not-both}
use Rattle.spec_model.specs.declared.ModelState.{ModelState}
use Rattle.spec_model.specs.Store.{store_length}
use Rattle.spec_model.specs.Model.{retire_mask, retired_write, store_next, model_next, read_of}
use Rattle.spec_model.specs.Step.{retire_answer, passed_answer, record_answer, read_answer, step_answer, is_taken, model_by, step_model, store_by, step_store, bytes_read, bytes_by}
use Rattle.spec_runs.specs.Drive.{Drive, returned, left_by, fails, called_on, called, driven, wide_calls, reads_in}
use Rattle.spec_runs.specs.Count.{ones_of}
use Rattle.spec_runs.proofs.PlainRun.{answer_of, mask_by, model_all, store_all, answers_all, masks_all, answers-append, Passing, length-next}
use Rattle.spec_runs.proofs.Count.{ones-append, passed-count}
use Rattle.spec_model.specs.declared.Event.TheVariants.{Read}
use Rattle.spec_model.specs.declared.Event.{Event}
use Rattle.record.specs.declared.Refusal.{Refusal}

-- ---- a claim of every record of a list

abbrev pub Every : (Record → Type 0) → List Record → Type 0
Every P [] = Unit {0}
Every P (r ∷ l) = P r × Every P l

pub every_append : (P : Record → Type 0) (a b : List Record) → Every P a → Every P b → Every P (a ++ b)
every_append P [] b h k = k
every_append P (r ∷ a) b h k = (h.0, every_append P a b h.1 k)

pub every-at : (P : Record → Type 0) (l : List Record) → ((j : ℕ) → j < length l → P (record_in l j)) → Every P l
every-at P [] h = tt
every-at P (r ∷ l) h = (h 0 (omega arith), every-at P l (λ j m. h (suc j) (omega arith)))

-- its bytes say the record
abbrev pub Coded : Context → Record → Type 0
Coded cx r = record_read cx.settings (record_bytes cx.settings r) ≡ Some r

pub length-record : (cx : Context) (r : Record) → length (record_bytes cx.settings r) ≡ 32
unfolding record_bytes record_fields
length-record cx (RowAt t p) = simp (length-append, length-bytes)
length-record cx (ColAt t p) = simp (length-append, length-bytes)
length-record cx (DataOf t d) = simp (length-append, length-bytes)

-- ---- one call

-- whether a call has room for the answer
abbrev pub roomy : Option ℕ → ℕ → Bool
roomy None room = true
roomy (Some k) room = leb 16 room

-- what a record that breaks no rule makes of a call
module _ (room mask : ℕ) (w : Option Write) (store : List ℕ) (r : Record) (l : List Record) where
  abbrev passed : Option ℕ → Result Event Refusal
  passed o = passed_answer o (retire_answer w mask) room

  passed-taken : (o : Option ℕ) → is_taken (passed o) ≡ roomy o room
  unfolding passed_answer retire_answer is_taken
  passed-taken None = go w
    where
      go : (w : Option Write) → is_taken (retire_answer w mask) ≡ roomy None room
      go None = refl
      go (Some w) = refl
  passed-taken (Some k) = go (leb 16 room)
    where
      go : (b : Bool) → is_taken (cond b (Ok Read) (Err Full)) ≡ b
      go true = refl
      go false = refl

  passed-returned : (o : Option ℕ) → returned (passed o) (bytes_read o store) ≡ cond (roomy o room) (answer_of o store) []
  unfolding passed_answer retire_answer returned bytes_read answer_of
  passed-returned None = go w
    where
      go : (w : Option Write) → returned (retire_answer w mask) (bytes_read None store) ≡ cond (roomy None room) (answer_of None store) []
      go None = refl
      go (Some w) = refl
  passed-returned (Some k) = go (leb 16 room)
    where
      go : (b : Bool) → returned (cond b (Ok Read) (Err Full)) (bytes_read (Some k) store) ≡ cond (b) (answer_of (Some k) store) []
      go true = refl
      go false = refl

  passed-left : (o : Option ℕ) → left_by (passed o) r l ≡ cond (roomy o room) l (r ∷ l)
  unfolding passed_answer retire_answer left_by
  passed-left None = go w
    where
      go : (w : Option Write) → left_by (retire_answer w mask) r l ≡ cond (roomy None room) l (r ∷ l)
      go None = refl
      go (Some w) = refl
  passed-left (Some k) = go (leb 16 room)
    where
      go : (b : Bool) → left_by (cond b (Ok Read) (Err Full)) r l ≡ cond (b) l (r ∷ l)
      go true = refl
      go false = refl

  passed-fails : (o : Option ℕ) → fails (passed o) ≡ false
  unfolding passed_answer retire_answer fails answer_to
  passed-fails None = go w
    where
      go : (w : Option Write) → fails (retire_answer w mask) ≡ false
      go None = refl
      go (Some w) = refl
  passed-fails (Some k) = go (leb 16 room)
    where
      go : (b : Bool) → fails (cond b (Ok Read) (Err Full)) ≡ false
      go true = refl
      go false = refl

module _ (cx : Context) where
  -- calls so far that have left the records l
  abbrev pub kept : Drive → List Record → Drive
  kept x l = record { model = x.model; store = x.store; answers = x.answers; written = x.written; pending = l; failed = false }

  -- and a call that has taken the record r
  abbrev pub gone : Drive → Record → List Record → Drive
  gone x r l =
      record {
        model = model_next cx x.model r;
        store = store_next cx x.model r x.store;
        answers = x.answers ++ answer_of (read_of cx x.model.channel r) x.store;
        written = x.written + ones_of (mask_by cx x.model r);
        pending = l;
        failed = false;
      }

  -- records that a model and a store can take
  pub record Ready (m : ModelState) (store : List ℕ) (l : List Record) : Type 0 where
    pub stored : length store ≡ store_length cx
    pub coded : Every (Coded cx) l
    pub passing : Passing cx m.channel l

  pub ready-next : (m : ModelState) (store : List ℕ) (r : Record) (l : List Record) → Ready m store (r ∷ l) → Ready (model_next cx m r) (store_next cx m r store) l
  unfolding model_next
  ready-next m store r l k = record { stored = length-next cx m r store ∙ k.stored; coded = k.coded.1; passing = k.passing.1 }

  pub call-is : (room : ℕ) (x : Drive) (r : Record) (l : List Record) → Ready x.model x.store (r ∷ l)
      → called_on cx room (kept x (r ∷ l)) r l ≡ cond (roomy (read_of cx x.model.channel r) room) (gone x r l) (kept x (r ∷ l))
  unfolding called_on step_model step_store step_answer read_answer record_answer model_by store_by bytes_by ones_of
  call-is room x r l k =
      let m : ModelState = x.model in
      let o : Option ℕ = read_of cx m.channel r in
      let w : Option Write = retired_write cx m r in
      rw (eq-eqb (length x.store) (store_length cx) k.stored, length-record cx r, k.coded.0, k.passing.0)
      (rw (
        passed-count cx m r room o refl,
        passed-taken room (retire_mask r) w x.store r l o,
        passed-returned room (retire_mask r) w x.store r l o,
        passed-left room (retire_mask r) w x.store r l o,
        passed-fails room (retire_mask r) w x.store r l o,
      )
      (pick (roomy o room)))
    where
      pick : (q : Bool)
          → record {
            model = cond q (model_next cx x.model r) x.model;
            store = cond q (store_next cx x.model r x.store) x.store;
            answers = x.answers ++ cond q (answer_of (read_of cx x.model.channel r) x.store) [];
            written = x.written + ones_of (cond q (mask_by cx x.model r) []);
            pending = cond q l (r ∷ l);
            failed = false;
          }
          ≡ cond q (gone x r l) (kept x (r ∷ l))
      pick true = refl
      pick false = rw (append-nil, add-zero x.written)

  -- the first of some calls
  pub driven-none : (x : Drive) → driven cx [] x ≡ x
  unfolding driven
  driven-none x = refl

  pub next-none : (room : ℕ) (rooms : List ℕ) (x : Drive) → driven cx (room ∷ rooms) (kept x []) ≡ driven cx rooms (kept x [])
  unfolding driven called
  next-none room rooms x = refl

  pub next_one : (room : ℕ) (rooms : List ℕ) (x : Drive) (r : Record) (l : List Record) → Ready x.model x.store (r ∷ l)
      → driven cx (room ∷ rooms) (kept x (r ∷ l)) ≡ driven cx rooms (cond (roomy (read_of cx x.model.channel r) room) (gone x r l) (kept x (r ∷ l)))
  unfolding driven called
  next_one room rooms x r l k = ap (driven cx rooms) (call-is room x r l k)

  roomy-wide : (o : Option ℕ) (room : ℕ) → 16 ≤ room → roomy o room ≡ true
  roomy-wide None room h = refl
  roomy-wide (Some k) room h = le-leb 16 room h

  -- a call with room for an answer takes a record, where one waits
  wide-takes : (room : ℕ) → 16 ≤ room → (x : Drive) (l : List Record) → x.pending ≡ l → Ready x.model x.store l → (called cx room x l).pending ≡ drop 1 l
  unfolding called called_on
  wide-takes room h x [] e k = e
  wide-takes room h x (r ∷ l) e k = ap (λ (y : Drive). y.pending) (call-is room x r l k) ∙ rw (roomy-wide (read_of cx x.model.channel r) room h)

  -- ---- calls in a row

  -- y is what the first of the records l make of x, as many at least as calls have room for an answer, and can take the others
  pub record Ran (rooms : List ℕ) (x : Drive) (l : List Record) (y : Drive) : Type 0 where
    pub count : ℕ
    pub within : count ≤ length l
    pub enough : length l - count ≤ length l - wide_calls rooms
    pub ran : y ≡ record {
      model = model_all cx x.model (take count l);
      store = store_all cx x.model (take count l) x.store;
      answers = x.answers ++ answers_all cx x.model (take count l) x.store;
      written = x.written + ones_of (masks_all cx x.model (take count l));
      pending = drop count l;
      failed = false;
    }
    pub ready : Ready y.model y.store y.pending

  ran-none : (x : Drive) (l : List Record) → Ready x.model x.store l → Ran [] x l (kept x l)
  unfolding model_all store_all answers_all masks_all ones_of wide_calls
  ran-none x l k = record { count = 0; within = omega arith; enough = omega arith; ran = rw (append-nil, add-zero x.written); ready = k }

  -- a call without room for an answer counts for none
  narrow_next : (room : ℕ) (rooms : List ℕ) → leb 16 room ≡ false → wide_calls (room ∷ rooms) ≡ wide_calls rooms
  unfolding wide_calls
  narrow_next room rooms e = ap (λ (b : Bool). cond b 1 0 + wide_calls rooms) e ∙ zero-add (wide_calls rooms)

  ran-one : (room : ℕ) (rooms : List ℕ) (x : Drive) (r : Record) (l : List Record) (y : Drive) → Ran rooms (gone x r l) l y → Ran (room ∷ rooms) x (r ∷ l) y
  unfolding model_all store_all answers_all masks_all wide_calls
  ran-one room rooms x r l y k =
      record {
        count = suc k.count;
        within = omega (arith, k.within);
        enough = go (leb 16 room);
        ran = k.ran ∙ rw (append_assoc x.answers (answer_of (read_of cx x.model.channel r) x.store), ones-append (mask_by cx x.model r)) (rw (add_assoc x.written));
        ready = k.ready;
      }
    where
      go : (b : Bool) → suc (length l) - suc k.count ≤ suc (length l) - (cond b 1 0 + wide_calls rooms)
      go true = omega (arith, k.enough)
      go false = omega (arith, k.enough)

  -- a call that has taken no record, where none waits or for want of room
  ran-empty : (room : ℕ) (rooms : List ℕ) (x y : Drive) → Ran rooms x [] y → Ran (room ∷ rooms) x [] y
  ran-empty room rooms x y k = record { count = k.count; within = k.within; enough = omega arith; ran = k.ran; ready = k.ready }

  ran-left : (room : ℕ) (rooms : List ℕ) (o : Option ℕ) → roomy o room ≡ false → (x : Drive) (l : List Record) (y : Drive) → Ran rooms x l y → Ran (room ∷ rooms) x l y
  ran-left room rooms None e x l y k = not-both true refl e
  ran-left room rooms (Some i) e x l y k = record { count = k.count; within = k.within; enough = rw (narrow_next room rooms e) k.enough; ran = k.ran; ready = k.ready }

  ran-from : (rooms : List ℕ) (x : Drive) (l : List Record) (y z : Drive) → y ≡ z → Ran rooms x l z → Ran rooms x l y
  ran-from rooms x l y z e k = record { count = k.count; within = k.within; enough = k.enough; ran = e ∙ k.ran; ready = rw e k.ready }

  ran-next : (room : ℕ) (rooms : List ℕ) (x : Drive) (r : Record) (l : List Record) → Ready x.model x.store (r ∷ l)
      → Ran rooms (gone x r l) l (driven cx rooms (gone x r l)) → Ran rooms x (r ∷ l) (driven cx rooms (kept x (r ∷ l)))
      → Ran (room ∷ rooms) x (r ∷ l) (driven cx (room ∷ rooms) (kept x (r ∷ l)))
  ran-next room rooms x r l k took left = ran-from _ _ _ _ _ (next_one room rooms x r l k) (go (roomy o room) refl)
    where
      o : Option ℕ
      o = read_of cx x.model.channel r

      go : (b : Bool) → roomy o room ≡ b → Ran (room ∷ rooms) x (r ∷ l) (driven cx rooms (cond b (gone x r l) (kept x (r ∷ l))))
      go true e = ran-one room rooms x r l _ took
      go false e = ran-left room rooms o e x (r ∷ l) _ left

  pub driven-ran : (rooms : List ℕ) (x : Drive) (l : List Record) → Ready x.model x.store l → Ran rooms x l (driven cx rooms (kept x l))
  driven-ran [] x l k = ran-from _ _ _ _ _ (driven-none (kept x l)) (ran-none x l k)
  driven-ran (room ∷ rooms) x [] k = ran-from _ _ _ _ _ (next-none room rooms x) (ran-empty room rooms x _ (driven-ran rooms x [] k))
  driven-ran (room ∷ rooms) x (r ∷ l) k =
      ran-next room rooms x r l k (driven-ran rooms (gone x r l) l (ready-next x.model x.store r l k)) (driven-ran rooms x (r ∷ l) k)

  -- ---- the records that are taken

  -- one answer for each RD
  answers-count : (m : ModelState) (l : List Record) (store : List ℕ) → length (answers_all cx m l store) ≡ reads_in l
  unfolding answers_all reads_in answer_of read_of traits row_traits col_traits
  answers-count m [] store = refl
  answers-count m (r ∷ l) store =
      length-append (answer_of (read_of cx m.channel r) store) _ ∙ rw (answers-count (model_next cx m r) l (store_next cx m r store), one r)
    where
      one : (r : Record) → length (answer_of (read_of cx m.channel r) store) ≡ cond (has (traits r).reads) 1 0
      one (RowAt t (Act b row)) = refl
      one (RowAt t (Prer b)) = refl
      one (RowAt t (Refa b)) = refl
      one (RowAt t (Refp b)) = refl
      one (ColAt t (Nocop m)) = refl
      one (ColAt t (Wr b c m x)) = refl
      one (ColAt t (Rd b c m x)) = refl
      one (DataOf t d) = refl

  module _ (rooms : List ℕ) (m : ModelState) (store : List ℕ) (l : List Record) (k : Ready m store l) where
    abbrev start : Drive
    start = record { model = m; store = store; answers = []; written = 0; pending = l; failed = false }

    abbrev end : Drive
    end = driven cx rooms start

    abbrev done : List Record
    done = take (length l - length end.pending) l

    run : Ran rooms start l end
    run = driven-ran rooms start l k

    left : length end.pending ≡ length l - run.count
    left = ap (λ (x : Drive). length x.pending) run.ran ∙ length-drop run.count l

    done-is : done ≡ take run.count l
    done-is = let n : length l - length end.pending ≡ run.count = omega (arith, left, run.within) in ap (λ (i : ℕ). take i l) n

    pub driven-within : length end.pending ≤ length l
    driven-within = omega (arith, left)

    pub driven-none-left : length end.pending ≡ 0 → end.pending ≡ []
    driven-none-left e = ap (λ (x : Drive). x.pending) run.ran ∙ drop_of_length-le l {i = run.count} (omega (arith, left, e))

    done_all_lem : end.pending ≡ [] → done ≡ l
    done_all_lem e = rw e (take_all (length l - 0) l (omega arith))

    pub driven-passes : end.failed ≡ false
    driven-passes = ap (λ (x : Drive). x.failed) run.ran

    pub driven-takes : (room : ℕ) → 16 ≤ room → (called cx room end end.pending).pending ≡ drop 1 end.pending
    driven-takes room h = wide-takes room h end end.pending refl run.ready

    pub driven-takes-all : length l ≤ wide_calls rooms → end.pending ≡ []
    driven-takes-all h = driven-none-left (omega (arith, left, run.enough, h))

    pub driven-store : end.pending ≡ [] → end.store ≡ store_all cx m l store
    driven-store e = ap (λ (x : Drive). x.store) run.ran ∙ rw (← done-is, done_all_lem e)

    pub driven-written : end.written ≡ ones_of (masks_all cx m done)
    driven-written = ap (λ (x : Drive). x.written) run.ran ∙ rw (← done-is) (zero-add _)

    pub driven-written-all : end.pending ≡ [] → end.written ≡ ones_of (masks_all cx m l)
    driven-written-all e = driven-written ∙ rw (done_all_lem e)

    -- what is answered so far is the first of what all records answer
    answered : end.answers ≡ answers_all cx m done store
    answered = ap (λ (x : Drive). x.answers) run.ran ∙ rw (← done-is)

    pub driven-answers : end.pending ≡ [] → end.answers ≡ answers_all cx m l store
    driven-answers e = answered ∙ rw (done_all_lem e)

    pub driven-so-far : end.answers ≡ take (reads_in done) (answers_all cx m l store)
    driven-so-far =
        let first : List (List ℕ) = answers_all cx m done store in
        let i : ℕ = length l - length end.pending in
        let rest : List (List ℕ) = answers_all cx (model_all cx m done) (drop i l) (store_all cx m done store) in
        let whole : answers_all cx m l store ≡ first ++ rest =
        ap (λ (q : List Record). answers_all cx m q store) (sym (take-append-drop i l)) ∙ answers-append cx m done (drop i l) store in
        answered ∙ sym (rw (← answers-count m done store, whole) (take-append_seam first rest))
