-- Calls of rdram_model_step in a row are model calls on the model's states: the bytes left are those of the model, the store and
-- the dualocts are the same, and the record that comes next is the first that waits.
-- Assumes nothing.
use Rattle.std.specs.Prelude.{Option, None, Some, Err, Ok, Result}
use Prim.Native.Nat.{ℕ, suc, ◌+◌, ◌-◌, ◌*◌, ◌/◌, ◌≤◌, ◌<◌}
use mathlib.Core.Path.{◌≡◌, refl, sym, ap, ◌∙◌}
use mathlib.Core.Bool.{Bool, true, false, not, ◌||◌, cond}
use mathlib.Core.List.{List, [], ◌∷◌, ◌++◌, append_assoc}
use lib.Dec.{eqb, ltb}
use lib.ListN.{length, take, length-append}
use borrow.Author.Tests.{ltb-true, lt-ltb, le-ltb, eq-eqb}
use native.Mathlib.Omega.{arith}
use Rattle.num.specs.Bytes.{part, splice}
use Rattle.num.proofs.PartLaws.{length_part}
use Rattle.num.proofs.SpliceLaws.{part-splice}
use Rattle.settings.specs.declared.Settings.{Settings}
use Rattle.settings.specs.Settings.{settings_read, valid}
use Rattle.settings.proofs.SettingsLaws.{bounds, accepted-valid}
use Rattle.packet.specs.declared.ColPacket.TheVariants.{Nocop, Wr, Rd}
use Rattle.packet.specs.Col.{col_fits}
use Rattle.record.specs.declared.Record.{Record}
use Rattle.record.specs.declared.Record.TheVariants.{RowAt, ColAt, DataOf}
use Rattle.record.specs.declared.Refusal.{Refusal}
use Rattle.record.specs.Refusal.{answer_of}
use Rattle.record.specs.Record.{record_bytes, record_fits, record_read}
use Rattle.spec_rules.specs.declared.Bank.{Bank}
use Rattle.spec_rules.specs.declared.Bank.TheVariants.{Closed, Open, Refresh}
use Rattle.spec_rules.specs.declared.Write.{Write}
use Rattle.spec_rules.specs.declared.Channel.{Channel}
use Rattle.spec_rules.specs.Neighbour.{bank_count, Context, context_of}
use Rattle.spec_rules.specs.History.{two}
use Rattle.spec_rules.specs.Channel.{state_of, waiting_of}
use Rattle.spec_rules.specs.Checks.{judged}
use Rattle.spec_rules.proofs.Bools.{and_left, and_right}
use Rattle.spec_rules.proofs.NeighbourLaws.{core-neighbours}
use Rattle.spec_state.specs.Valid.{bank_valid, channel_valid}
use Rattle.spec_state.proofs.NextValid.{valid-sound}
use Rattle.spec_plan.specs.Call.{list_bytes}
use Rattle.spec_model.specs.declared.ModelState.{ModelState}
use Rattle.spec_model.specs.Store.{store_length, dualoct, dualoct_at}
use Rattle.spec_model.specs.Model.{model_valid, open_row, bytes_left, bytes_next, second_next, model_next, store_next, read_of, retired_write, retire_mask}
use Rattle.spec_model.specs.ModelBytes.{model_bytes}
use Rattle.spec_model.specs.Step.{retire_answer, passed_answer, record_answer, read_answer, step_answer, is_taken, step_model, step_store, bytes_read, bytes_by, step_room}
use Rattle.spec_model.proofs.StoreLaws.{dualoct-in}
use Rattle.spec_model.proofs.ModelRoundTrip.{DataFits, HeldFits, model-decode-encode, model-right}
use Rattle.spec_model.proofs.NextValid.{next-model-valid}
use Rattle.spec_runs.specs.Count.{written_by}
use Rattle.spec_runs.specs.Drive.{Drive, returned, left_by, fails, called_on, driven}
use Rattle.spec_runs.proofs.DriveLaws.{Every, length-record, roomy, kept, gone, Ready, ready-next, call-is, driven-none, next-none, next_one}
use Rattle.spec_runs.proofs.Sim.{DataIn}
use Rattle.spec_calls.specs.Settings.{under_settings}
use Rattle.spec_calls.specs.Models.{stepped_answer, StepResult, step_by, step_under, step_call}
use Rattle.spec_calls.specs.Runs.{Device, device_by, device_next, device_after}
use Rattle.spec_calls.proofs.ListOf.{list-next}
use Rattle.spec_calls.proofs.OneCall.{refusal-number}
use Rattle.spec_model.specs.declared.Event.TheVariants.{Neither, Read, Retired}
use Rattle.spec_model.specs.declared.Event.{Event}

-- ---- a model call's answer in numbers

-- what the caller keeps of an answer buffer
kept-answer : (a : Result Event Refusal) (room new : List ℕ) → (a ≡ (Ok Read) → take 16 room ≡ new) → cond (eqb (stepped_answer a).event 1) (take 16 room ∷ []) [] ≡ returned a new
unfolding stepped_answer returned
kept-answer (Err why) room new f = refl
kept-answer (Ok Read) room new f = rw (f refl)
kept-answer (Ok (Retired n)) room new f = refl
kept-answer (Ok Neither) room new f = refl

-- the record that comes next
kept_next : (a : Result Event Refusal) (r : Record) (l : List Record) (k : ℕ) → suc (length l) ≤ k
    → cond (eqb (stepped_answer a).number 0) (k - suc (length l) + 1) (k - suc (length l)) ≡ k - length (left_by a r l)
unfolding stepped_answer left_by
kept_next (Err why) r l k h = rw (refusal-number why)
kept_next (Ok Read) r l k h = omega arith
kept_next (Ok (Retired n)) r l k h = omega arith
kept_next (Ok Neither) r l k h = omega arith

-- a refusal other than 8
kept-failed : (a : Result Event Refusal) → not (eqb (stepped_answer a).number 0 || eqb (stepped_answer a).number 8) ≡ fails a
unfolding stepped_answer fails
kept-failed (Err why) = rw (refusal-number why)
kept-failed (Ok Read) = refl
kept-failed (Ok (Retired n)) = refl
kept-failed (Ok Neither) = refl

-- the number of bytes written
kept-written : (a : Result Event Refusal) → (stepped_answer a).bytes ≡ written_by a
unfolding stepped_answer written_by
kept-written (Err why) = refl
kept-written (Ok Read) = refl
kept-written (Ok (Retired n)) = refl
kept-written (Ok Neither) = refl

-- ---- the dualoct that is read is in the store

-- an answer of 16 bytes, where there is one
abbrev Sixteen : List ℕ → Option ℕ → Type 0
Sixteen store None = Unit {0}
Sixteen store (Some k) = length (dualoct store k) ≡ 16

row_in : (cx : Context) (b : Bank) → 1 ≤ cx.settings.rows → bank_valid cx b ≡ true → open_row b < cx.settings.rows
unfolding open_row bank_valid
row_in cx Closed n h = omega arith
row_in cx (Open r) n h = ltb-true r cx.settings.rows h
row_in cx Refresh n h = omega arith

read-sixteen : (cx : Context) → valid cx.settings ≡ true → (ch : Channel) → channel_valid cx ch ≡ true → (store : List ℕ) → length store ≡ store_length cx
    → (r : Record) → record_fits cx.settings r ≡ true → Sixteen store (read_of cx ch r)
unfolding read_of record_fits col_fits dualoct bank_count
read-sixteen cx v ch k store n (RowAt t p) f = tt
read-sixteen cx v ch k store n (ColAt t (Nocop m)) f = tt
read-sixteen cx v ch k store n (ColAt t (Wr b c m close)) f = tt
read-sixteen cx v ch k store n (ColAt t (Rd b c m close)) f =
    let bank : b < 32 = ltb-true b 32 (and_left (ltb b 32) _ f) in
    let column : c < cx.settings.columns = ltb-true c cx.settings.columns (and_left (ltb c cx.settings.columns) _ (and_right (ltb b 32) _ f)) in
    let row : open_row (state_of ch b) < cx.settings.rows = row_in cx (state_of ch b) (bounds cx.settings v).rows-least ((valid-sound cx ch k).rows_in b bank) in
    length_part store (16 * dualoct_at cx b (open_row (state_of ch b)) c) 16 (rw n (dualoct-in cx b (open_row (state_of ch b)) c bank row column))
read-sixteen cx v ch k store n (DataOf t d) f = tt

-- ---- one call

-- field by field, so that a definition that is wrong in one field is refused at that field
device-same : (m n st su : List ℕ) (a b : List (List ℕ)) (c d i j : ℕ) (p q : Bool) → m ≡ n → st ≡ su → a ≡ b → c ≡ d → i ≡ j → p ≡ q →
    ◌≡◌ {A = Device} (record { model = m; store = st; answers = a; written = c; next = i; failed = p }) (record { model = n; store = su; answers = b; written = d; next = j; failed = q })
device-same m n st su a b c d i j p q e f g h k l = rw (e, f, g, h, k, l)

module _ (settings : List ℕ) (s : Settings) (a : settings_read settings ≡ Some s) (m : ModelState) (k : model_valid (context_of s) m ≡ true) (d : HeldFits m) (store given room : List ℕ) where
  v : valid s ≡ true
  v = accepted-valid settings s a

  -- the call on the state that the bytes say
  abbrev called : Result Event Refusal
  called = step_answer (context_of s) m (length store) given (length room)

  step-result : step_call settings (model_bytes m) store given room ≡ step_by (model_bytes m) store given room (context_of s) m called
  unfolding step_call under_settings step_under context_of
  step-result = rw (a, model-right (context_of s) v m k d, model-decode-encode (context_of s) v m k d)

  pub step-answer : (step_call settings (model_bytes m) store given room).answer ≡ stepped_answer called
  step-answer = ap (λ (x : StepResult). x.answer) step-result ∙ go called
    where
      go : (o : Result Event Refusal) → (step_by (model_bytes m) store given room (context_of s) m o).answer ≡ stepped_answer o
      go (Err why) = refl
      go (Ok Read) = refl
      go (Ok (Retired n)) = refl
      go (Ok Neither) = refl

  pub step-model : (step_call settings (model_bytes m) store given room).model ≡ model_bytes (step_model (context_of s) m (length store) given (length room))
  unfolding step_model is_taken
  step-model = ap (λ (x : StepResult). x.model) step-result ∙ go called refl
    where
      go : (o : Result Event Refusal) → called ≡ o → (step_by (model_bytes m) store given room (context_of s) m o).model ≡ model_bytes (step_model (context_of s) m (length store) given (length room))
      go (Err why) e = rw e
      go (Ok Read) e = refl
      go (Ok (Retired n)) e = refl
      go (Ok Neither) e = refl

  step-store : (step_call settings (model_bytes m) store given room).store ≡ step_store (context_of s) m store given (length room)
  unfolding step_store is_taken
  step-store = ap (λ (x : StepResult). x.store) step-result ∙ go called refl
    where
      go : (o : Result Event Refusal) → called ≡ o → (step_by (model_bytes m) store given room (context_of s) m o).store ≡ step_store (context_of s) m store given (length room)
      go (Err why) e = rw e
      go (Ok Read) e = refl
      go (Ok (Retired n)) e = refl
      go (Ok Neither) e = refl

  step_room_lem : (step_call settings (model_bytes m) store given room).room ≡ step_room (context_of s) m store given room
  unfolding step_room is_taken
  step_room_lem = ap (λ (x : StepResult). x.room) step-result ∙ go called refl
    where
      go : (o : Result Event Refusal) → called ≡ o → (step_by (model_bytes m) store given room (context_of s) m o).room ≡ step_room (context_of s) m store given room
      go (Err why) e = rw e
      go (Ok Read) e = refl
      go (Ok (Retired n)) e = refl
      go (Ok Neither) e = refl

  -- what the caller keeps of the answer
  step-returned : (new : List ℕ) → (called ≡ (Ok Read) → take 16 (step_room (context_of s) m store given room) ≡ new) →
      cond (eqb (step_call settings (model_bytes m) store given room).answer.event 1) (take 16 (step_call settings (model_bytes m) store given room).room ∷ []) [] ≡ returned called new
  step-returned new f = rw (step-answer, step_room_lem) (kept-answer called (step_room (context_of s) m store given room) new f)

  step-written : (step_call settings (model_bytes m) store given room).answer.bytes ≡ written_by called
  step-written = rw step-answer (kept-written called)

  step-next : (r : Record) (l : List Record) (n : ℕ) → suc (length l) ≤ n →
      cond (eqb (step_call settings (model_bytes m) store given room).answer.number 0) (n - suc (length l) + 1) (n - suc (length l)) ≡ n - length (left_by called r l)
  step-next r l n h = rw step-answer (kept_next called r l n h)

  step-failed : not (eqb (step_call settings (model_bytes m) store given room).answer.number 0 || eqb (step_call settings (model_bytes m) store given room).answer.number 8) ≡ fails called
  step-failed = rw step-answer (kept-failed called)

  -- an RD that is taken leaves its dualoct in the buffer
  passed_none : (w : Option Write) (mask : ℕ) → retire_answer w mask ≡ (Ok Read) → ⊥
  unfolding retire_answer
  passed_none None mask e = absurd (let z : ◌≡◌ {A = ℕ} 0 1 = cc in omega arith)
  passed_none (Some w) mask e = absurd (let z : ◌≡◌ {A = ℕ} 0 1 = cc in omega arith)

  room-read : (r : Record) → length store ≡ store_length (context_of s) → length given ≡ 32 → record_read s given ≡ Some r → record_fits s r ≡ true → judged (context_of s) m.channel r ≡ 0
      → called ≡ (Ok Read) → take 16 (step_room (context_of s) m store given room) ≡ bytes_by (context_of s) m (record_read s given) store
  unfolding step_room model_valid step_answer read_answer record_answer passed_answer bytes_read bytes_by is_taken context_of
  room-read r n g e f j read =
      let o : Option ℕ = read_of (context_of s) m.channel r in
      let full = read-sixteen (context_of s) v m.channel (and_left (channel_valid (context_of s) m.channel) _ k) store n r f in
      let passed : passed_answer o (retire_answer (retired_write (context_of s) m r) (retire_mask r)) (length room) ≡ (Ok Read) = rw (eq-eqb _ _ n, eq-eqb _ _ g, e, j) at read in
      rw (read, e) (go o full passed)
    where
      go : (o : Option ℕ) → Sixteen store o → passed_answer o (retire_answer (retired_write (context_of s) m r) (retire_mask r)) (length room) ≡ (Ok Read)
          → take 16 (splice room 0 (bytes_read o store)) ≡ bytes_read o store
      go None h p = absurd (passed_none (retired_write (context_of s) m r) (retire_mask r) p)
      go (Some i) h p = part-splice room 0 (dualoct store i) 16 h (omega arith)

-- ---- the same of records in a list of bytes

-- so many bytes for each answer
unfoldable pub lengths : List (List ℕ) → List ℕ
lengths [] = []
lengths (room ∷ rooms) = length room ∷ lengths rooms

-- calls on states as calls on bytes, of a list of n records
abbrev pub like : ℕ → Drive → Device
like n x = record { model = model_bytes x.model; store = x.store; answers = x.answers; written = x.written; next = n - length x.pending; failed = x.failed }

-- a model and a store before the records that wait, which stand in the list after some bytes
pub record Stands (s : Settings) (list : List ℕ) (n : ℕ) (m : ModelState) (store : List ℕ) (l : List Record) : Type 0 where
  pub before : List ℕ
  pub stands : list ≡ before ++ list_bytes s l
  pub taken : length before ≡ 32 * (n - length l)
  pub within : length l ≤ n
  pub model-valid : model_valid (context_of s) m ≡ true
  pub data-held : HeldFits m
  pub fits : Every (λ r. record_fits s r ≡ true) l
  pub data-in : Every DataIn l
  pub ready : Ready (context_of s) m store l

pub bytes-held : (cx : Context) (m : ModelState) (r : Record) → DataIn r → HeldFits m → HeldFits (model_next cx m r)
unfolding model_next bytes_next second_next
bytes-held cx m (RowAt t p) i h = h
bytes-held cx m (ColAt t p) i h = (go (retired_write cx m (ColAt t p)), h.1)
  where
    go : (o : Option Write) → DataFits (bytes_left o m.bytes m.second)
    go None = h.0
    go (Some w) = h.1
bytes-held cx m (DataOf t d) i h = go (two (waiting_of m.channel.buffer))
  where
    go : (b : Bool) → (DataFits (cond b m.bytes d)) × (DataFits (cond b d m.second))
    go true = (h.0, i)
    go false = (i, h.1)

module _ (settings : List ℕ) (s : Settings) (a : settings_read settings ≡ Some s) (list : List ℕ) (n : ℕ) (whole : length list ≡ 32 * n) where
  stands-next : (m : ModelState) (store : List ℕ) (r : Record) (l : List Record) → Stands s list n m store (r ∷ l) → Stands s list n (model_next (context_of s) m r) (store_next (context_of s) m r store) l
  unfolding list_bytes model_next context_of
  stands-next m store r l k =
      record {
        before = k.before ++ record_bytes s r;
        stands = k.stands ∙ sym (append_assoc k.before (record_bytes s r) (list_bytes s l));
        taken = length-append k.before (record_bytes s r) ∙ omega (arith, k.taken, length-record (context_of s) r, k.within);
        within = omega (arith, k.within);
        model-valid = next-model-valid (context_of s) (accepted-valid settings s a) (core-neighbours s) m k.model-valid r k.fits.0 k.ready.passing.0;
        data-held = bytes-held (context_of s) m r k.data-in.0 k.data-held;
        fits = k.fits.1;
        data-in = k.data-in.1;
        ready = ready-next (context_of s) m store r l k.ready;
      }

  module _ (x : Drive) (r : Record) (l : List Record) (k : Stands s list n x.model x.store (r ∷ l)) (room : List ℕ) where
    -- the record that comes next
    given_is : part list (32 * (n - suc (length l))) 32 ≡ record_bytes s r
    unfolding list_bytes
    given_is = rw k.stands (list-next s k.before (list_bytes s l) r (n - suc (length l)) k.taken)

    by_call : device_by settings list room (like n (kept (context_of s) x (r ∷ l))) ≡ like n (called_on (context_of s) (length room) (kept (context_of s) x (r ∷ l)) r l)
    unfolding device_by called_on context_of
    by_call =
        let m : ModelState = x.model in
        let store : List ℕ = x.store in
        let b : List ℕ = record_bytes s r in
        let new : List ℕ = bytes_by (context_of s) m (record_read s b) store in
        let read = room-read settings s a m k.model-valid k.data-held store b room r k.ready.stored (length-record (context_of s) r) k.ready.coded.0 k.fits.0 k.ready.passing.0 in
        rw given_is
        (device-same _ _ _ _ _ _ _ _ _ _ _ _
        (step-model settings s a m k.model-valid k.data-held store b room)
        (step-store settings s a m k.model-valid k.data-held store b room)
        (ap (λ y. x.answers ++ y) (step-returned settings s a m k.model-valid k.data-held store b room new read))
        (ap (λ (i : ℕ). x.written + i) (step-written settings s a m k.model-valid k.data-held store b room))
        (step-next settings s a m k.model-valid k.data-held store b room r l n k.within)
        (step-failed settings s a m k.model-valid k.data-held store b room))

    next-call : device_next settings list room (like n (kept (context_of s) x (r ∷ l)))
        ≡ like n (cond (roomy (read_of (context_of s) x.model.channel r) (length room)) (gone (context_of s) x r l) (kept (context_of s) x (r ∷ l)))
    unfolding device_next
    next-call =
        let count : length list / 32 ≡ n = omega arith in
        let more : ltb (n - suc (length l)) n ≡ true = lt-ltb (n - suc (length l)) n (omega (arith, k.within)) in
        rw (count, more) (by_call ∙ ap (like n) (call-is (context_of s) (length room) x r l k.ready))

  -- no record comes next
  next-none-left : (x : Drive) (room : List ℕ) → device_next settings list room (like n (kept (context_of s) x [])) ≡ like n (kept (context_of s) x [])
  unfolding device_next
  next-none-left x room =
      let count : length list / 32 ≡ n = omega arith in
      let none_left : ltb (n - 0) n ≡ false = le-ltb (n - 0) n (omega arith) in
      rw (count, none_left)

  pub device-is : (rooms : List (List ℕ)) (x : Drive) (l : List Record) → Stands s list n x.model x.store l
      → device_after settings list rooms (like n (kept (context_of s) x l)) ≡ like n (driven (context_of s) (lengths rooms) (kept (context_of s) x l))
  unfolding device_after lengths
  device-is [] x l k = rw (driven-none (context_of s) (kept (context_of s) x l))
  device-is (room ∷ rooms) x [] k = rw (next-none-left x room, next-none (context_of s) (length room) (lengths rooms) x) (device-is rooms x [] k)
  device-is (room ∷ rooms) x (r ∷ l) k =
      rw (next-call x r l k room, next_one (context_of s) (length room) (lengths rooms) x r l k.ready)
      (go (roomy (read_of (context_of s) x.model.channel r) (length room))
      (device-is rooms (gone (context_of s) x r l) l (stands-next x.model x.store r l k))
      (device-is rooms x (r ∷ l) k))
    where
      Same : Drive → Type 0
      Same y = device_after settings list rooms (like n y) ≡ like n (driven (context_of s) (lengths rooms) y)

      go : (q : Bool) → Same (gone (context_of s) x r l) → Same (kept (context_of s) x (r ∷ l)) → Same (cond q (gone (context_of s) x r l) (kept (context_of s) x (r ∷ l)))
      go true t f = t
      go false t f = f
