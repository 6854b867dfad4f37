-- What the call asks of the store is what the definitions of the model do, and in the store.
-- Assumes nothing.
use Rattle.std.specs.Prelude.{None, Some}
use Prim.Native.Nat.{ℕ}
use mathlib.Core.Path.{◌≡◌, refl}
use mathlib.Core.Bool.{Bool, true, false, ◌&&◌, cond}
use mathlib.Core.List.{List, []}
use native.Mathlib.Omega.{arith}
use lib.Dec.{eqb, ltb}
use lib.ListN.{length}
use Rattle.settings.specs.declared.Settings.{Settings}
use Rattle.settings.specs.declared.DataAt.{DataAt}
use Rattle.settings.specs.Settings.{valid}
use Rattle.packet.specs.declared.RowPacket.{RowPacket}
use Rattle.packet.specs.declared.RowPacket.TheVariants.{Act, Prer, Refa, Refp}
use Rattle.packet.specs.declared.ColPacket.TheVariants.{Nocop, Wr, Rd}
use Rattle.packet.specs.Col.{col_fits}
use Rattle.record.specs.declared.Record.{Record}
use Rattle.record.specs.declared.Record.TheVariants.{RowAt, ColAt, DataOf}
use Rattle.record.specs.Record.{record_fits}
use Rattle.spec_rules.specs.declared.Write.{Write}
use Rattle.spec_rules.specs.declared.Buffer.{Buffer}
use Rattle.spec_rules.specs.declared.Buffer.TheVariants.{Empty, One, Two}
use Rattle.spec_rules.specs.declared.Channel.{Channel}
use Rattle.spec_rules.specs.Neighbour.{Context, context_of, bank_count}
use Rattle.spec_rules.specs.Packets.{traits, row_traits, col_traits, instant}
use Rattle.spec_rules.specs.History.{only_write, first, passed, leaving, all_writes}
use Rattle.spec_rules.specs.Channel.{state_of, waiting_of}
use Rattle.spec_rules.proofs.Bools.{and_left, and_right}
use Rattle.spec_state.specs.Valid.{write_valid, channel_valid}
use Rattle.spec_state.specs.ChannelBytes.{zero_part, channel_spare, channel_in}
use Rattle.spec_state.proofs.NextValid.{Sound, valid-sound}
use Rattle.chan_view.specs.declared.View.{View}
use Rattle.chan_view.specs.declared.Held.{Held}
use Rattle.chan_view.specs.declared.Seen.TheVariants.{Packet, Data}
use Rattle.chan_view.specs.Form.Beside.{slot_of}
use Rattle.chan_view.specs.Form.View.{col_view, seen_of, held_of, leaves}
use Rattle.chan_view.proofs.ViewLaws.{seen-shows, leaving-is}
use Rattle.spec_model.specs.declared.ModelState.{ModelState}
use Rattle.spec_model.specs.Model.{model_valid, retire_mask, retired_write, store_next, read_of}
use Rattle.spec_model.specs.ModelBytes.{model_length, model_in, model_right}
use Rattle.spec_model.specs.Step.{retire_answer, passed_answer, is_taken, bytes_read}
use Rattle.model_store.specs.declared.Touch.{Touch}
use Rattle.model_store.specs.declared.Touch.TheVariants.{Nothing}
use Rattle.model_store.specs.Form.Touch.{touch_of, TouchIn, touch_answer, touch_store, touch_bytes}
use Rattle.model_store.proofs.TouchLaws.{Found, touch-answer, touch-store, touch-bytes, touch-in}
use Rattle.model_step.specs.Form.Take.{named, touch_for}

-- ---- as the code reads it

module _ (s : Settings) (ch : Channel) (r : Record) where
  abbrev waiting : Held
  waiting = held_of ch.buffer ch.due

  pub touch-packet : (v : View) → seen_of r ≡ Packet v
      → touch_of r (only_write (leaves s waiting v) (first (waiting_of ch.buffer))) (state_of ch (slot_of v.bank)) (state_of ch (slot_of waiting.bank)) ≡ touch_for (context_of s) ch r
  unfolding touch_for named
  touch-packet v q = rw (q, leaving-is s ch.buffer ch.due r v (seen-shows r v q))

  pub touch-data : (t : DataAt) → seen_of r ≡ Data t → Nothing ≡ touch_for (context_of s) ch r
  unfolding touch_for seen_of touch_of
  touch-data t q = go r q
    where
      go : (r : Record) → seen_of r ≡ Data t → Nothing ≡ touch_for (context_of s) ch r
      go (RowAt u p) q = refl
      go (ColAt u p) q = absurd (let z : ◌≡◌ {A = ℕ} 0 1 = cc in omega arith)
      go (DataOf u d) q = refl

-- ---- the banks that are read

slot_is : (b : ℕ) → ltb b 32 ≡ true → slot_of b ≡ b
slot_is b e = rw e

-- a ROW packet reads nothing
row-none : (p : RowPacket) → (row_traits p).reads ≡ None
unfolding row_traits
row-none (Act b r) = refl
row-none (Prer b) = refl
row-none (Refa b) = refl
row-none (Refp b) = refl

module _ (cx : Context) (ch : Channel) (k : Sound cx ch) where
  held_at : (bf : Buffer) (due c : Bool) (w : Write) → all_writes (write_valid cx) (waiting_of bf) ≡ true → only_write c (first (waiting_of bf)) ≡ Some w
      → state_of ch (slot_of (held_of bf due).bank) ≡ state_of ch w.bank
  unfolding waiting_of held_of write_valid bank_count
  held_at Empty due true w v e = absurd (let z : ◌≡◌ {A = ℕ} 0 1 = cc in omega arith)
  held_at bf due false w v e = absurd (let z : ◌≡◌ {A = ℕ} 0 1 = cc in omega arith)
  held_at (One x) due true w v e =
      let q : x ≡ w = cc in
      let l : ltb x.bank 32 ≡ true = and_left (ltb x.bank 32) _ (and_left (write_valid cx x) true v) in
      rw (slot_is x.bank l, q)
  held_at (Two x y) due true w v e =
      let q : x ≡ w = cc in
      let l : ltb x.bank 32 ≡ true = and_left (ltb x.bank 32) _ (and_left (write_valid cx x) _ v) in
      rw (slot_is x.bank l, q)

  read_at : (r : Record) → record_fits cx.settings r ≡ true → (b : ℕ) → (traits r).reads ≡ Some b → state_of ch (slot_of (named (seen_of r))) ≡ state_of ch b
  unfolding record_fits col_fits traits col_traits named seen_of col_view
  read_at (RowAt t p) f b e = absurd (let n = row-none p in let z : ◌≡◌ {A = ℕ} 0 1 = cc in omega arith)
  read_at (ColAt t (Nocop m)) f b e = absurd (let z : ◌≡◌ {A = ℕ} 0 1 = cc in omega arith)
  read_at (ColAt t (Wr x c m close)) f b e = absurd (let z : ◌≡◌ {A = ℕ} 0 1 = cc in omega arith)
  read_at (ColAt t (Rd x c m close)) f b e = let q : x ≡ b = cc in rw (slot_is x (and_left (ltb x 32) _ f), q)
  read_at (DataOf t d) f b e = absurd (let z : ◌≡◌ {A = ℕ} 0 1 = cc in omega arith)

  found : (r : Record) → record_fits cx.settings r ≡ true
      → Found cx ch r (state_of ch (slot_of (named (seen_of r)))) (state_of ch (slot_of (held_of ch.buffer ch.due).bank))
  unfolding leaving
  found r f = record { read = read_at r f; retired = λ w e. held_at ch.buffer ch.due ((traits r).not_read && passed cx (first (waiting_of ch.buffer)) (instant r)) w k.write e }

-- ---- what is asked

pub record Asks (cx : Context) (m : ModelState) (r : Record) (t : Touch) : Type 0 where
  pub answer : (room : ℕ) → passed_answer (read_of cx m.channel r) (retire_answer (retired_write cx m r) (retire_mask r)) room ≡ touch_answer t room
  pub stored : (store : List ℕ) → store_next cx m r store ≡ touch_store cx t m.bytes store
  pub read : (store : List ℕ) (room : ℕ) → cond (is_taken (touch_answer t room)) (bytes_read (read_of cx m.channel r) store) [] ≡ touch_bytes cx t store room
  pub within : TouchIn cx t

-- bytes that are not refused say a state that is not refused
right-sound : (cx : Context) (b : List ℕ) → model_right cx b ≡ true → Sound cx (model_in b).channel
unfolding model_right model_valid
right-sound cx b r =
    let v = and_right (channel_spare b && zero_part b 754 6) _ (and_right (eqb (length b) model_length) _ r) in
    valid-sound cx (model_in b).channel (and_left (channel_valid cx (model_in b).channel) _ v)

pub asks : (cx : Context) → valid cx.settings ≡ true → (b : List ℕ) → model_right cx b ≡ true → (r : Record) → record_fits cx.settings r ≡ true
    → Asks cx (model_in b) r (touch_for cx (model_in b).channel r)
unfolding touch_for
asks cx v b h r f =
    let m = model_in b in
    let k = right-sound cx b h in
    let w = found cx m.channel k r f in
    record {
      answer = touch-answer cx m _ _ r w;
      stored = λ store. touch-store cx m _ _ store r w;
      read = λ store. touch-bytes cx m _ _ store r w;
      within = touch-in cx m _ _ v k r w f;
    }

-- of the bytes of a model
pub asks_in : (s : Settings) (b : List ℕ) (r : Record) (t : Touch) → valid s ≡ true → model_right (context_of s) b ≡ true → record_fits s r ≡ true
    → t ≡ touch_for (context_of s) (channel_in b) r → Asks (context_of s) (model_in b) r t
unfolding context_of model_in
asks_in s b r t v h f e = rw e (asks (context_of s) v b h r f)
