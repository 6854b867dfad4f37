-- What the code asks of the store is what the definitions of the model do, in a state that is not refused.
-- Assumes nothing.
use Rattle.std.specs.Prelude.{Option, None, Some, Err, Ok}
use Prim.Native.Nat.{ℕ, ◌<◌, ◌≤◌, ◌^◌}
use mathlib.Core.Path.{◌≡◌, refl, sym, ap, ◌∙◌}
use mathlib.Core.Bool.{Bool, true, false, ◌&&◌, cond}
use mathlib.Core.List.{List, [], ◌∷◌}
use native.Mathlib.Omega.{arith}
use lib.Dec.{leb, ltb}
use borrow.Author.Tests.{ltb-true}
use Rattle.settings.specs.Settings.{valid}
use Rattle.settings.proofs.SettingsLaws.{bounds}
use Rattle.packet.specs.declared.RowPacket.{RowPacket}
use Rattle.packet.specs.declared.RowPacket.TheVariants.{Act, Prer, Refa, Refp}
use Rattle.packet.specs.declared.ColPacket.TheVariants.{Nocop, Wr, Rd}
use Rattle.packet.specs.Col.{col_fits}
use Rattle.record.specs.declared.Dualoct.{Dualoct}
use Rattle.record.specs.declared.Record.{Record}
use Rattle.record.specs.declared.Record.TheVariants.{RowAt, ColAt, DataOf}
use Rattle.record.specs.declared.Refusal.TheVariants.{Full}
use Rattle.record.specs.Record.{record_fits}
use Rattle.spec_rules.specs.declared.Bank.{Bank}
use Rattle.spec_rules.specs.declared.Bank.TheVariants.{Closed, Open, Refresh}
use Rattle.spec_rules.specs.declared.Write.{Write}
use Rattle.spec_rules.specs.declared.Channel.{Channel}
use Rattle.spec_rules.specs.Neighbour.{Context, bank_count}
use Rattle.spec_rules.specs.Packets.{traits, row_traits, col_traits, instant}
use Rattle.spec_rules.specs.History.{only_write, first, passed, leaving, all_writes}
use Rattle.spec_rules.specs.Channel.{state_of, waiting_of, leaving_of}
use Rattle.spec_rules.proofs.Bools.{and_left, and_right}
use Rattle.spec_state.specs.Valid.{bank_valid, write_valid}
use Rattle.spec_state.proofs.NextValid.{Sound}
use Rattle.spec_model.specs.declared.ModelState.{ModelState}
use Rattle.spec_model.specs.Model.{open_row, retire_mask, retired_write, retired_to, store_next, read_of}
use Rattle.spec_model.specs.Step.{retire_answer, passed_answer, is_taken, bytes_read}
use Rattle.model_store.specs.declared.Touch.{Touch}
use Rattle.model_store.specs.declared.Touch.TheVariants.{Nothing, Reads, Retires}
use Rattle.model_store.specs.Form.Touch.{retire_touch, col_touch, touch_of, PlaceIn, TouchIn, touch_answer, touch_store, touch_bytes}
use Rattle.spec_model.specs.declared.Event.TheVariants.{Read}

-- a ROW packet and data retire nothing
row_keeps : (p : RowPacket) → (row_traits p).not_read ≡ false
unfolding row_traits
row_keeps (Act b r) = refl
row_keeps (Prer b) = refl
row_keeps (Refa b) = refl
row_keeps (Refp b) = refl

-- a write that leaves is one of those that wait
left-fits : (q : Write → Bool) (ws : List Write) (b : Bool) (w : Write) → all_writes q ws ≡ true → only_write b (first ws) ≡ Some w → q w ≡ true
left-fits q [] true w e h = absurd (let z : ◌≡◌ {A = ℕ} 0 1 = cc in omega arith)
left-fits q (x ∷ ws) true w e h = let z : x ≡ w = cc in rw z at (and_left (q x) _ e)
left-fits q ws false w e h = absurd (let z : ◌≡◌ {A = ℕ} 0 1 = cc in omega arith)

read_taken : (b : Bool) → is_taken (cond b (Ok Read) (Err Full)) ≡ b
unfolding is_taken
read_taken true = refl
read_taken false = refl

same-both : {A : Type 0} (b : Bool) (x : A) → cond b x x ≡ x
same-both true x = refl
same-both false x = refl

-- ---- the retire of a write, if one leaves

module _ (cx : Context) (ch : Channel) (o : Option Write) (held : Bank) (at : (w : Write) → o ≡ Some w → held ≡ state_of ch w.bank) (mask : ℕ) where
  retire-answer : (room : ℕ) → retire_answer o mask ≡ touch_answer (retire_touch o held mask) room
  unfolding retire_answer retire_touch touch_answer
  retire-answer room = go o
    where
      go : (o : Option Write) → retire_answer o mask ≡ touch_answer (retire_touch o held mask) room
      go None = refl
      go (Some w) = refl

  retire-store : (d : Dualoct) (store : List ℕ) → retired_to cx ch o mask d store ≡ touch_store cx (retire_touch o held mask) d store
  unfolding retire_touch touch_store
  retire-store d store = go o at
    where
      go : (o : Option Write) → ((w : Write) → o ≡ Some w → held ≡ state_of ch w.bank) → retired_to cx ch o mask d store ≡ touch_store cx (retire_touch o held mask) d store
      go None h = refl
      go (Some w) h = rw (h w refl)

  retire-bytes : (room : ℕ) (store : List ℕ) → touch_bytes cx (retire_touch o held mask) store room ≡ []
  unfolding retire_touch touch_bytes
  retire-bytes room store = go o
    where
      go : (o : Option Write) → touch_bytes cx (retire_touch o held mask) store room ≡ []
      go None = refl
      go (Some w) = refl

-- ---- a record: the bank that it reads is in the state own, and that of the write that it retires in the state held

pub record Found (cx : Context) (ch : Channel) (r : Record) (own held : Bank) : Type 0 where
  pub read : (b : ℕ) → (traits r).reads ≡ Some b → own ≡ state_of ch b
  pub retired : (w : Write) → leaving_of cx ch r ≡ Some w → held ≡ state_of ch w.bank

module _ (cx : Context) (m : ModelState) (own held : Bank) where
  abbrev pub touched : Record → Touch
  touched r = touch_of r (leaving_of cx m.channel r) own held

  abbrev finds : Record → Type 0
  finds r = Found cx m.channel r own held

  pub touch-answer : (r : Record) → finds r → (room : ℕ)
      → passed_answer (read_of cx m.channel r) (retire_answer (retired_write cx m r) (retire_mask r)) room ≡ touch_answer (touched r) room
  unfolding passed_answer read_of retired_write retire_mask retire_answer leaving traits col_traits touch_of col_touch touch_answer
  touch-answer (RowAt t p) f room = rw (row_keeps p)
  touch-answer (DataOf t d) f room = refl
  touch-answer (ColAt t (Nocop x)) f room = retire-answer cx m.channel _ held f.retired x room
  touch-answer (ColAt t (Wr b c x close)) f room = retire-answer cx m.channel _ held f.retired x room
  touch-answer (ColAt t (Rd b c x close)) f room = refl

  module _ (store : List ℕ) where
    pub touch-store : (r : Record) → finds r → store_next cx m r store ≡ touch_store cx (touched r) m.bytes store
    unfolding store_next retired_write retire_mask leaving traits col_traits touch_of col_touch touch_store
    touch-store (RowAt t p) f = rw (row_keeps p)
    touch-store (DataOf t d) f = refl
    touch-store (ColAt t (Nocop x)) f = retire-store cx m.channel _ held f.retired x m.bytes store
    touch-store (ColAt t (Wr b c x close)) f = retire-store cx m.channel _ held f.retired x m.bytes store
    touch-store (ColAt t (Rd b c x close)) f = refl

    -- the bytes that a record answers go to the answer buffer where there is room for them
    pub touch-bytes : (r : Record) → finds r → (room : ℕ)
        → cond (is_taken (touch_answer (touched r) room)) (bytes_read (read_of cx m.channel r) store) [] ≡ touch_bytes cx (touched r) store room
    unfolding read_of bytes_read touch_of col_touch touch_answer touch_bytes is_taken traits col_traits
    touch-bytes (RowAt t p) f room = refl
    touch-bytes (DataOf t d) f room = refl
    touch-bytes (ColAt t (Nocop x)) f room = same-both (is_taken (touch_answer (touched (ColAt t (Nocop x))) room)) [] ∙ sym (retire-bytes cx m.channel _ held f.retired x room store)
    touch-bytes (ColAt t (Wr b c x close)) f room = same-both (is_taken (touch_answer (touched (ColAt t (Wr b c x close))) room)) [] ∙ sym (retire-bytes cx m.channel _ held f.retired x room store)
    touch-bytes (ColAt t (Rd b c x close)) f room = rw (f.read b refl, read_taken (leb 16 room))

  -- ---- places are in the store, where the state is not refused

  module _ (v : valid cx.settings ≡ true) (k : Sound cx m.channel) where
    row_in : (b : Bank) → bank_valid cx b ≡ true → open_row b < cx.settings.rows
    unfolding bank_valid open_row
    row_in Closed e = (bounds cx.settings v).rows-least
    row_in (Open r) e = ltb-true _ _ e
    row_in Refresh e = (bounds cx.settings v).rows-least

    found_in : (x : ℕ) → x < 32 → open_row (state_of m.channel x) < cx.settings.rows
    unfolding bank_count
    found_in x l = row_in (state_of m.channel x) (k.rows_in x l)

    retire-in : (b : Bool) (mask : ℕ) → mask < 2 ^ 16 → (o : Option Write) → o ≡ only_write b (first (waiting_of m.channel.buffer))
        → ((w : Write) → o ≡ Some w → held ≡ state_of m.channel w.bank) → TouchIn cx (retire_touch o held mask)
    unfolding retire_touch TouchIn PlaceIn write_valid bank_count
    retire-in b mask l None q f = tt
    retire-in b mask l (Some w) q f =
        let e = left-fits (write_valid cx) (waiting_of m.channel.buffer) b w k.write (sym q) in
        let bank = ltb-true w.bank 32 (and_left (ltb w.bank 32) _ e) in
        let column = ltb-true _ _ (and_left (ltb w.column cx.settings.columns) _ (and_right (ltb w.bank 32) _ e)) in
        ((bank, rw (f w refl) (found_in w.bank bank), column), l)

    fits-bank : (b c x : ℕ) → (ltb b 32 && (ltb c cx.settings.columns && ltb x (2 ^ 16))) ≡ true → (b < 32) × (c < cx.settings.columns) × (x < 2 ^ 16)
    fits-bank b c x e =
        let q = and_right (ltb b 32) _ e in
        (ltb-true _ _ (and_left (ltb b 32) _ e), ltb-true _ _ (and_left (ltb c cx.settings.columns) _ q), ltb-true _ _ (and_right (ltb c cx.settings.columns) _ q))

    pub touch-in : (r : Record) → finds r → record_fits cx.settings r ≡ true → TouchIn cx (touched r)
    unfolding record_fits col_fits touch_of col_touch TouchIn PlaceIn leaving traits col_traits instant
    touch-in (RowAt t p) f e = tt
    touch-in (DataOf t d) f e = tt
    touch-in (ColAt t (Nocop x)) f e = retire-in (passed cx (first (waiting_of m.channel.buffer)) t.0) x (ltb-true _ _ e) _ refl f.retired
    touch-in (ColAt t (Wr b c x close)) f e = retire-in (passed cx (first (waiting_of m.channel.buffer)) t.0) x (fits-bank b c x e).2 _ refl f.retired
    touch-in (ColAt t (Rd b c x close)) f e = let p = fits-bank b c x e in (p.0, rw (f.read b refl) (found_in b p.0), p.1)

-- a refused record leaves the store
pub refused-store : (cx : Context) (t : Touch) (d : Dualoct) (store : List ℕ) (room : ℕ) → is_taken (touch_answer t room) ≡ false → touch_store cx t d store ≡ store
unfolding touch_answer touch_store is_taken
refused-store cx Nothing d store room e = refl
refused-store cx (Reads p) d store room e = refl
refused-store cx (Retires p mask) d store room e = absurd (let z : ◌≡◌ {A = ℕ} 0 1 = cc in omega arith)
