-- What is stored for NOCOP, WR and data is the state after them: the writes that wait move up, and one may join.
-- Assumes nothing.
use Rattle.std.specs.Prelude.{Option, None, Some}
use Prim.Native.Nat.{ℕ, ◌+◌, ◌*◌, ◌-◌, ◌<◌}
use mathlib.Core.Path.{◌≡◌, refl, sym, ap, ◌∙◌}
use mathlib.Core.Bool.{Bool, true, false}
use mathlib.Core.List.{List, ◌++◌, append_assoc}
use native.Mathlib.Omega.{arith}
use lib.Dec.{eqb}
use lib.ListN.{length, length-append}
use Rattle.num.specs.Bytes.{bytes, number, part, splice}
use Rattle.num.proofs.ByteLaws.{length-bytes}
use Rattle.num.proofs.PartLaws.{part_left, part_right, part-all, bytes-part, Bytes-bytes}
use Rattle.packet.specs.declared.ColPacket.{ColPacket}
use Rattle.packet.specs.declared.ColPacket.TheVariants.{Nocop, Wr}
use Rattle.record.specs.declared.Record.{Record}
use Rattle.record.specs.declared.Record.TheVariants.{ColAt}
use Rattle.spec_rules.specs.declared.BankTrack.{BankTrack}
use Rattle.spec_rules.specs.declared.Write.{Write}
use Rattle.spec_rules.specs.declared.Buffer.{Buffer}
use Rattle.spec_rules.specs.declared.Buffer.TheVariants.{Empty, One, Two}
use Rattle.spec_rules.specs.declared.Channel.{Channel}
use Rattle.spec_rules.specs.Neighbour.{Context}
use Rattle.spec_rules.specs.Packets.{traits, col_traits, instant}
use Rattle.spec_rules.specs.History.{rest, loads, retire_implies}
use Rattle.spec_rules.specs.Channel.{idle, track_of, waiting_of, buffer_of, bank_next, track_next, after_packet, track_retired, after_retire, after_implied, after_data, leaving_of, after}
use Rattle.spec_rules.proofs.ListLaws.{length-imap, get_or-imap}
use Rattle.spec_rules.proofs.TrackLaws.{buffer-waiting}
use Rattle.spec_rules.proofs.LeavingLaws.{leaving-none}
use Rattle.spec_state.specs.ChannelBytes.{bank_tag, plane, channel_bytes}
use Rattle.spec_state.specs.Form.Layout.{Numbers, layout, figure_of, last_of_channel, count_word, count_number, write_word, write_number, second_number, at_count, at_write, at_second, at_figure, numbers_of}
use Rattle.spec_state.specs.Form.Stores.{col_stored, retire_stored, second_in, empty_stored, shift_stored, write_stored, beside_stored, behind_stored, data_stored}
use Rattle.spec_state.proofs.PlaneLaws.{length-plane}
use Rattle.spec_state.proofs.LayoutLaws.{put-retire, put_count, put-write, put_second, layout-ext}
use Rattle.spec_state.proofs.StoreLaws.{WriteIn, by-numbers, next_numbers, track-next, next-bytes, pick, on, col-stored}

-- ---- the newer write, read off the bytes

second-part : (n : Numbers) → part (layout n) 744 8 ≡ bytes 8 n.second
unfolding layout
second-part n =
    let p : ℕ → List ℕ = λ k. plane 4 (n.figure k) 32 in
    let xs : List ℕ =
    p 0 ++ (p 1 ++ (p 2 ++ (p 3 ++ (p 4 ++ (plane 2 n.tag 32
    ++ (bytes 4 (n.last 0) ++ (bytes 4 (n.last 1) ++ (bytes 4 (n.last 2) ++ (bytes 4 (n.last 3) ++ (bytes 4 (n.last 4) ++ (bytes 4 (n.last 5) ++ (bytes 8 n.count ++ bytes 8 n.write))))))))))))
    in
    let k : length xs ≡ 744 = simp (length-append, length-plane, length-bytes) in
    let join : layout n ≡ xs ++ (bytes 8 n.second ++ n.tail) = simp append_assoc in
    ap (λ (b : List ℕ). part b 744 8) join
    ∙ part_right xs (bytes 8 n.second ++ n.tail) 744 0 8 k
    ∙ part_left (bytes 8 n.second) n.tail 0 8 (omega (arith, length-bytes 8 n.second))
    ∙ part-all (bytes 8 n.second) 8 (omega (arith, length-bytes 8 n.second))

second-bytes : (n : Numbers) {b : List ℕ} → b ≡ layout n → bytes 8 (second_in b) ≡ bytes 8 n.second
second-bytes n e =
    let s : List ℕ = bytes 8 n.second in
    let k : length s ≡ 8 = length-bytes 8 n.second in
    ap (λ (b : List ℕ). bytes 8 (number (part b 744 8))) e
    ∙ ap (λ (b : List ℕ). bytes 8 (number b)) (second-part n)
    ∙ ap (λ (b : List ℕ). bytes 8 (number b)) (sym (part-all s 8 (omega arith)))
    ∙ bytes-part s 0 8 (Bytes-bytes 8 n.second) (omega arith)
    ∙ part-all s 8 (omega arith)

-- ---- the stores, by numbers

module _ (n : Numbers) {b : List ℕ} (e : b ≡ layout n) where
  empty-numbers : empty_stored b ≡ layout (at_write 0 (at_count 0 n))
  unfolding empty_stored
  empty-numbers = on 736 (bytes 8 0) (on 728 (bytes 8 0) e (put_count _ 0)) (put-write _ 0)

  up : (count : ℕ) → splice (splice b 728 (bytes 8 count)) 736 (bytes 8 (second_in b)) ≡ layout (at_write n.second (at_count count n))
  up count =
      ap (λ (v : List ℕ). splice (splice b 728 (bytes 8 count)) 736 v) (second-bytes n e)
      ∙ on 736 (bytes 8 n.second) (on 728 (bytes 8 count) e (put_count _ count)) (put-write _ n.second)

  shift-numbers : (count : ℕ) → shift_stored b count ≡ layout (at_second 0 (at_write n.second (at_count count n)))
  unfolding shift_stored
  shift-numbers count = on 744 (bytes 8 0) (up count) (put_second _ 0)

  module _ (count x c : ℕ) (close : Bool) (v : ℕ) where
    write-numbers : write_stored b count x c close v ≡ layout (at_write (write_word x c close v) (at_count count n))
    unfolding write_stored
    write-numbers = on 736 (bytes 8 (write_word x c close v)) (on 728 (bytes 8 count) e (put_count _ count)) (put-write _ (write_word x c close v))

    beside-numbers : beside_stored b count x c close v ≡ layout (at_second (write_word x c close v) (at_count count n))
    unfolding beside_stored
    beside-numbers = on 744 (bytes 8 (write_word x c close v)) (on 728 (bytes 8 count) e (put_count _ count)) (put_second _ (write_word x c close v))

    behind-numbers : behind_stored b count x c close v ≡ layout (at_second (write_word x c close v) (at_write n.second (at_count count n)))
    unfolding behind_stored
    behind-numbers = on 744 (bytes 8 (write_word x c close v)) (up count) (put_second _ (write_word x c close v))

-- a write that takes the place of one that left, in one store less
pub write-over : (n : Numbers) {b : List ℕ} (count x c : ℕ) (close : Bool) (v : ℕ) → b ≡ layout n → write_stored b count x c close v ≡ write_stored (empty_stored b) count x c close v
write-over n count x c close v e = write-numbers n e count x c close v ∙ sym (write-numbers _ (empty-numbers n e) count x c close v)

pub behind-over : (n : Numbers) {b : List ℕ} (count left x c : ℕ) (close : Bool) (v : ℕ) → b ≡ layout n → behind_stored b count x c close v ≡ beside_stored (shift_stored b left) count x c close v
behind-over n count left x c close v e = behind-numbers n e count x c close v ∙ sym (beside-numbers _ (shift-numbers n e left) count x c close v)

-- ---- a retire

-- what waits behind the older write
rest-write : (b : Buffer) → write_number (buffer_of (rest (waiting_of b))) ≡ second_number b
unfolding write_number second_number buffer_of waiting_of
rest-write Empty = refl
rest-write (One x) = refl
rest-write (Two x y) = refl

rest-second : (b : Buffer) → second_number (buffer_of (rest (waiting_of b))) ≡ 0
unfolding second_number buffer_of waiting_of
rest-second Empty = refl
rest-second (One x) = refl
rest-second (Two x y) = refl

rest-count : (b : Buffer) → count_number (buffer_of (rest (waiting_of b))) false ≡ length (rest (waiting_of b))
unfolding count_number buffer_of waiting_of
rest-count Empty = refl
rest-count (One x) = refl
rest-count (Two x y) = refl

pub rest_in_lem : (b : Buffer) → WriteIn b → WriteIn (buffer_of (rest (waiting_of b)))
unfolding buffer_of waiting_of
rest_in_lem Empty i = tt
rest_in_lem (One x) i = tt
rest_in_lem (Two x y) i = i.1

module _ (ch : Channel) (q : List ℕ) (e : length ch.banks ≡ 32) (i : WriteIn ch.buffer) (d : ch.due ≡ false) (w : Write) (t : ℕ) (l : w.bank < 32) where
  abbrev gone : Channel
  gone = after_retire t (Some w) ch

  retired-track : (i : ℕ) → i < 32 → track_of gone i ≡ track_retired t w i (track_of ch i)
  unfolding after_retire
  retired-track i m = get_or-imap (track_retired t w) ch.banks i idle idle (omega arith)

  retire-numbers : retire_stored (channel_bytes ch ++ q) w.bank (t - 3) ≡ layout (at_figure 4 w.bank (t - 3) (numbers_of ch q))
  unfolding retire_stored
  retire-numbers = on (512 + 4 * w.bank) (bytes 4 (t - 3)) (by-numbers ch q i) (put-retire _ (t - 3) w.bank l)

  pub gone-size : length gone.banks ≡ 32
  unfolding after_retire
  gone-size = length-imap _ 0 ch.banks ∙ e

  pub gone-due : gone.due ≡ false
  unfolding after_retire
  gone-due = d

  pub gone-in : WriteIn gone.buffer
  unfolding after_retire
  gone-in = rest_in_lem ch.buffer i

  -- the older write leaves, and the one behind it moves up
  pub shift-stored : shift_stored (retire_stored (channel_bytes ch ++ q) w.bank (t - 3)) (length (rest (waiting_of ch.buffer))) ≡ channel_bytes gone ++ q
  unfolding numbers_of after_retire track_retired figure_of last_of_channel
  shift-stored =
      shift-numbers _ retire-numbers (length (rest (waiting_of ch.buffer)))
      ∙ layout-ext _ (numbers_of gone q)
      (λ i m. sym (ap (λ (k : BankTrack). k.opened.0 - 3) (retired-track i m)))
      (λ i m. sym (ap (λ (k : BankTrack). k.act.0 - 3) (retired-track i m)))
      (λ i m. sym (ap (λ (k : BankTrack). k.pre.0 - 3) (retired-track i m)))
      (λ i m. sym (ap (λ (k : BankTrack). k.rd.0 - 3) (retired-track i m)))
      (λ i m. pick (eqb i w.bank) (record { 0 = t }) (track_of ch i).retire ∙ sym (ap (λ (k : BankTrack). k.retire.0 - 3) (retired-track i m)))
      (λ i m. sym (ap (λ (k : BankTrack). bank_tag k.bank) (retired-track i m)))
      refl refl refl refl refl refl
      (rw d (sym (rest-count ch.buffer))) (sym (rest-write ch.buffer)) (sym (rest-second ch.buffer)) refl
      ∙ sym (by-numbers gone q gone-in)

  -- the only one leaves
  pub retire-stored : ch.buffer ≡ One w → empty_stored (retire_stored (channel_bytes ch ++ q) w.bank (t - 3)) ≡ channel_bytes gone ++ q
  unfolding numbers_of write_number second_number waiting_of
  retire-stored z = empty-numbers _ retire-numbers ∙ sym (same z) ∙ shift-stored
    where
      same : ch.buffer ≡ One w → shift_stored (retire_stored (channel_bytes ch ++ q) w.bank (t - 3)) (length (rest (waiting_of ch.buffer)))
          ≡ layout (at_write 0 (at_count 0 (at_figure 4 w.bank (t - 3) (numbers_of ch q))))
      same z =
          shift-numbers _ retire-numbers (length (rest (waiting_of ch.buffer)))
          ∙ layout-ext _ (at_write 0 (at_count 0 (at_figure 4 w.bank (t - 3) (numbers_of ch q)))) (λ i m. refl) (λ i m. refl) (λ i m. refl) (λ i m. refl) (λ i m. refl) (λ i m. refl) refl refl refl refl refl refl
          (rw z) (rw z) (rw z) refl

-- ---- NOCOP and WR, once the write that they retire has left

-- the channel after a WR, and where its D has come with it
abbrev pub loaded_by : Bool → Channel → Channel
loaded_by true ch = ch
loaded_by false ch = after_data ch

module _ (cx : Context) (ch : Channel) (q : List ℕ) (e : length ch.banks ≡ 32) (i : WriteIn ch.buffer) (d : ch.due ≡ false) (t : ℕ) where
  pub nocop-stored : (m : ℕ) → col_stored (channel_bytes ch ++ q) (t - 3) ≡ channel_bytes (after_packet cx ch (ColAt (record { 0 = t }) (Nocop m))) ++ q
  unfolding after_packet track_next traits col_traits bank_next instant figure_of last_of_channel loads numbers_of
  nocop-stored m =
      let r : Record = ColAt (record { 0 = t }) (Nocop m) in
      let same : WriteIn (buffer_of (waiting_of ch.buffer)) = rw (buffer-waiting ch.buffer) i in
      col-stored _ (t - 3) (by-numbers ch q i)
      ∙ layout-ext _ (next_numbers cx ch r q) (λ i m. refl) (λ i m. refl) (λ i m. refl) (λ i m. refl) (λ i m. refl) (λ i m. refl) refl refl refl refl refl refl
      (rw (buffer-waiting ch.buffer, d)) (rw (buffer-waiting ch.buffer)) (rw (buffer-waiting ch.buffer)) refl
      ∙ sym (next-bytes cx ch r q e same)

  module _ (x c m : ℕ) (close : Bool) (l : x < 32) (k : c < 256) (due : Bool) where
    abbrev wr : Record
    wr = ColAt (record { 0 = t }) (Wr x c m close)

    abbrev new : Write
    new = record { bank = x; column = c; at = record { 0 = t }; close = close }

    -- the numbers after it
    abbrev then : Buffer → Numbers
    then b =
        record {
          figure = λ k y. figure_of (track_of ch y) k - 3;
          tag = λ y. bank_tag (track_of ch y).bank;
          last = λ j. last_of_channel (after_packet cx ch wr).lasts j - 3;
          count = count_number b due;
          write = write_number b;
          second = second_number b;
          tail = q;
        }

    track : (after : Channel) → after.banks ≡ (after_packet cx ch wr).banks → (y : ℕ) → y < 32 → track_of after y ≡ track_next cx ch wr y (track_of ch y)
    track after z y o = rw z (track-next cx ch wr q e y o)

    loaded-numbers : (b : Buffer) (after : Channel) → after.banks ≡ (after_packet cx ch wr).banks → after.lasts ≡ (after_packet cx ch wr).lasts → after.buffer ≡ b → after.due ≡ due
        → WriteIn b → channel_bytes after ++ q ≡ layout (then b)
    unfolding track_next traits col_traits bank_next figure_of numbers_of
    loaded-numbers b after banks lasts buffer is-due j =
        by-numbers after q (rw buffer j)
        ∙ layout-ext _ (then b)
        (λ y o. ap (λ (k : BankTrack). figure_of k 0 - 3) (track after banks y o))
        (λ y o. ap (λ (k : BankTrack). figure_of k 1 - 3) (track after banks y o))
        (λ y o. ap (λ (k : BankTrack). figure_of k 2 - 3) (track after banks y o))
        (λ y o. ap (λ (k : BankTrack). figure_of k 3 - 3) (track after banks y o))
        (λ y o. ap (λ (k : BankTrack). figure_of k 4 - 3) (track after banks y o))
        (λ y o. ap (λ (k : BankTrack). bank_tag k.bank) (track after banks y o))
        (rw lasts) (rw lasts) (rw lasts) (rw lasts) (rw lasts) (rw lasts) (rw (buffer, is-due)) (rw buffer) (rw buffer) refl

  module _ (x c m : ℕ) (close : Bool) (l : x < 32) (k : c < 256) where
    is-due : (after_packet cx ch (wr x c m close l k true)).due ≡ true
    unfolding after_packet traits col_traits
    is-due = refl

    loaded_bytes : (due : Bool) (b : Buffer) → (after_packet cx ch (wr x c m close l k due)).buffer ≡ b → WriteIn b
        → channel_bytes (loaded_by due (after_packet cx ch (wr x c m close l k due))) ++ q ≡ layout (then x c m close l k due b)
    unfolding after_data
    loaded_bytes true b z j = loaded-numbers x c m close l k true b (after_packet cx ch (wr x c m close l k true)) refl refl z is-due j
    loaded_bytes false b z j = loaded-numbers x c m close l k false b (after_data (after_packet cx ch (wr x c m close l k false))) refl refl z refl j

    module _ (due : Bool) where
      -- WR where none waits
      pub wr-stored : ch.buffer ≡ Empty
          → col_stored (write_stored (channel_bytes ch ++ q) (count_word 1 due) x c close (t - 3)) (t - 3) ≡ channel_bytes (loaded_by due (after_packet cx ch (ColAt (record { 0 = t }) (Wr x c m close)))) ++ q
      unfolding after_packet traits col_traits instant figure_of last_of_channel loads numbers_of buffer_of waiting_of count_number write_number second_number
      wr-stored z =
          col-stored _ (t - 3) (write-numbers _ (by-numbers ch q i) (count_word 1 due) x c close (t - 3))
          ∙ layout-ext _ (then x c m close l k due (One (new x c m close l k due))) (λ i m. refl) (λ i m. refl) (λ i m. refl) (λ i m. refl) (λ i m. refl) (λ i m. refl) refl refl refl refl refl refl
          refl refl (rw z) refl
          ∙ sym (loaded_bytes due (One (new x c m close l k due)) (rw z) (omega arith, k))

      -- WR beside one that waits
      pub beside-stored : (w : Write) → ch.buffer ≡ One w
          → col_stored (beside_stored (channel_bytes ch ++ q) (count_word 2 due) x c close (t - 3)) (t - 3) ≡ channel_bytes (loaded_by due (after_packet cx ch (ColAt (record { 0 = t }) (Wr x c m close)))) ++ q
      unfolding after_packet traits col_traits instant figure_of last_of_channel loads numbers_of buffer_of waiting_of count_number write_number second_number
      beside-stored w z =
          col-stored _ (t - 3) (beside-numbers _ (by-numbers ch q i) (count_word 2 due) x c close (t - 3))
          ∙ layout-ext _ (then x c m close l k due (Two w (new x c m close l k due))) (λ i m. refl) (λ i m. refl) (λ i m. refl) (λ i m. refl) (λ i m. refl) (λ i m. refl) refl refl refl refl refl refl
          refl (rw z) refl refl
          ∙ sym (loaded_bytes due (Two w (new x c m close l k due)) (rw z) (rw z at i, (omega arith, k)))

-- ---- the whole state after a COL packet that is no RD, by what leaves

pub after-left : (cx : Context) (ch : Channel) (t : ℕ) (p : ColPacket) (o : Option Write) →
    let r : Record = ColAt (record { 0 = t }) p in
    (col_traits p).implies ≡ None → leaving_of cx ch r ≡ o → after cx ch r ≡ after_packet cx (after_implied cx (t + cx.settings.offp) (retire_implies o) (after_retire t o ch)) r
unfolding after after_implied traits
after-left cx ch t p o n h =
    let r : Record = ColAt (record { 0 = t }) p in
    let u : ℕ = t + cx.settings.offp in
    let left : Option Write → Channel = λ o. after_packet cx (after_implied cx u (retire_implies o) (after_retire t o ch)) r in
    ap (λ (z : Option ℕ). after_implied cx u z (left (leaving_of cx ch r))) n ∙ ap left h

module _ (cx : Context) (ch : Channel) (q : List ℕ) (e : length ch.banks ≡ 32) (i : WriteIn ch.buffer) (d : ch.due ≡ false) (t : ℕ) where
  abbrev at : ColPacket → Record
  at p = ColAt (record { 0 = t }) p

  abbrev stored : List ℕ
  stored = channel_bytes ch ++ q

  -- where it is no WRA
  after-by : (p : ColPacket) (o : Option Write) → (col_traits p).implies ≡ None → retire_implies o ≡ None → leaving_of cx ch (at p) ≡ o
      → after cx ch (at p) ≡ after_packet cx (after_retire t o ch) (at p)
  unfolding after_implied
  after-by p o n k h = after-left cx ch t p o n h ∙ ap (λ (z : Option ℕ). after_packet cx (after_implied cx (t + cx.settings.offp) z (after_retire t o ch)) (at p)) k

  -- NOCOP that retires none
  pub nocop-stays : (m : ℕ) → leaving_of cx ch (at (Nocop m)) ≡ None → col_stored stored (t - 3) ≡ channel_bytes (after cx ch (at (Nocop m))) ++ q
  unfolding after_retire col_traits
  nocop-stays m h = rw (after-by (Nocop m) None refl refl h) (nocop-stored cx ch q e i d t m)

  module _ (x c m : ℕ) (close : Bool) (l : x < 32) (k : c < 256) (due : Bool) where
    -- WR where none waits, and beside one that stays
    pub wr-none : ch.buffer ≡ Empty → col_stored (write_stored stored (count_word 1 due) x c close (t - 3)) (t - 3) ≡ channel_bytes (loaded_by due (after cx ch (at (Wr x c m close)))) ++ q
    unfolding after_retire col_traits
    wr-none z = rw (after-by (Wr x c m close) None refl refl (leaving-none cx ch (at (Wr x c m close)) z)) (wr-stored cx ch q e i d t x c m close l k due z)

    pub wr-beside : (w : Write) → ch.buffer ≡ One w → leaving_of cx ch (at (Wr x c m close)) ≡ None
        → col_stored (beside_stored stored (count_word 2 due) x c close (t - 3)) (t - 3) ≡ channel_bytes (loaded_by due (after cx ch (at (Wr x c m close)))) ++ q
    unfolding after_retire col_traits
    wr-beside w z h = rw (after-by (Wr x c m close) None refl refl h) (beside-stored cx ch q e i d t x c m close l k due w z)

  -- where the older write w leaves, which is no WRA
  module _ (w : Write) (b : w.bank < 32) (f : w.close ≡ false) where
    plain : retire_implies (Some w) ≡ None
    plain = rw f

    abbrev retired : List ℕ
    retired = retire_stored stored w.bank (t - 3)

    abbrev left : Channel
    left = after_retire t (Some w) ch

    -- NOCOP, of one or two, and of one by a shorter store
    pub nocop-leaves : (m : ℕ) → leaving_of cx ch (at (Nocop m)) ≡ Some w
        → col_stored (shift_stored retired (length (rest (waiting_of ch.buffer)))) (t - 3) ≡ channel_bytes (after cx ch (at (Nocop m))) ++ q
    unfolding col_traits
    nocop-leaves m h =
        rw (after-by (Nocop m) (Some w) refl plain h)
        (ap (λ (b : List ℕ). col_stored b (t - 3)) (shift-stored ch q e i d w t b)
        ∙ nocop-stored cx left q (gone-size ch q e i d w t b) (gone-in ch q e i d w t b) (gone-due ch q e i d w t b) t m)

    pub nocop-leaves-one : (m : ℕ) → ch.buffer ≡ One w → leaving_of cx ch (at (Nocop m)) ≡ Some w
        → col_stored (empty_stored retired) (t - 3) ≡ channel_bytes (after cx ch (at (Nocop m))) ++ q
    unfolding col_traits
    nocop-leaves-one m z h =
        rw (after-by (Nocop m) (Some w) refl plain h)
        (ap (λ (b : List ℕ). col_stored b (t - 3)) (retire-stored ch q e i d w t b z)
        ∙ nocop-stored cx left q (gone-size ch q e i d w t b) (gone-in ch q e i d w t b) (gone-due ch q e i d w t b) t m)

    module _ (x c m : ℕ) (close : Bool) (l : x < 32) (k : c < 256) (due : Bool) where
      -- WR in its place
      pub wr-instead : ch.buffer ≡ One w → leaving_of cx ch (at (Wr x c m close)) ≡ Some w
          → col_stored (write_stored retired (count_word 1 due) x c close (t - 3)) (t - 3) ≡ channel_bytes (loaded_by due (after cx ch (at (Wr x c m close)))) ++ q
      unfolding after_retire col_traits buffer_of waiting_of
      wr-instead z h =
          rw (after-by (Wr x c m close) (Some w) refl plain h)
          (ap (λ (b : List ℕ). col_stored b (t - 3)) (write-over _ (count_word 1 due) x c close (t - 3) (retire-numbers ch q e i d w t b) ∙ ap (λ (b : List ℕ). write_stored b (count_word 1 due) x c close (t - 3)) (retire-stored ch q e i d w t b z))
          ∙ wr-stored cx left q (gone-size ch q e i d w t b) (gone-in ch q e i d w t b) (gone-due ch q e i d w t b) t x c m close l k due (rw z))

      -- WR behind the one that waited behind it
      pub wr-behind : (y : Write) → ch.buffer ≡ Two w y → leaving_of cx ch (at (Wr x c m close)) ≡ Some w
          → col_stored (behind_stored retired (count_word 2 due) x c close (t - 3)) (t - 3) ≡ channel_bytes (loaded_by due (after cx ch (at (Wr x c m close)))) ++ q
      unfolding after_retire col_traits buffer_of waiting_of
      wr-behind y z h =
          rw (after-by (Wr x c m close) (Some w) refl plain h)
          (ap (λ (b : List ℕ). col_stored b (t - 3)) (behind-over _ (count_word 2 due) (length (rest (waiting_of ch.buffer))) x c close (t - 3) (retire-numbers ch q e i d w t b) ∙ ap (λ (b : List ℕ). beside_stored b (count_word 2 due) x c close (t - 3)) (shift-stored ch q e i d w t b))
          ∙ beside-stored cx left q (gone-size ch q e i d w t b) (gone-in ch q e i d w t b) (gone-due ch q e i d w t b) t x c m close l k due y (rw z))

-- ---- data

waits-count : (b : Buffer) → count_number b false ≡ length (waiting_of b)
unfolding count_number waiting_of
waits-count Empty = refl
waits-count (One x) = refl
waits-count (Two x y) = refl

pub data-stored : (ch : Channel) (q : List ℕ) → WriteIn ch.buffer → data_stored (channel_bytes ch ++ q) (length (waiting_of ch.buffer)) ≡ channel_bytes (after_data ch) ++ q
unfolding data_stored after_data numbers_of
data-stored ch q i =
    let n : ℕ = length (waiting_of ch.buffer) in
    on 728 (bytes 8 n) (by-numbers ch q i) (put_count _ n)
    ∙ layout-ext _ (numbers_of (after_data ch) q) (λ i m. refl) (λ i m. refl) (λ i m. refl) (λ i m. refl) (λ i m. refl) (λ i m. refl) refl refl refl refl refl refl
    (sym (waits-count ch.buffer)) refl refl refl
    ∙ sym (by-numbers (after_data ch) q i)
