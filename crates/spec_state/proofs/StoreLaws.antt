-- What is stored for a packet is the state after it.
-- Assumes nothing.
use Rattle.std.specs.Prelude.{None, Some}
use Prim.Native.Nat.{ℕ, ◌+◌, ◌*◌, ◌-◌, ◌/◌, ◌%◌, ◌<◌}
use mathlib.Core.Path.{◌≡◌, refl, sym, ap, ◌∙◌}
use mathlib.Core.Bool.{Bool, true, false, cond, not, ◌||◌, ◌&&◌}
use mathlib.Core.List.{List, ◌++◌, append_assoc}
use native.Mathlib.Omega.{arith}
use lib.Dec.{eqb}
use lib.ListN.{length}
use Rattle.num.specs.Bytes.{bytes, splice, zeros}
use Rattle.settings.specs.declared.PacketAt.{PacketAt}
use Rattle.packet.specs.declared.RowPacket.{RowPacket}
use Rattle.packet.specs.declared.RowPacket.TheVariants.{Act, Prer, Refa, Refp}
use Rattle.packet.specs.declared.ColPacket.TheVariants.{Rd}
use Rattle.record.specs.declared.Record.{Record}
use Rattle.record.specs.declared.Record.TheVariants.{RowAt, ColAt}
use Rattle.spec_rules.specs.declared.Bank.{Bank}
use Rattle.spec_rules.specs.declared.Bank.TheVariants.{Closed, Open, Refresh}
use Rattle.spec_rules.specs.declared.BankTrack.{BankTrack}
use Rattle.spec_rules.specs.declared.Write.{Write}
use Rattle.spec_rules.specs.declared.Buffer.{Buffer}
use Rattle.spec_rules.specs.declared.Buffer.TheVariants.{Empty, One, Two}
use Rattle.spec_rules.specs.declared.Channel.{Channel}
use Rattle.spec_rules.specs.Neighbour.{bank_count, Context, near}
use Rattle.spec_rules.specs.Packets.{traits, row_traits, col_traits, instant}
use Rattle.spec_rules.specs.History.{bank_by, is_closed, leaving, loads}
use Rattle.spec_rules.specs.Channel.{idle, track_of, state_of, waiting_of, buffer_of, bank_next, track_next, after_packet, after_retire, after_implied, after}
use Rattle.spec_rules.proofs.Bools.{not-both}
use Rattle.spec_rules.proofs.ListLaws.{get_or-imap}
use Rattle.spec_rules.proofs.TrackLaws.{buffer-waiting}
use Rattle.spec_state.specs.ChannelBytes.{bank_tag, banks_bytes, lasts_bytes, count_bytes, write_bytes, buffer_bytes, channel_bytes}
use Rattle.spec_state.specs.Form.Layout.{Numbers, layout, figure_of, last_of_channel, count_word, count_number, write_word, word_of, write_number, second_number, at_last, numbers_of}
use Rattle.spec_state.specs.Form.Stores.{row_stored, col_stored, act_stored, refa_stored, close_stored, rd_stored}
use Rattle.spec_state.proofs.RoundTrip.{bytes-zero}
use Rattle.spec_state.proofs.LayoutLaws.{put-opened, put-act, put-pre, put-rd, put-tag, put-704, put-708, put-712, put-716, put-720, layout-ext}

-- ---- the bytes of a state by its numbers

-- eight bytes as one number
pub count_word_lem : (n d : ℕ) → n < 256 → d < 256 → bytes 8 (n + 256 * d) ≡ bytes 1 n ++ (bytes 1 d ++ zeros 6)
unfolding bytes
count_word_lem n d l m =
    let a : (n + 256 * d) % 256 ≡ n % 256 = omega arith in
    let b : (n + 256 * d) / 256 ≡ d = omega arith in
    let c : d / 256 ≡ 0 = omega arith in
    rw (a, b, c)

pub below : (due : Bool) → cond due 1 0 < 256
below true = omega arith
below false = omega arith

close-word : (x c k v : ℕ) → x < 256 → c < 256 → k < 65536 → bytes 8 (x + 256 * c + 65536 * k + 4294967296 * v) ≡ bytes 1 x ++ (bytes 1 c ++ (bytes 2 k ++ bytes 4 v))
unfolding bytes
close-word x c k v l m n =
    let a : (x + 256 * c + 65536 * k + 4294967296 * v) % 256 ≡ x % 256 = omega arith in
    let b : (x + 256 * c + 65536 * k + 4294967296 * v) / 256 ≡ c + 256 * k + 16777216 * v = omega arith in
    let d : (c + 256 * k + 16777216 * v) % 256 ≡ c % 256 = omega arith in
    let e : (c + 256 * k + 16777216 * v) / 256 ≡ k + 65536 * v = omega arith in
    let f : (k + 65536 * v) % 256 ≡ k % 256 = omega arith in
    let g : (k + 65536 * v) / 256 ≡ k / 256 + 256 * v = omega arith in
    let h : (k / 256 + 256 * v) % 256 ≡ k / 256 % 256 = omega arith in
    let i : (k / 256 + 256 * v) / 256 ≡ v = omega arith in
    rw (a, b, d, e, f, g, h, i)

pub write_word_lem : (x c : ℕ) (close : Bool) (v : ℕ) → x < 256 → c < 256 → bytes 8 (write_word x c close v) ≡ bytes 1 x ++ (bytes 1 c ++ (bytes 2 (cond close 1 0) ++ bytes 4 v))
write_word_lem x c close v l m = close-word x c (cond close 1 0) v l m (omega (arith, below close))

-- waiting writes whose banks and columns are bytes
abbrev pub ByBytes : Write → Type 0
ByBytes w = (w.bank < 256) × (w.column < 256)

abbrev pub WriteIn : Buffer → Type 0
WriteIn Empty = Unit {0}
WriteIn (One x) = ByBytes x
WriteIn (Two x y) = (ByBytes x) × (ByBytes y)

write-numbers : (w : Write) → ByBytes w → write_bytes w ≡ bytes 8 (word_of w)
unfolding write_bytes
write-numbers w i = sym (write_word_lem w.bank w.column w.close (w.at.0 - 3) i.0 i.1)

count-numbers : (n : ℕ) (due : Bool) → n < 256 → count_bytes n due ≡ bytes 8 (count_word n due)
unfolding count_bytes
count-numbers n due l = sym (count_word_lem n (cond due 1 0) l (below due))

buffer-numbers : (buffer : Buffer) (due : Bool) → WriteIn buffer
    → buffer_bytes buffer due ≡ bytes 8 (count_number buffer due) ++ (bytes 8 (write_number buffer) ++ bytes 8 (second_number buffer))
unfolding buffer_bytes count_number write_number second_number
buffer-numbers Empty due i = rw (count-numbers 0 due (omega arith), bytes-zero 8) refl
buffer-numbers (One x) due i = rw (count-numbers 1 due (omega arith), write-numbers x i, bytes-zero 8) refl
buffer-numbers (Two x y) due i = rw (count-numbers 2 due (omega arith), write-numbers x i.0, write-numbers y i.1) refl

pub by-numbers : (ch : Channel) (q : List ℕ) → WriteIn ch.buffer → channel_bytes ch ++ q ≡ layout (numbers_of ch q)
unfolding channel_bytes banks_bytes lasts_bytes bank_count layout numbers_of figure_of last_of_channel
by-numbers ch q i = rw (buffer-numbers ch.buffer ch.due i) (simp append_assoc)

-- ---- the state after a packet, by its tracks: one law for all commands

module _ (cx : Context) (ch : Channel) (r : Record) (q : List ℕ) where
  -- the numbers after a packet, once the write that it retires has left
  abbrev pub next_numbers : Numbers
  next_numbers =
      record {
        figure = λ k x. figure_of (track_next cx ch r x (track_of ch x)) k - 3;
        tag = λ x. bank_tag (track_next cx ch r x (track_of ch x)).bank;
        last = λ i. last_of_channel (after_packet cx ch r).lasts i - 3;
        count = count_number (after_packet cx ch r).buffer (after_packet cx ch r).due;
        write = write_number (after_packet cx ch r).buffer;
        second = second_number (after_packet cx ch r).buffer;
        tail = q;
      }

  pub track-next : length ch.banks ≡ 32 → (i : ℕ) → i < 32 → track_of (after_packet cx ch r) i ≡ track_next cx ch r i (track_of ch i)
  unfolding after_packet
  track-next e i m = get_or-imap (track_next cx ch r) ch.banks i idle idle (omega arith)

  pub next-bytes : length ch.banks ≡ 32 → WriteIn (after_packet cx ch r).buffer → channel_bytes (after_packet cx ch r) ++ q ≡ layout next_numbers
  unfolding numbers_of
  next-bytes e i =
      by-numbers (after_packet cx ch r) q i
      ∙ layout-ext _ next_numbers
      (λ i m. ap (λ (k : BankTrack). figure_of k 0 - 3) (track-next e i m))
      (λ i m. ap (λ (k : BankTrack). figure_of k 1 - 3) (track-next e i m))
      (λ i m. ap (λ (k : BankTrack). figure_of k 2 - 3) (track-next e i m))
      (λ i m. ap (λ (k : BankTrack). figure_of k 3 - 3) (track-next e i m))
      (λ i m. ap (λ (k : BankTrack). figure_of k 4 - 3) (track-next e i m))
      (λ i m. ap (λ (k : BankTrack). bank_tag k.bank) (track-next e i m))
      refl refl refl refl refl refl refl refl refl refl

-- a number that a test picks
pub pick : (q : Bool) (t u : PacketAt) → cond q (t.0 - 3) (u.0 - 3) ≡ (cond q t u).0 - 3
pick true t u = refl
pick false t u = refl

tag-pick : (q : Bool) (b k : Bank) → cond q (bank_tag b) (bank_tag k) ≡ bank_tag (cond q b k)
tag-pick true b k = refl
tag-pick false b k = refl

-- one store after others
pub on : (at : ℕ) (vs : List ℕ) {b c d : List ℕ} → b ≡ c → splice c at vs ≡ d → splice b at vs ≡ d
on at vs e h = ap (λ (b : List ℕ). splice b at vs) e ∙ h

pub row-stored : (n : Numbers) (v : ℕ) {b : List ℕ} → b ≡ layout n → row_stored b v ≡ layout (at_last 1 v (at_last 0 v n))
unfolding row_stored
row-stored n v e = on 708 (bytes 4 v) (on 704 (bytes 4 v) e (put-704 n v)) (put-708 _ v)

pub col-stored : (n : Numbers) (v : ℕ) {b : List ℕ} → b ≡ layout n → col_stored b v ≡ layout (at_last 2 v (at_last 0 v n))
unfolding col_stored
col-stored n v e = on 712 (bytes 4 v) (on 704 (bytes 4 v) e (put-704 n v)) (put-712 _ v)

-- ---- a PRER to a bank whose neighbours are closed: what it closes is its bank alone

module _ (cx : Context) (ch : Channel) (x : ℕ) where
  abbrev pub SidesClosed : Type 0
  SidesClosed = (y : ℕ) → y < 32 → near cx x y ≡ true → eqb y x ≡ false → state_of ch y ≡ Closed

  -- since of two neighbours one is closed, those of a bank that is not closed are
  pub sides-closed : ((y : ℕ) → y < 32 → cx.nbr x y ≡ true → is_closed (state_of ch x) || is_closed (state_of ch y) ≡ true) → is_closed (state_of ch x) ≡ false → SidesClosed
  unfolding is_closed
  sides-closed one o y m n e = is-closed (state_of ch y) (rw o at (one y m (rw e at n)))
    where
      is-closed : (k : Bank) → is_closed k ≡ true → k ≡ Closed
      is-closed Closed h = refl
      is-closed (Open r) h = not-both true refl (sym h)
      is-closed Refresh h = not-both true refl (sym h)

  pub only-own : SidesClosed → (y : ℕ) → y < 32 → (eqb y x || (near cx x y && not (is_closed (state_of ch y)))) ≡ eqb y x
  unfolding is_closed
  only-own shut y m = go (eqb y x) refl (near cx x y) refl
    where
      go : (a : Bool) → eqb y x ≡ a → (b : Bool) → near cx x y ≡ b → (a || (b && not (is_closed (state_of ch y)))) ≡ a
      go true u b w = refl
      go false u false w = refl
      go false u true w = rw (shut y m w u)

  pub tag-own : SidesClosed → (y : ℕ) → y < 32 → cond (eqb y x) 0 (bank_tag (state_of ch y)) ≡ bank_tag (cond (near cx x y) Closed (state_of ch y))
  unfolding bank_tag
  tag-own shut y m = go (eqb y x) refl (cx.nbr x y) refl
    where
      go : (a : Bool) → eqb y x ≡ a → (b : Bool) → cx.nbr x y ≡ b → cond a 0 (bank_tag (state_of ch y)) ≡ bank_tag (cond (a || b) Closed (state_of ch y))
      go true u b w = refl
      go false u true w = rw (shut y m (rw (u, w)) u)
      go false u false w = refl

-- ---- an RD retires no write; an RDA implies a PRER to its bank

pub after_read : (cx : Context) (ch : Channel) (t x c m : ℕ) (close : Bool) →
    let r : Record = ColAt (record { 0 = t }) (Rd x c m close) in
    after cx ch r ≡ after_implied cx (t + cx.settings.offp) (cond close (Some x) None) (after_packet cx ch r)
unfolding after leaving after_retire after_implied traits col_traits
after_read cx ch t x c m close = refl

-- ---- ROW packets, where no data are due

module _ (cx : Context) (ch : Channel) (q : List ℕ) (e : length ch.banks ≡ 32) (i : WriteIn ch.buffer) (d : ch.due ≡ false) (x t : ℕ) (l : x < 32) where
  abbrev row-record : RowPacket → Record
  row-record p = RowAt (record { 0 = t }) p

  same_write : WriteIn (buffer_of (waiting_of ch.buffer))
  same_write = rw (buffer-waiting ch.buffer) i

  pub act-stored : (row : ℕ) → act_stored (channel_bytes ch ++ q) x row (t - 3) ≡ channel_bytes (after cx ch (row-record (Act x row))) ++ q
  unfolding act_stored after after_packet track_next traits row_traits bank_next bank_by bank_tag instant figure_of last_of_channel loads numbers_of
  act-stored row =
      let v : List ℕ = bytes 4 (t - 3) in
      row-stored _ (t - 3) (on (640 + 2 * x) (bytes 2 (row + 1)) (on (128 + 4 * x) v (on (4 * x) v (by-numbers ch q i) (put-opened _ (t - 3) x l)) (put-act _ (t - 3) x l)) (put-tag _ (row + 1) x l))
      ∙ layout-ext _ (next_numbers cx ch (row-record (Act x row)) q)
      (λ i m. pick (eqb i x) (record { 0 = t }) (track_of ch i).opened)
      (λ i m. pick (eqb i x) (record { 0 = t }) (track_of ch i).act)
      (λ i m. refl) (λ i m. refl) (λ i m. refl) (λ i m. tag-pick (eqb i x) (Open row) (track_of ch i).bank) refl refl refl refl refl refl
      (rw (buffer-waiting ch.buffer, d)) (rw (buffer-waiting ch.buffer)) (rw (buffer-waiting ch.buffer)) refl
      ∙ sym (next-bytes cx ch (row-record (Act x row)) q e same_write)

  pub refa-stored : refa_stored (channel_bytes ch ++ q) x (t - 3) ≡ channel_bytes (after cx ch (row-record (Refa x))) ++ q
  unfolding refa_stored after after_packet track_next traits row_traits bank_next bank_by bank_tag instant figure_of last_of_channel loads numbers_of
  refa-stored =
      let v : List ℕ = bytes 4 (t - 3) in
      row-stored _ (t - 3) (on (640 + 2 * x) (bytes 2 0xFFFF) (on (4 * x) v (by-numbers ch q i) (put-opened _ (t - 3) x l)) (put-tag _ 0xFFFF x l))
      ∙ layout-ext _ (next_numbers cx ch (row-record (Refa x)) q)
      (λ i m. pick (eqb i x) (record { 0 = t }) (track_of ch i).opened)
      (λ i m. refl) (λ i m. refl) (λ i m. refl) (λ i m. refl) (λ i m. tag-pick (eqb i x) Refresh (track_of ch i).bank) refl refl refl refl refl refl
      (rw (buffer-waiting ch.buffer, d)) (rw (buffer-waiting ch.buffer)) (rw (buffer-waiting ch.buffer)) refl
      ∙ sym (next-bytes cx ch (row-record (Refa x)) q e same_write)

  pub prer-stored : SidesClosed cx ch x → close_stored (channel_bytes ch ++ q) x (t - 3) ≡ channel_bytes (after cx ch (row-record (Prer x))) ++ q
  unfolding close_stored after after_packet track_next traits row_traits bank_next bank_by instant figure_of last_of_channel loads numbers_of
  prer-stored shut =
      let v : List ℕ = bytes 4 (t - 3) in
      row-stored _ (t - 3) (on 716 v (on (640 + 2 * x) (bytes 2 0) (on (256 + 4 * x) v (by-numbers ch q i) (put-pre _ (t - 3) x l)) (put-tag _ 0 x l)) (put-716 _ (t - 3)))
      ∙ layout-ext _ (next_numbers cx ch (row-record (Prer x)) q) (λ i m. refl) (λ i m. refl)
      (λ i m. rw (only-own cx ch x shut i m) (pick (eqb i x) (record { 0 = t }) (track_of ch i).pre))
      (λ i m. refl) (λ i m. refl) (tag-own cx ch x shut) refl refl refl refl refl refl
      (rw (buffer-waiting ch.buffer, d)) (rw (buffer-waiting ch.buffer)) (rw (buffer-waiting ch.buffer)) refl
      ∙ sym (next-bytes cx ch (row-record (Prer x)) q e same_write)

  pub refp-stored : SidesClosed cx ch x → close_stored (channel_bytes ch ++ q) x (t - 3) ≡ channel_bytes (after cx ch (row-record (Refp x))) ++ q
  unfolding close_stored after after_packet track_next traits row_traits bank_next bank_by instant figure_of last_of_channel loads numbers_of
  refp-stored shut =
      let v : List ℕ = bytes 4 (t - 3) in
      row-stored _ (t - 3) (on 716 v (on (640 + 2 * x) (bytes 2 0) (on (256 + 4 * x) v (by-numbers ch q i) (put-pre _ (t - 3) x l)) (put-tag _ 0 x l)) (put-716 _ (t - 3)))
      ∙ layout-ext _ (next_numbers cx ch (row-record (Refp x)) q) (λ i m. refl) (λ i m. refl)
      (λ i m. rw (only-own cx ch x shut i m) (pick (eqb i x) (record { 0 = t }) (track_of ch i).pre))
      (λ i m. refl) (λ i m. refl) (tag-own cx ch x shut) refl refl refl refl refl refl
      (rw (buffer-waiting ch.buffer, d)) (rw (buffer-waiting ch.buffer)) (rw (buffer-waiting ch.buffer)) refl
      ∙ sym (next-bytes cx ch (row-record (Refp x)) q e same_write)

  -- RD itself: of an RDA the implied PRER is still to come
  pub read-stored : (c m : ℕ) (close : Bool) → rd_stored (channel_bytes ch ++ q) x (t - 3) ≡ channel_bytes (after_packet cx ch (ColAt (record { 0 = t }) (Rd x c m close))) ++ q
  unfolding rd_stored after_packet track_next traits col_traits bank_next instant figure_of last_of_channel loads numbers_of
  read-stored c m close =
      let v : List ℕ = bytes 4 (t - 3) in
      let r : Record = ColAt (record { 0 = t }) (Rd x c m close) in
      col-stored _ (t - 3) (on 720 v (on (384 + 4 * x) v (by-numbers ch q i) (put-rd _ (t - 3) x l)) (put-720 _ (t - 3)))
      ∙ layout-ext _ (next_numbers cx ch r q) (λ i m. refl) (λ i m. refl) (λ i m. refl)
      (λ i m. pick (eqb i x) (record { 0 = t }) (track_of ch i).rd)
      (λ i m. refl) (λ i m. refl) refl refl refl refl refl refl
      (rw (buffer-waiting ch.buffer, d)) (rw (buffer-waiting ch.buffer)) (rw (buffer-waiting ch.buffer)) refl
      ∙ sym (next-bytes cx ch r q e same_write)

  pub rd-stored : (c m : ℕ) → rd_stored (channel_bytes ch ++ q) x (t - 3) ≡ channel_bytes (after cx ch (ColAt (record { 0 = t }) (Rd x c m false))) ++ q
  unfolding after_implied
  rd-stored c m = rw (after_read cx ch t x c m false) (read-stored c m false)
