-- What is stored for an implied PRER is the state after it; so of an RDA, and of a COL packet that retires a WRA.
-- Assumes nothing.
use Rattle.std.specs.Prelude.{Option, None, Some}
use Prim.Native.Nat.{ℕ, ◌+◌, ◌*◌, ◌-◌, ◌^◌, ◌<◌}
use mathlib.Core.Path.{◌≡◌, refl, sym, ap, ◌∙◌}
use mathlib.Core.Bool.{Bool, true, false, ◌||◌}
use mathlib.Core.List.{List, ◌++◌}
use native.Mathlib.Omega.{arith}
use lib.Dec.{eqb}
use lib.ListN.{length}
use Rattle.num.specs.Bytes.{bytes}
use Rattle.packet.specs.declared.ColPacket.{ColPacket}
use Rattle.packet.specs.declared.ColPacket.TheVariants.{Nocop, Wr, Rd}
use Rattle.record.specs.declared.Record.{Record}
use Rattle.record.specs.declared.Record.TheVariants.{ColAt}
use Rattle.spec_rules.specs.declared.BankTrack.{BankTrack}
use Rattle.spec_rules.specs.declared.Write.{Write}
use Rattle.spec_rules.specs.declared.Buffer.TheVariants.{Empty, One, Two}
use Rattle.spec_rules.specs.declared.Channel.{Channel}
use Rattle.spec_rules.specs.Neighbour.{bank_count, Context, near}
use Rattle.spec_rules.specs.Packets.{col_traits}
use Rattle.spec_rules.specs.History.{rest, loads, retire_implies}
use Rattle.spec_rules.specs.Channel.{idle, track_of, state_of, waiting_of, buffer_of, bank_next, after_packet, after_retire, track_implied, after_implied, leaving_of, after}
use Rattle.spec_rules.proofs.ListLaws.{length-imap, get_or-imap}
use Rattle.spec_rules.proofs.TrackLaws.{buffer-waiting}
use Rattle.spec_state.specs.ChannelBytes.{bank_tag, channel_bytes}
use Rattle.spec_state.specs.Form.Layout.{Numbers, layout, figure_of, last_of_channel, count_word, count_number, write_number, second_number, numbers_of}
use Rattle.spec_state.specs.Form.Stores.{shut_stored, implied_stored, implied_all_stored, col_stored, rd_stored, retire_stored, shift_stored, write_stored, beside_stored}
use Rattle.spec_state.proofs.AfterLaws.{retire-state, implied-size, implied-due, packet-state}
use Rattle.spec_state.proofs.LayoutLaws.{put-pre, put-tag, put-716, put-724, layout-ext}
use Rattle.spec_state.proofs.StoreLaws.{WriteIn, by-numbers, pick, on, SidesClosed, only-own, tag-own, after_read, read-stored}
use Rattle.spec_state.proofs.CloseLaws.{near-pre, near-tag, all_closed}
use Rattle.spec_state.proofs.ColLaws.{shift-stored, gone-size, gone-due, gone-in, loaded_by, nocop-stored, wr-stored, beside-stored, after-left}

-- ---- an implied PRER to bank x at u

module _ (cx : Context) (ch : Channel) (q : List ℕ) (e : length ch.banks ≡ 32) (i : WriteIn ch.buffer) (x u : ℕ) (l : x < 32) where
  abbrev implied : Channel
  implied = after_implied cx u (Some x) ch

  implied-track : (y : ℕ) → y < 32 → track_of implied y ≡ track_implied cx (state_of ch) u x y (track_of ch y)
  unfolding after_implied
  implied-track y m = get_or-imap (track_implied cx (state_of ch) u x) ch.banks y idle idle (omega arith)

  -- the numbers after it
  abbrev implied_numbers : Numbers
  implied_numbers =
      record {
        figure = λ k y. figure_of (track_implied cx (state_of ch) u x y (track_of ch y)) k - 3;
        tag = λ y. bank_tag (track_implied cx (state_of ch) u x y (track_of ch y)).bank;
        last = λ j. last_of_channel implied.lasts j - 3;
        count = count_number ch.buffer ch.due;
        write = write_number ch.buffer;
        second = second_number ch.buffer;
        tail = q;
      }

  implied-bytes : channel_bytes implied ++ q ≡ layout implied_numbers
  unfolding after_implied numbers_of
  implied-bytes =
      by-numbers implied q i
      ∙ layout-ext _ implied_numbers
      (λ y m. ap (λ (k : BankTrack). figure_of k 0 - 3) (implied-track y m))
      (λ y m. ap (λ (k : BankTrack). figure_of k 1 - 3) (implied-track y m))
      (λ y m. ap (λ (k : BankTrack). figure_of k 2 - 3) (implied-track y m))
      (λ y m. ap (λ (k : BankTrack). figure_of k 3 - 3) (implied-track y m))
      (λ y m. ap (λ (k : BankTrack). figure_of k 4 - 3) (implied-track y m))
      (λ y m. ap (λ (k : BankTrack). bank_tag k.bank) (implied-track y m))
      refl refl refl refl refl refl refl refl refl refl

  -- where its neighbours are closed
  pub implied-stored : SidesClosed cx ch x → implied_stored (channel_bytes ch ++ q) x (u - 3) ≡ channel_bytes (after_implied cx u (Some x) ch) ++ q
  unfolding implied_stored shut_stored after_implied track_implied figure_of last_of_channel numbers_of
  implied-stored sides =
      let v : List ℕ = bytes 4 (u - 3) in
      on 724 v (on 716 v (on (640 + 2 * x) (bytes 2 0) (on (256 + 4 * x) v (by-numbers ch q i) (put-pre _ (u - 3) x l)) (put-tag _ 0 x l)) (put-716 _ (u - 3))) (put-724 _ (u - 3))
      ∙ layout-ext _ implied_numbers (λ y m. refl) (λ y m. refl)
      (λ y m. rw (only-own cx ch x sides y m) (pick (eqb y x) (record { 0 = u }) (track_of ch y).pre))
      (λ y m. refl) (λ y m. refl) (tag-own cx ch x sides) refl refl refl refl refl refl refl refl refl refl
      ∙ sym implied-bytes

  -- with these two banks on its sides
  module _ (low high : ℕ) (sides : (y : ℕ) → y < 32 → (eqb y x || eqb y low) || eqb y high ≡ near cx x y) (fits : (y : ℕ) → y < 32 → bank_tag (state_of ch y) < 256 ^ 2) where
    pub implied-all-stored : implied_all_stored (channel_bytes ch ++ q) x low high (u - 3) ≡ channel_bytes (after_implied cx u (Some x) ch) ++ q
    unfolding implied_all_stored after_implied track_implied figure_of last_of_channel numbers_of
    implied-all-stored =
        let v : List ℕ = bytes 4 (u - 3) in
        on 724 v (on 716 v (all_closed cx ch q i x u l low high sides fits) (put-716 _ (u - 3))) (put-724 _ (u - 3))
        ∙ layout-ext _ implied_numbers (λ y m. refl) (λ y m. refl) (near-pre cx ch q i x u l low high sides fits) (λ y m. refl) (λ y m. refl) (near-tag cx ch q i x u l low high sides fits)
        refl refl refl refl refl refl refl refl refl refl
        ∙ sym implied-bytes

-- two states of the channel whose banks are in the same states
same-sides : (cx : Context) (c d : Channel) (x : ℕ) → ((y : ℕ) → y < 32 → state_of d y ≡ state_of c y) → SidesClosed cx c x → SidesClosed cx d x
same-sides cx c d x same sides y m n o = same y m ∙ sides y m n o

same-fits : (c d : Channel) → ((y : ℕ) → y < 32 → state_of d y ≡ state_of c y) → ((y : ℕ) → y < 32 → bank_tag (state_of c y) < 256 ^ 2) → (y : ℕ) → y < 32 → bank_tag (state_of d y) < 256 ^ 2
same-fits c d same fits y m = rw (same y m) (fits y m)

-- ---- RDA, where no data are due

module _ (cx : Context) (ch : Channel) (q : List ℕ) (e : length ch.banks ≡ 32) (i : WriteIn ch.buffer) (d : ch.due ≡ false) (x t : ℕ) (l : x < 32) (c m : ℕ) where
  abbrev rda : Record
  rda = ColAt (record { 0 = t }) (Rd x c m true)

  abbrev reading : Channel
  reading = after_packet cx ch rda

  reading-size : length reading.banks ≡ 32
  unfolding after_packet
  reading-size = length-imap _ 0 ch.banks ∙ e

  reading-in : WriteIn reading.buffer
  unfolding after_packet loads
  reading-in = rw (buffer-waiting ch.buffer) i

  reading-state : (y : ℕ) → y < 32 → state_of reading y ≡ state_of ch y
  unfolding bank_count bank_next
  reading-state y n = packet-state cx ch rda y e n

  abbrev u : ℕ
  u = t + cx.settings.offp

  pub rda-stored : SidesClosed cx ch x → implied_stored (rd_stored (channel_bytes ch ++ q) x (t - 3)) x (u - 3) ≡ channel_bytes (after cx ch rda) ++ q
  rda-stored sides =
      ap (λ (b : List ℕ). implied_stored b x (u - 3)) (read-stored cx ch q e i d x t l c m true)
      ∙ implied-stored cx reading q reading-size reading-in x u l (same-sides cx ch reading x reading-state sides)
      ∙ ap (λ (ch : Channel). channel_bytes ch ++ q) (sym (after_read cx ch t x c m true))

  module _ (low high : ℕ) (sides : (y : ℕ) → y < 32 → (eqb y x || eqb y low) || eqb y high ≡ near cx x y) (fits : (y : ℕ) → y < 32 → bank_tag (state_of ch y) < 256 ^ 2) where
    pub rda-all-stored : implied_all_stored (rd_stored (channel_bytes ch ++ q) x (t - 3)) x low high (u - 3) ≡ channel_bytes (after cx ch rda) ++ q
    rda-all-stored =
        ap (λ (b : List ℕ). implied_all_stored b x low high (u - 3)) (read-stored cx ch q e i d x t l c m true)
        ∙ implied-all-stored cx reading q reading-size reading-in x u l low high sides (same-fits ch reading reading-state fits)
        ∙ ap (λ (ch : Channel). channel_bytes ch ++ q) (sym (after_read cx ch t x c m true))

-- ---- the older write w leaves, and is a WRA, where no data are due

module _ (cx : Context) (ch : Channel) (q : List ℕ) (e : length ch.banks ≡ 32) (i : WriteIn ch.buffer) (d : ch.due ≡ false) (w : Write) (t : ℕ) (l : w.bank < 32) where
  abbrev retired : List ℕ
  retired = shift_stored (retire_stored (channel_bytes ch ++ q) w.bank (t - 3)) (length (rest (waiting_of ch.buffer)))

  abbrev left : Channel
  left = after_retire t (Some w) ch

  -- the state in which the packet itself then stands
  abbrev pub closing : Channel
  closing = after_implied cx (t + cx.settings.offp) (Some w.bank) left

  left-state : (y : ℕ) → y < 32 → state_of left y ≡ state_of ch y
  unfolding bank_count
  left-state y m = retire-state t (Some w) ch y e m

  pub closing-stored : SidesClosed cx ch w.bank → implied_stored retired w.bank (t + cx.settings.offp - 3) ≡ channel_bytes closing ++ q
  closing-stored sides =
      ap (λ (b : List ℕ). implied_stored b w.bank (t + cx.settings.offp - 3)) (shift-stored ch q e i d w t l)
      ∙ implied-stored cx left q (gone-size ch q e i d w t l) (gone-in ch q e i d w t l) w.bank (t + cx.settings.offp) l (same-sides cx ch left w.bank left-state sides)

  module _ (low high : ℕ) (sides : (y : ℕ) → y < 32 → (eqb y w.bank || eqb y low) || eqb y high ≡ near cx w.bank y) (fits : (y : ℕ) → y < 32 → bank_tag (state_of ch y) < 256 ^ 2) where
    pub closing-all-stored : implied_all_stored retired w.bank low high (t + cx.settings.offp - 3) ≡ channel_bytes closing ++ q
    closing-all-stored =
        ap (λ (b : List ℕ). implied_all_stored b w.bank low high (t + cx.settings.offp - 3)) (shift-stored ch q e i d w t l)
        ∙ implied-all-stored cx left q (gone-size ch q e i d w t l) (gone-in ch q e i d w t l) w.bank (t + cx.settings.offp) l low high sides (same-fits ch left left-state fits)

  pub closing-size : length closing.banks ≡ 32
  closing-size = implied-size cx (t + cx.settings.offp) (Some w.bank) left ∙ gone-size ch q e i d w t l

  pub closing-due : closing.due ≡ false
  closing-due = implied-due cx (t + cx.settings.offp) (Some w.bank) left ∙ gone-due ch q e i d w t l

  pub closing-in : WriteIn closing.buffer
  unfolding after_implied
  closing-in = gone-in ch q e i d w t l

  abbrev at : ColPacket → Record
  at p = ColAt (record { 0 = t }) p

  pub closing_after : (p : ColPacket) → (col_traits p).implies ≡ None → w.close ≡ true → leaving_of cx ch (at p) ≡ Some w → after cx ch (at p) ≡ after_packet cx closing (at p)
  closing_after p n k h =
      let z : retire_implies (Some w) ≡ Some w.bank = rw k in
      after-left cx ch t p (Some w) n h ∙ ap (λ (o : Option ℕ). after_packet cx (after_implied cx (t + cx.settings.offp) o left) (at p)) z

  -- the packet itself: NOCOP; WR where w waited alone, and where another waited behind it
  module _ (k : w.close ≡ true) where
    pub nocop-closing : (m : ℕ) → leaving_of cx ch (at (Nocop m)) ≡ Some w → col_stored (channel_bytes closing ++ q) (t - 3) ≡ channel_bytes (after cx ch (at (Nocop m))) ++ q
    unfolding col_traits
    nocop-closing m h = rw (closing_after (Nocop m) refl k h) (nocop-stored cx closing q closing-size closing-in closing-due t m)

    module _ (x c m : ℕ) (close : Bool) (b : x < 32) (f : c < 256) (due : Bool) (h : leaving_of cx ch (at (Wr x c m close)) ≡ Some w) where
      pub wr-closing : ch.buffer ≡ One w
          → col_stored (write_stored (channel_bytes closing ++ q) (count_word 1 due) x c close (t - 3)) (t - 3) ≡ channel_bytes (loaded_by due (after cx ch (at (Wr x c m close)))) ++ q
      unfolding col_traits after_implied after_retire buffer_of waiting_of
      wr-closing z = rw (closing_after (Wr x c m close) refl k h) (wr-stored cx closing q closing-size closing-in closing-due t x c m close b f due (rw z))

      pub wr-closing-behind : (y : Write) → ch.buffer ≡ Two w y
          → col_stored (beside_stored (channel_bytes closing ++ q) (count_word 2 due) x c close (t - 3)) (t - 3) ≡ channel_bytes (loaded_by due (after cx ch (at (Wr x c m close)))) ++ q
      unfolding col_traits after_implied after_retire buffer_of waiting_of
      wr-closing-behind y z = rw (closing_after (Wr x c m close) refl k h) (beside-stored cx closing q closing-size closing-in closing-due t x c m close b f due y (rw z))
