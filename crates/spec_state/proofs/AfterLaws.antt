-- The channel after a record: the number of banks, and their states.
-- Assumes nothing.
use Rattle.std.specs.Prelude.{Option, None, Some}
use Prim.Native.Nat.{ℕ, ◌+◌, ◌<◌}
use mathlib.Core.Path.{◌≡◌, refl, ap, ◌∙◌}
use lib.ListN.{length}
use Rattle.settings.specs.declared.PacketAt.{PacketAt}
use Rattle.packet.specs.declared.ColPacket.{ColPacket}
use Rattle.record.specs.declared.Record.{Record}
use Rattle.record.specs.declared.Record.TheVariants.{RowAt, ColAt, DataOf}
use Rattle.spec_rules.specs.declared.Bank.{Bank}
use Rattle.spec_rules.specs.declared.BankTrack.{BankTrack}
use Rattle.spec_rules.specs.declared.Write.{Write}
use Rattle.spec_rules.specs.declared.Channel.{Channel}
use Rattle.spec_rules.specs.Neighbour.{bank_count, Context}
use Rattle.spec_rules.specs.Packets.{traits, col_traits}
use Rattle.spec_rules.specs.History.{bank_by, closed_by, retire_implies, has}
use Rattle.spec_rules.specs.Channel.{idle, state_of, bank_next, track_next, after_packet, track_retired, after_retire, after_implied, after_data, leaving_of, after}
use Rattle.spec_rules.proofs.ListLaws.{length-imap, get_or-imap}
use Rattle.spec_rules.proofs.TrackLaws.{state-implied}

retire-size : (t : ℕ) (o : Option Write) (ch : Channel) → length (after_retire t o ch).banks ≡ length ch.banks
unfolding after_retire
retire-size t None ch = refl
retire-size t (Some w) ch = length-imap _ 0 ch.banks

pub retire-state : (t : ℕ) (o : Option Write) (ch : Channel) (x : ℕ) → length ch.banks ≡ bank_count → x < bank_count → state_of (after_retire t o ch) x ≡ state_of ch x
unfolding after_retire track_retired
retire-state t None ch x n m = refl
retire-state t (Some w) ch x n m = ap (λ (k : BankTrack). k.bank) (get_or-imap (track_retired t w) ch.banks x idle idle (rw n m))

pub implied-size : (cx : Context) (t : ℕ) (o : Option ℕ) (ch : Channel) → length (after_implied cx t o ch).banks ≡ length ch.banks
unfolding after_implied
implied-size cx t None ch = refl
implied-size cx t (Some b) ch = length-imap _ 0 ch.banks

pub implied-due : (cx : Context) (t : ℕ) (o : Option ℕ) (ch : Channel) → (after_implied cx t o ch).due ≡ ch.due
unfolding after_implied
implied-due cx t None ch = refl
implied-due cx t (Some b) ch = refl

-- bank x after a record that retires this write
unfoldable pub state_by : Context → Option Write → Record → ℕ → Bank → Bank
state_by cx o (RowAt t p) x b = bank_by cx p x b
state_by cx o (ColAt t p) x b = closed_by cx (traits (ColAt t p)).implies x (closed_by cx (retire_implies o) x b)
state_by cx o (DataOf t d) x b = b

module _ (cx : Context) (ch : Channel) where
  abbrev col_left : PacketAt → ColPacket → Channel
  col_left t p = after_implied cx (t.0 + cx.settings.offp) (retire_implies (leaving_of cx ch (ColAt t p))) (after_retire t.0 (leaving_of cx ch (ColAt t p)) ch)

  left-size : (t : PacketAt) (p : ColPacket) → length (col_left t p).banks ≡ length ch.banks
  left-size t p = implied-size cx (t.0 + cx.settings.offp) (retire_implies (leaving_of cx ch (ColAt t p))) _ ∙ retire-size t.0 (leaving_of cx ch (ColAt t p)) ch

  pub after-size : (r : Record) → length (after cx ch r).banks ≡ length ch.banks
  unfolding after after_packet after_data
  after-size (RowAt t p) = length-imap _ 0 ch.banks
  after-size (ColAt t p) = implied-size cx (t.0 + cx.settings.offp) (traits (ColAt t p)).implies _ ∙ length-imap _ 0 (col_left t p).banks ∙ left-size t p
  after-size (DataOf t d) = refl

  pub after-due : (r : Record) → (after cx ch r).due ≡ has (traits r).writes
  unfolding after after_packet after_data traits
  after-due (RowAt t p) = refl
  after-due (ColAt t p) = implied-due cx (t.0 + cx.settings.offp) (col_traits p).implies _
  after-due (DataOf t d) = refl

pub packet-state : (cx : Context) (ch : Channel) (r : Record) (x : ℕ) → length ch.banks ≡ bank_count → x < bank_count → state_of (after_packet cx ch r) x ≡ bank_next cx r x (state_of ch x)
unfolding after_packet track_next
packet-state cx ch r x n m = ap (λ (k : BankTrack). k.bank) (get_or-imap (track_next cx ch r) ch.banks x idle idle (rw n m))

pub after-state : (cx : Context) (ch : Channel) (r : Record) (x : ℕ) → length ch.banks ≡ bank_count → x < bank_count
    → state_of (after cx ch r) x ≡ state_by cx (leaving_of cx ch r) r x (state_of ch x)
unfolding after after_data bank_next state_by after_packet
after-state cx ch (RowAt t p) x n m = packet-state cx ch (RowAt t p) x n m
after-state cx ch (ColAt t p) x n m =
    let r : Record = ColAt t p in
    let o : Option Write = leaving_of cx ch r in
    let u : ℕ = t.0 + cx.settings.offp in
    let c : Channel = col_left cx ch t p in
    let z : length c.banks ≡ bank_count = left-size cx ch t p ∙ n in
    state-implied cx (after_packet cx c r) (length-imap _ 0 c.banks ∙ z) u (traits r).implies x
    ∙ ap (closed_by cx (traits r).implies x)
    (packet-state cx c r x z m ∙ state-implied cx (after_retire t.0 o ch) (retire-size t.0 o ch ∙ n) u (retire_implies o) x ∙ ap (closed_by cx (retire_implies o) x) (retire-state t.0 o ch x n m))
after-state cx ch (DataOf t d) x n m = refl
