-- What is known of a state and a record that breaks no rule in it.
-- Assumes nothing.
use Prim.Native.Nat.{◌+◌, ◌≤◌}
use mathlib.Core.Path.{◌≡◌, refl, sym}
use mathlib.Core.Bool.{Bool, true, false, not, ◌&&◌, ◌||◌}
use lib.Dec.{leb}
use borrow.Author.Tests.{leb-true}
use Rattle.settings.specs.declared.PacketAt.{PacketAt}
use Rattle.settings.specs.Instants.{horizon, is_instant}
use Rattle.packet.specs.declared.RowPacket.{RowPacket}
use Rattle.packet.specs.declared.ColPacket.{ColPacket}
use Rattle.record.specs.declared.Record.{Record}
use Rattle.record.specs.declared.Record.TheVariants.{RowAt, ColAt}
use Rattle.spec_rules.specs.declared.Buffer.{Buffer}
use Rattle.spec_rules.specs.declared.Buffer.TheVariants.{Empty, One, Two}
use Rattle.spec_rules.specs.declared.Channel.{Channel}
use Rattle.spec_rules.specs.Neighbour.{Context}
use Rattle.spec_rules.specs.Packets.{instant, is_packet}
use Rattle.spec_rules.specs.History.{only, any_write}
use Rattle.spec_rules.specs.Rules.{data_in_place, longest_delay, implied_delay}
use Rattle.spec_rules.specs.Channel.{waiting_of, newest_due, due_of, leaving_of}
use Rattle.spec_rules.specs.Checks.{check_of, checks, judged}
use Rattle.spec_rules.proofs.Bools.{not-both, and_left}
use Rattle.spec_rules.proofs.BrokenLaws.{lowest-none}
use Rattle.spec_state.proofs.NextValid.{Sound}

-- rule 1: an instant can be stored less 3
in-range : (cx : Context) (ch : Channel) (r : Record) → judged cx ch r ≡ 0 → 4 ≤ instant r
unfolding judged checks
in-range cx ch r j =
    let within : Bool = is_instant (instant r) && (leb (instant r + longest_delay cx r) horizon && leb (instant r + implied_delay cx (leaving_of cx ch r)) horizon) in
    let one : within && check_of cx ch r 1 ≡ true = lowest-none 0 (checks cx ch r) j 0 in
    leb-true 4 (instant r) (and_left (leb 4 (instant r)) _ (and_left (is_instant (instant r)) _ (and_left within _ one)))

pub row-late : (cx : Context) (ch : Channel) (t : PacketAt) (p : RowPacket) → judged cx ch (RowAt t p) ≡ 0 → 4 ≤ t.0
unfolding is_packet instant
row-late cx ch t p j = in-range cx ch (RowAt t p) j

pub col-late : (cx : Context) (ch : Channel) (t : PacketAt) (p : ColPacket) → judged cx ch (ColAt t p) ≡ 0 → 4 ≤ t.0
unfolding is_packet instant
col-late cx ch t p j = in-range cx ch (ColAt t p) j

module _ (cx : Context) (ch : Channel) (k : Sound cx ch) where
  module _ (r : Record) (j : judged cx ch r ≡ 0) where
    -- rule 15
    in_place : data_in_place (only ch.due (newest_due cx (waiting_of ch.buffer))) r ≡ true
    unfolding judged checks due_of
    in_place = lowest-none 0 (checks cx ch r) j 14

    -- no data are due at a packet
    pub no_due : is_packet r ≡ true → ch.due ≡ false
    unfolding waiting_of
    no_due p = go ch.due ch.buffer in_place k.due-of
      where
        go : (due : Bool) (b : Buffer) → data_in_place (only due (newest_due cx (waiting_of b))) r ≡ true → not due || any_write (λ w. true) (waiting_of b) ≡ true → due ≡ false
        go false b h d = refl
        go true Empty h d = sym d
        go true (One x) h d = sym (rw p at h)
        go true (Two x y) h d = sym (rw p at h)

    -- at data a write waits
    pub some-waits : is_packet r ≡ false → (b : Buffer) → ch.buffer ≡ b → any_write (λ w. true) (waiting_of b) ≡ true
    unfolding waiting_of
    some-waits p b z = go ch.due b (rw z at in_place)
      where
        go : (due : Bool) (b : Buffer) → data_in_place (only due (newest_due cx (waiting_of b))) r ≡ true → any_write (λ w. true) (waiting_of b) ≡ true
        go due (One x) h = refl
        go due (Two x y) h = refl
        go true Empty h = not-both (is_packet r) h p
        go false Empty h = not-both (is_packet r) h p
