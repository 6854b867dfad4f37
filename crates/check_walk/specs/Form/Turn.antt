-- What one record is to the walk, and what it makes of the state.
-- Assumes nothing.
use Rattle.std.specs.Prelude.{ℕ, ◌+◌, max, Bool, cond, List, get_or, set}
use Rattle.settings.specs.declared.Settings.{Settings}
use Rattle.settings.specs.declared.PacketAt.{PacketAt}
use Rattle.spec_rules.specs.declared.BankTrack.{BankTrack}
use Rattle.spec_rules.specs.declared.LastInstants.{LastInstants}
use Rattle.spec_rules.specs.declared.Buffer.{Buffer}
use Rattle.spec_rules.specs.declared.Channel.{Channel}
use Rattle.spec_rules.specs.Channel.{never, idle}
use Rattle.chan_view.specs.declared.View.{View}
use Rattle.chan_view.specs.declared.Seen.{Seen}
use Rattle.chan_view.specs.declared.Seen.TheVariants.{Packet, Data}
use Rattle.chan_view.specs.declared.Held.{Held}
use Rattle.chan_view.specs.declared.Tracks.{Tracks}
use Rattle.chan_view.specs.Form.Beside.{first_near, last_near, slot_of}
use Rattle.chan_view.specs.Form.View.{plain, implies_by, centre_of}
use Rattle.chan_step.specs.Form.Banks.{prer_track, side_track}
use Rattle.chan_step.specs.Form.Lasts.{implied_lasts}

-- a record as flags: data name no bank and change none
unfoldable pub view_in : Seen → View
view_in (Packet v) = v
view_in (Data t) = plain never

abbrev pub tracks_with : BankTrack → BankTrack → BankTrack → BankTrack → BankTrack → Tracks
tracks_with own low high held next = record { own = own; low = low; high = high; held = held; next = next }

-- a bank after an ACT or REFA
abbrev pub opened_track : View → BankTrack → BankTrack
opened_track v k =
    record {
      bank = v.state;
      opened = v.at;
      act = record { 0 = cond v.acts v.at.0 k.act.0 };
      pre = k.pre;
      rd = k.rd;
      retire = k.retire;
    }

-- the newest ACT or REFA after a record
abbrev pub newest_next : View → ℕ → ℕ
newest_next v newest = cond v.opens (max newest v.at.0) newest

-- no instant of any packet
abbrev pub no_lasts : LastInstants
no_lasts = record { packet = never; row = never; col = never; pre = never; rd = never; implied = never }

-- the state of the channel from its parts
abbrev pub channel_of : List BankTrack → LastInstants → Buffer → Bool → Channel
channel_of banks lasts buffer due = record { banks = banks; lasts = lasts; buffer = buffer; due = due }

-- the banks after a PRER or REFP to bank x, where y and z are the first and the last near it
abbrev pub three_stores : PacketAt → ℕ → ℕ → ℕ → List BankTrack → List BankTrack
three_stores t x y z l =
    let l1 : List BankTrack = set l x (prer_track t (get_or l x idle)) in
    let l2 : List BankTrack = set l1 y (side_track t (get_or l1 y idle)) in
    set l2 z (side_track t (get_or l2 z idle))

-- ---- the PRER that a packet implies

-- the banks after a PRER to bank b
abbrev pub closed_near : Settings → PacketAt → ℕ → List BankTrack → List BankTrack
closed_near s t b l = three_stores t (slot_of b) (first_near s (slot_of b)) (last_near s (slot_of b)) l

abbrev pub implied_at : Settings → View → PacketAt
implied_at s v = record { 0 = v.at.0 + s.offp }

-- the banks and the last instants after it, where it is implied
abbrev pub implied_stores : Settings → View → Held → List BankTrack → List BankTrack
implied_stores s v h l = cond (implies_by s h v) (closed_near s (implied_at s v) (centre_of s h v) l) l

abbrev pub lasts_implied : Settings → View → Held → LastInstants → LastInstants
lasts_implied s v h l = cond (implies_by s h v) (implied_lasts (implied_at s v) l) l
