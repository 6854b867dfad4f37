-- What is read of the bytes of a model is what the state that they say has.
-- Assumes nothing.
use Prim.Native.Nat.{ℕ, ◌*◌, ◌<◌}
use mathlib.Core.Path.{◌≡◌, refl, sym, ap}
use mathlib.Core.Bool.{Bool, true, false, cond}
use mathlib.Core.List.{List}
use borrow.Author.Tests.{eqb-true}
use lib.Dec.{eqb, ltb}
use lib.ListN.{length, get_or}
use Rattle.settings.specs.declared.Settings.{Settings}
use Rattle.spec_rules.specs.declared.BankTrack.{BankTrack}
use Rattle.spec_rules.specs.declared.LastInstants.{LastInstants}
use Rattle.spec_rules.specs.History.{is_closed}
use Rattle.chan_view.specs.declared.View.{View}
use Rattle.chan_view.specs.declared.Held.{Held}
use Rattle.chan_view.specs.Form.Beside.{low_of, high_of, slot_of, around_of}
use Rattle.chan_view.specs.Form.View.{centre_of}
use Rattle.chan_judge.specs.Form.Tests.{prer_of, pin_tests, row_tests, col_tests, buffer_tests, packet_rule}
use Rattle.spec_rules.specs.Neighbour.{bank_count, Context}
use Rattle.spec_rules.specs.Channel.{never, idle}
use Rattle.spec_rules.proofs.Bools.{and_left}
use Rattle.spec_state.specs.ChannelBytes.{buffer_in, lasts_in, instant_in, track_in, channel_in}
use Rattle.spec_state.proofs.PlaneLaws.{length-tracks, tracks-at}
use Rattle.spec_model.specs.ModelBytes.{model_length, model_right}

pub banks-count : (b : List ℕ) → length (channel_in b).banks ≡ 32
unfolding channel_in bank_count
banks-count b = length-tracks b 32

pub track-read : (b : List ℕ) (x : ℕ) → x < 32 → track_in b x ≡ get_or (channel_in b).banks x idle
unfolding channel_in bank_count
track-read b x l = sym (tracks-at b 32 x l)

pub buffer-read : (b : List ℕ) → buffer_in b ≡ (channel_in b).buffer
unfolding channel_in
buffer-read b = refl

pub lasts-read : (b : List ℕ) → lasts_in b ≡ (channel_in b).lasts
unfolding channel_in
lasts-read b = refl

pub opened-read : (b : List ℕ) (x : ℕ) → x < 32 → instant_in b (4 * x) ≡ (get_or (channel_in b).banks x idle).opened
unfolding track_in
opened-read b x l = ap (λ (t : BankTrack). t.opened) (track-read b x l)

pub right-length : (cx : Context) (b : List ℕ) → model_right cx b ≡ true → length b ≡ 792
unfolding model_right model_length
right-length cx b r = eqb-true (length b) 792 (and_left (eqb (length b) 792) _ r)

-- of the newer write's bank the state is enough
pub state-enough : (s : Settings) (v : View) (h : Held) (l : List BankTrack) (act : ℕ) (lasts : LastInstants)
    → let at : ℕ → BankTrack = λ x. get_or l (slot_of x) idle in
    let c : ℕ = centre_of s h v in
    let next : BankTrack = record { bank = (at h.next).bank; opened = never; act = never; pre = never; rd = never; retire = never } in
    packet_rule s v h (around_of s v.bank c h (at v.bank) (at (low_of s c)) (at (high_of s c)) (at h.bank) next) act lasts
    ≡ packet_rule s v h (around_of s v.bank c h (at v.bank) (at (low_of s c)) (at (high_of s c)) (at h.bank) (at h.next)) act lasts
unfolding packet_rule pin_tests row_tests col_tests buffer_tests prer_of
state-enough s v h l act lasts = rw (shut (get_or l (slot_of h.next) idle) (ltb h.next 32))
  where
    shut : (k : BankTrack) (q : Bool) → is_closed (cond q (record { bank = k.bank; opened = never; act = never; pre = never; rd = never; retire = never }) idle).bank ≡ is_closed (cond q k idle).bank
    shut k true = refl
    shut k false = refl
