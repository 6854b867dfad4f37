-- Bytes that refusal 1 has nothing against have their stored instants in range.
-- Assumes nothing.
use Prim.Native.Nat.{ℕ, zero, suc, ◌+◌, ◌*◌, ◌/◌, ◌%◌, ◌<◌, ◌≤◌}
use mathlib.Core.Path.{◌≡◌, refl, sym, ◌∙◌}
use mathlib.Core.Bool.{Bool, true, false, not, ◌&&◌, cond}
use mathlib.Core.List.{List, [], ◌∷◌}
use native.Mathlib.Omega.{arith}
use borrow.Author.Tests.{leb-true, leb-false, eqb-true, ne_eqb}
use lib.Dec.{eqb, leb}
use lib.ListN.{length, get_or}
use Rattle.num.specs.Bytes.{number, part}
use Rattle.num.proofs.ByteLaws.{number-part}
use Rattle.settings.specs.Instants.{is_instant}
use Rattle.spec_rules.specs.declared.Buffer.TheVariants.{Empty, One, Two}
use Rattle.spec_rules.specs.Neighbour.{bank_count, Context}
use Rattle.spec_rules.specs.Channel.{waiting_of}
use Rattle.spec_rules.proofs.Bools.{and_left, and_right}
use Rattle.spec_state.specs.Valid.{is_stamp, channel_valid}
use Rattle.spec_state.specs.ChannelBytes.{instant_of, track_in, lasts_in, write_in, buffer_in, channel_in, zero_part, close_right, channel_spare}
use Rattle.spec_state.proofs.PlaneLaws.{tracks-at}
use Rattle.spec_state.proofs.EachInstant.{TrackAll, WritesAll}
use Rattle.spec_state.proofs.Stamps.{Stamp, IsInstant, Stamped}
use Rattle.spec_state.proofs.NextValid.{valid-sound}
use Rattle.spec_model.specs.Model.{model_valid}
use Rattle.spec_model.specs.ModelBytes.{model_length, model_in, model_right}
use Rattle.state_bytes.specs.Form.Stored.{latest, InRange}
use Rattle.state_bytes.proofs.NumberLaws.{stamp-stored, instant-stored}

-- the five instants of bank x
pub bank-in-range : (b : List ℕ) → InRange b → (x : ℕ) → x < 32
    → (number (part b (4 * x) 4) ≤ latest)
    × (number (part b (128 + 4 * x) 4) ≤ latest)
    × (number (part b (256 + 4 * x) 4) ≤ latest)
    × (number (part b (384 + 4 * x) 4) ≤ latest)
    × (number (part b (512 + 4 * x) 4) ≤ latest)
bank-in-range b r x l = (r.planes x (omega arith), at 32 (omega arith), at 64 (omega arith), at 96 (omega arith), at 128 (omega arith))
  where
    at : (n : ℕ) → n ≤ 128 → number (part b (4 * n + 4 * x) 4) ≤ latest
    at n m = let e : 4 * n + 4 * x ≡ 4 * (n + x) = omega arith in rw e (r.planes (n + x) (omega arith))

-- the last instants
pub lasts-in-range : (b : List ℕ) → InRange b
    → (number (part b 704 4) ≤ latest)
    × (number (part b 708 4) ≤ latest)
    × (number (part b 712 4) ≤ latest)
    × (number (part b 716 4) ≤ latest)
    × (number (part b 720 4) ≤ latest)
    × (number (part b 724 4) ≤ latest)
lasts-in-range b r =
    (r.lasts 0 (omega arith), r.lasts 1 (omega arith), r.lasts 2 (omega arith), r.lasts 3 (omega arith), r.lasts 4 (omega arith), r.lasts 5 (omega arith))

-- ---- from the tests

stamp-most : (n : ℕ) → is_stamp (instant_of n) ≡ true → n ≤ latest
stamp-most n h = leb-true n latest (sym (stamp-stored n) ∙ h)

instant-most : (n : ℕ) → is_instant (instant_of n) ≡ true → n ≤ latest
instant-most n h = leb-true n latest (and_right (not (eqb n 0)) _ (sym (instant-stored n) ∙ h))

module _ (cx : Context) (b : List ℕ) (v : channel_valid cx (channel_in b) ≡ true) where
  stamped : Stamped (channel_in b)
  stamped = (valid-sound cx (channel_in b) v).stamped

  track-stamps : (x : ℕ) → x < 32 → TrackAll Stamp (track_in b x)
  unfolding channel_in bank_count
  track-stamps x l = rw (tracks-at b 32 x l) at (stamped.lasts.banks x l)

  planes-most : (k : ℕ) → k < 160 → number (part b (4 * k) 4) ≤ latest
  unfolding track_in
  planes-most k l = go (k / 32) refl
    where
      s : TrackAll Stamp (track_in b (k % 32))
      s = track-stamps (k % 32) (omega arith)

      at : (n : ℕ) → n ≡ 4 * k → is_stamp (instant_of (number (part b n 4))) ≡ true → number (part b (4 * k) 4) ≤ latest
      at n e h = rw (← e) (stamp-most (number (part b n 4)) h)

      go : (p : ℕ) → k / 32 ≡ p → number (part b (4 * k) 4) ≤ latest
      go zero e = at (4 * (k % 32)) (omega arith) s.opened
      go (suc zero) e = at (128 + 4 * (k % 32)) (omega arith) s.act
      go (suc (suc zero)) e = at (256 + 4 * (k % 32)) (omega arith) s.pre
      go (suc (suc (suc zero))) e = at (384 + 4 * (k % 32)) (omega arith) s.rd
      go (suc (suc (suc (suc p)))) e = at (512 + 4 * (k % 32)) (omega arith) s.retire

  lasts-most : (k : ℕ) → k < 6 → number (part b (704 + 4 * k) 4) ≤ latest
  unfolding channel_in lasts_in
  lasts-most zero l = stamp-most (number (part b 704 4)) stamped.lasts.packet
  lasts-most (suc zero) l = stamp-most (number (part b 708 4)) stamped.lasts.row
  lasts-most (suc (suc zero)) l = stamp-most (number (part b 712 4)) stamped.lasts.col
  lasts-most (suc (suc (suc zero))) l = stamp-most (number (part b 716 4)) stamped.lasts.pre
  lasts-most (suc (suc (suc (suc zero)))) l = stamp-most (number (part b 720 4)) stamped.lasts.rd
  lasts-most (suc (suc (suc (suc (suc zero))))) l = stamp-most (number (part b 724 4)) stamped.lasts.implied
  lasts-most (suc (suc (suc (suc (suc (suc k)))))) l = absurd (omega arith)

  -- where a write does not wait its place is 0
  module _ (n : 752 ≤ length b) (z : channel_spare b ≡ true) where
    spare : cond (eqb (get_or b 728 0) 0) (zero_part b 736 8) (close_right b 736) && cond (leb (get_or b 728 0) 1) (zero_part b 744 8) (close_right b 744) ≡ true
    unfolding channel_spare
    spare = and_right (leb (get_or b 728 0) 2 && (leb (get_or b 729 0) 1 && zero_part b 730 6)) _ z

    zero-most : (p : ℕ) → p + 8 ≤ length b → zero_part b p 8 ≡ true → number (part b (p + 4) 4) ≤ latest
    zero-most p m e = omega (arith, number-part b p 4 4 (omega arith), eqb-true (number (part b p 8)) 0 e)

    write-most : number (part b 740 4) ≤ latest
    unfolding channel_in buffer_in waiting_of
    write-most = go (eqb (get_or b 728 0) 0) (eqb (get_or b 728 0) 1) stamped.writes (and_left (cond (eqb (get_or b 728 0) 0) (zero_part b 736 8) (close_right b 736)) _ spare)
      where
        go : (q r : Bool) → WritesAll IsInstant (waiting_of (cond q Empty (cond r (One (write_in b 736)) (Two (write_in b 736) (write_in b 744)))))
            → cond q (zero_part b 736 8) (close_right b 736) ≡ true → number (part b 740 4) ≤ latest
        go true r s e = zero-most 736 (omega arith) e
        go false true s e = instant-most (number (part b 740 4)) s.0
        go false false s e = instant-most (number (part b 740 4)) s.0

    second-most : number (part b 748 4) ≤ latest
    unfolding channel_in buffer_in waiting_of
    second-most = go (leb (get_or b 728 0) 1) refl (and_right (cond (eqb (get_or b 728 0) 0) (zero_part b 736 8) (close_right b 736)) _ spare)
      where
        two : leb (get_or b 728 0) 1 ≡ false → WritesAll IsInstant (write_in b 736 ∷ write_in b 744 ∷ [])
        two h = rw (ne_eqb (get_or b 728 0) 0 (λ e. omega (arith, leb-false (get_or b 728 0) 1 h)), ne_eqb (get_or b 728 0) 1 (λ e. omega (arith, leb-false (get_or b 728 0) 1 h))) at stamped.writes

        go : (q : Bool) → leb (get_or b 728 0) 1 ≡ q → cond q (zero_part b 744 8) (close_right b 744) ≡ true → number (part b 748 4) ≤ latest
        go true h e = zero-most 744 (omega arith) e
        go false h e = instant-most (number (part b 748 4)) (two h).1.0

    channel-in-range : InRange b
    channel-in-range = record { planes = planes-most; lasts = lasts-most; write = write-most; second = second-most }

-- ---- models

module _ (cx : Context) (b : List ℕ) where
  pub model-in-range : model_right cx b ≡ true → InRange b
  unfolding model_right model_length model_valid model_in
  model-in-range r =
      let n : length b ≡ 792 = eqb-true (length b) 792 (and_left (eqb (length b) 792) _ r) in
      let rest = and_right (eqb (length b) 792) _ r in
      let zeros : Bool = zero_part b 754 6 in
      let v = and_right (channel_spare b && zeros) _ rest in
      let spare = and_left (channel_spare b) zeros (and_left (channel_spare b && zeros) _ rest) in
      channel-in-range cx b (and_left (channel_valid cx (channel_in b)) _ v) (omega arith) spare
