-- A planner state that is not refused is read back from its bytes, and bytes that are not refused are what is written of their
-- state.
-- Assumes nothing.
use Prim.Native.Nat.{ℕ, ◌+◌, ◌-◌, ◌^◌, ◌<◌}
use mathlib.Core.Path.{◌≡◌, sym, ap, ◌∙◌}
use mathlib.Core.Bool.{Bool, true, ◌&&◌, ◌||◌, or-true}
use mathlib.Core.List.{List, ◌++◌}
use lib.Dec.{eqb, leb}
use lib.ListN.{length, length-append}
use borrow.Author.Tests.{leb-true, ltb-true, eqb-true}
use native.Mathlib.Omega.{arith}
use Rattle.num.specs.Bytes.{bytes, number, part, zeros, Bytes}
use Rattle.num.proofs.ByteLaws.{length-bytes, number-bytes}
use Rattle.num.proofs.PartLaws.{part-all, bytes-part, Bytes-append, Bytes-bytes, Bytes-zeros}
use Rattle.num.proofs.SpliceLaws.{length-zeros}
use Rattle.settings.specs.Settings.{valid}
use Rattle.settings.specs.Instants.{is_instant}
use Rattle.spec_rules.specs.Neighbour.{bank_count, Context}
use Rattle.spec_rules.proofs.Bools.{and_left, and_right}
use Rattle.spec_state.specs.Valid.{channel_valid}
use Rattle.spec_state.specs.ChannelBytes.{instant_bytes, channel_bytes, channel_in, zero_part, channel_spare}
use Rattle.spec_state.proofs.PlaneLaws.{part-split, part-both}
use Rattle.spec_state.proofs.Lengths.{channel-length, channel-bytes}
use Rattle.spec_state.proofs.RoundTrip.{Back, stamp-back, instant-back, zero-back, instant-in, zero_in, Kept, channel-back, valid-kept, channel-encode-decode}
use Rattle.spec_state.proofs.Stamps.{instant-stamp}
use Rattle.spec_plan.specs.declared.PlannerState.{PlannerState}
use Rattle.spec_plan.specs.Planner.{planner_valid}
use Rattle.spec_plan.specs.PlannerBytes.{planner_length, planner_bytes, planner_in, planner_right}
use Rattle.spec_plan.proofs.Invariant.{Tested, valid-tested}

pub planner-length : (p : PlannerState) → length (planner_bytes p) ≡ 768
unfolding planner_bytes
planner-length p = simp (length-append, channel-length, length-bytes, length-zeros)

pub planner-bytes : (p : PlannerState) → Bytes (planner_bytes p)
unfolding planner_bytes
planner-bytes p =
    Bytes-append (channel_bytes p.channel) _ (channel-bytes p.channel)
    (Bytes-append (instant_bytes p.now) _ (Bytes-bytes 4 (p.now.0 - 3))
    (Bytes-append (bytes 2 p.refresh) _ (Bytes-bytes 2 p.refresh)
    (Bytes-append (zeros 2) (bytes 2 p.mask ++ (bytes 2 p.second ++ zeros 4)) (Bytes-zeros 2)
    (Bytes-append (bytes 2 p.mask) (bytes 2 p.second ++ zeros 4) (Bytes-bytes 2 p.mask)
    (Bytes-append (bytes 2 p.second) (zeros 4) (Bytes-bytes 2 p.second) (Bytes-zeros 4))))))

-- ---- written, then read

-- the parts of the bytes
record Parts (b : List ℕ) (p : PlannerState) : Type 0 where
  channel : part b 0 752 ≡ channel_bytes p.channel
  now : part b 752 4 ≡ instant_bytes p.now
  refresh : part b 756 2 ≡ bytes 2 p.refresh
  after-refresh : part b 758 2 ≡ zeros 2
  mask : part b 760 2 ≡ bytes 2 p.mask
  second : part b 762 2 ≡ bytes 2 p.second
  after-masks : part b 764 4 ≡ zeros 4

parts : (p : PlannerState) → Parts (planner_bytes p) p
unfolding planner_bytes
parts p =
    let b : List ℕ = planner_bytes p in
    let p0 = part-split b 0 752 16 _ _ (channel-length p.channel) (part-all b 768 (rw planner-length (omega arith))) in
    let p1 = part-split b 752 4 12 _ _ (length-bytes 4 (p.now.0 - 3)) p0.1 in
    let p2 = part-split b 756 2 10 _ _ (length-bytes 2 p.refresh) p1.1 in
    let p3 = part-split b 758 2 8 _ _ (length-zeros 2) p2.1 in
    let p4 = part-split b 760 2 6 _ _ (length-bytes 2 p.mask) p3.1 in
    let p5 = part-split b 762 2 4 _ _ (length-bytes 2 p.second) p4.1 in
    record { channel = p0.0; now = p1.0; refresh = p2.0; after-refresh = p3.0; mask = p4.0; second = p5.0; after-masks = p5.1 }

-- the state that the bytes say, where each number fits them
module _ (cx : Context) (v : valid cx.settings ≡ true) (p : PlannerState) (k : Kept cx p.channel) (t : Back p.now.0) (f : p.refresh < 2 ^ 16) (m : p.mask < 2 ^ 16)
    (n : p.second < 2 ^ 16) where
  channel-said : (channel_in (planner_bytes p) ≡ p.channel) × (channel_spare (planner_bytes p) ≡ true)
  channel-said = channel-back cx p.channel (planner_bytes p) v k (rw planner-length (omega arith)) (parts p).channel

  pub planner-back : planner_in (planner_bytes p) ≡ p
  unfolding planner_in
  planner-back =
      let q : Parts (planner_bytes p) p = parts p in
      rw (
        channel-said.0,
        instant-back (planner_bytes p) 752 p.now q.now t,
        q.refresh,
        number-bytes 2 p.refresh f,
        q.mask,
        number-bytes 2 p.mask m,
        q.second,
        number-bytes 2 p.second n,
      )

module _ (cx : Context) (v : valid cx.settings ≡ true) (p : PlannerState) (k : planner_valid cx p ≡ true) where
  abbrev tested : Tested cx p
  tested = valid-tested cx p k

  kept : Kept cx p.channel
  unfolding planner_valid
  kept = valid-kept cx p.channel (and_left (channel_valid cx p.channel) _ k)

  now-back : Back p.now.0
  now-back = stamp-back p.now.0 (instant-stamp p.now.0 tested.now-in)

  refresh-fits : p.refresh < 2 ^ 16
  unfolding bank_count
  refresh-fits = omega (arith, ltb-true p.refresh 32 tested.refresh-in)

  mask_fits : p.mask < 2 ^ 16
  mask_fits = ltb-true p.mask 0x10000 tested.mask-in

  second_fits : p.second < 2 ^ 16
  second_fits = ltb-true p.second 0x10000 tested.second-in

  pub planner-decode-encode : planner_in (planner_bytes p) ≡ p
  planner-decode-encode = planner-back cx v p kept now-back refresh-fits mask_fits second_fits

  pub planner-right : planner_right cx (planner_bytes p) ≡ true
  unfolding planner_right planner_length
  planner-right =
      let q : Parts (planner_bytes p) p = parts p in
      let spare = (channel-said cx v p kept now-back refresh-fits mask_fits second_fits).1 in
      rw (planner-length p, spare, zero-back (planner_bytes p) 758 2 q.after-refresh, zero-back (planner_bytes p) 764 4 q.after-masks, planner-decode-encode, k)

-- ---- read, then written

pub planner-encode-decode : (cx : Context) (b : List ℕ) → Bytes b → planner_right cx b ≡ true → planner_bytes (planner_in b) ≡ b
unfolding planner_bytes planner_in planner_right planner_length
planner-encode-decode cx b w r =
    let n : length b ≡ 768 = eqb-true _ _ (and_left (eqb (length b) 768) _ r) in
    let spare = and_left (channel_spare b && (zero_part b 758 2 && zero_part b 764 4)) _ (and_right (eqb (length b) 768) _ r) in
    let zero = and_right (channel_spare b) _ spare in
    part-both b 0 752 16 _ _ (channel-encode-decode b w (omega arith) (and_left (channel_spare b) _ spare))
    (part-both b 752 4 12 _ _ (instant-in b 752 w (omega arith))
    (part-both b 756 2 10 _ _ (bytes-part b 756 2 w (omega arith))
    (part-both b 758 2 8 _ _ (zero_in b 758 2 w (omega arith) (and_left (zero_part b 758 2) _ zero))
    (part-both b 760 2 6 _ _ (bytes-part b 760 2 w (omega arith))
    (part-both b 762 2 4 _ _ (bytes-part b 762 2 w (omega arith)) (zero_in b 764 4 w (omega arith) (and_right (zero_part b 758 2) _ zero)))))))
    ∙ part-all b 768 (omega arith)
