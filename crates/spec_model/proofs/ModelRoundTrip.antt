-- A model state that is not refused is read back from its bytes, and bytes that are not refused are what is written of their
-- state.
-- Assumes nothing.
use Prim.Native.Nat.{ℕ, ◌+◌, ◌-◌, ◌^◌, ◌<◌}
use mathlib.Core.Path.{◌≡◌, ◌∙◌}
use mathlib.Core.Bool.{true, ◌&&◌}
use mathlib.Core.List.{List, ◌++◌}
use lib.Dec.{eqb}
use lib.ListN.{length, length-append}
use borrow.Author.Tests.{ltb-true, eqb-true}
use native.Mathlib.Omega.{arith}
use Rattle.num.specs.Bytes.{bytes, part, zeros, Bytes}
use Rattle.num.proofs.ByteLaws.{length-bytes, number-bytes}
use Rattle.num.proofs.PartLaws.{part-all, bytes-part, Bytes-append, Bytes-bytes, Bytes-zeros}
use Rattle.num.proofs.SpliceLaws.{length-zeros}
use Rattle.settings.specs.Settings.{valid}
use Rattle.settings.proofs.SettingsLaws.{bounds}
use Rattle.record.specs.declared.Dualoct.{Dualoct}
use Rattle.spec_rules.specs.Neighbour.{Context}
use Rattle.spec_rules.proofs.Bools.{and_left, and_right}
use Rattle.spec_state.specs.Valid.{channel_valid}
use Rattle.spec_state.specs.ChannelBytes.{channel_bytes, channel_in, zero_part, channel_spare}
use Rattle.spec_state.proofs.PlaneLaws.{part-split, part-both}
use Rattle.spec_state.proofs.Lengths.{channel-length, channel-bytes}
use Rattle.spec_state.proofs.RoundTrip.{zero-back, zero_in, channel-decode-encode, channel-encode-decode}
use Rattle.spec_model.specs.declared.ModelState.{ModelState}
use Rattle.spec_model.specs.Model.{model_valid}
use Rattle.spec_model.specs.ModelBytes.{model_length, model_bytes, model_in, model_right}

pub model-length : (m : ModelState) → length (model_bytes m) ≡ 792
unfolding model_bytes
model-length m = simp (length-append, channel-length, length-bytes)

pub model-bytes : (m : ModelState) → Bytes (model_bytes m)
unfolding model_bytes
model-bytes m =
    let newer : List ℕ = bytes 8 m.second.dqa ++ bytes 8 m.second.dqb in
    let rest : List ℕ = bytes 8 m.bytes.dqa ++ (bytes 8 m.bytes.dqb ++ newer) in
    Bytes-append (channel_bytes m.channel) (bytes 2 m.refr ++ (zeros 6 ++ rest)) (channel-bytes m.channel)
    (Bytes-append (bytes 2 m.refr) (zeros 6 ++ rest) (Bytes-bytes 2 m.refr)
    (Bytes-append (zeros 6) rest (Bytes-zeros 6)
    (Bytes-append (bytes 8 m.bytes.dqa) (bytes 8 m.bytes.dqb ++ newer) (Bytes-bytes 8 m.bytes.dqa)
    (Bytes-append (bytes 8 m.bytes.dqb) newer (Bytes-bytes 8 m.bytes.dqb)
    (Bytes-append (bytes 8 m.second.dqa) (bytes 8 m.second.dqb) (Bytes-bytes 8 m.second.dqa) (Bytes-bytes 8 m.second.dqb))))))

-- ---- written, then read

-- the parts of the bytes
record Parts (b : List ℕ) (m : ModelState) : Type 0 where
  channel : part b 0 752 ≡ channel_bytes m.channel
  refr : part b 752 2 ≡ bytes 2 m.refr
  after-refr : part b 754 6 ≡ zeros 6
  dqa : part b 760 8 ≡ bytes 8 m.bytes.dqa
  dqb : part b 768 8 ≡ bytes 8 m.bytes.dqb
  second-dqa : part b 776 8 ≡ bytes 8 m.second.dqa
  second-dqb : part b 784 8 ≡ bytes 8 m.second.dqb

parts : (m : ModelState) → Parts (model_bytes m) m
unfolding model_bytes
parts m =
    let b : List ℕ = model_bytes m in
    let p0 = part-split b 0 752 40 _ _ (channel-length m.channel) (part-all b 792 (rw model-length (omega arith))) in
    let p1 = part-split b 752 2 38 _ _ (length-bytes 2 m.refr) p0.1 in
    let p2 = part-split b 754 6 32 _ _ (length-zeros 6) p1.1 in
    let p3 = part-split b 760 8 24 _ _ (length-bytes 8 m.bytes.dqa) p2.1 in
    let p4 = part-split b 768 8 16 _ _ (length-bytes 8 m.bytes.dqb) p3.1 in
    let p5 = part-split b 776 8 8 _ _ (length-bytes 8 m.second.dqa) p4.1 in
    record { channel = p0.0; refr = p1.0; after-refr = p2.0; dqa = p3.0; dqb = p4.0; second-dqa = p5.0; second-dqb = p5.1 }

-- the data are two numbers of 64 bits
abbrev pub DataFits : Dualoct → Type 0
DataFits d = (d.dqa < 2 ^ 64) × (d.dqb < 2 ^ 64)

abbrev pub HeldFits : ModelState → Type 0
HeldFits m = (DataFits m.bytes) × (DataFits m.second)

module _ (cx : Context) (v : valid cx.settings ≡ true) (m : ModelState) (k : model_valid cx m ≡ true) (fits : HeldFits m) where
  channel-back : (channel_in (model_bytes m) ≡ m.channel) × (channel_spare (model_bytes m) ≡ true)
  unfolding model_valid
  channel-back =
      channel-decode-encode cx m.channel (model_bytes m) v (and_left (channel_valid cx m.channel) _ k) (rw model-length (omega arith)) (parts m).channel

  pub model-decode-encode : model_in (model_bytes m) ≡ m
  unfolding model_in model_valid
  model-decode-encode =
      let q : Parts (model_bytes m) m = parts m in
      let below = ltb-true m.refr cx.settings.rows (and_right (channel_valid cx m.channel) _ k) in
      let refr : m.refr < 256 ^ 2 = omega (arith, (bounds cx.settings v).rows-most, below) in
      rw (
        channel-back.0,
        q.refr,
        number-bytes 2 m.refr refr,
        q.dqa,
        number-bytes 8 m.bytes.dqa fits.0.0,
        q.dqb,
        number-bytes 8 m.bytes.dqb fits.0.1,
        q.second-dqa,
        number-bytes 8 m.second.dqa fits.1.0,
        q.second-dqb,
        number-bytes 8 m.second.dqb fits.1.1,
      )

  pub model-right : model_right cx (model_bytes m) ≡ true
  unfolding model_right model_length
  model-right =
      let q : Parts (model_bytes m) m = parts m in
      rw (model-length m, channel-back.1, zero-back (model_bytes m) 754 6 q.after-refr, model-decode-encode, k)

-- ---- read, then written

pub model-encode-decode : (cx : Context) (b : List ℕ) → Bytes b → model_right cx b ≡ true → model_bytes (model_in b) ≡ b
unfolding model_bytes model_in model_right model_length
model-encode-decode cx b w r =
    let n : length b ≡ 792 = eqb-true _ _ (and_left (eqb (length b) 792) _ r) in
    let spare = and_left (channel_spare b && zero_part b 754 6) _ (and_right (eqb (length b) 792) _ r) in
    let zero = and_right (channel_spare b) _ spare in
    part-both b 0 752 40 _ _ (channel-encode-decode b w (omega arith) (and_left (channel_spare b) _ spare))
    (part-both b 752 2 38 _ _ (bytes-part b 752 2 w (omega arith))
    (part-both b 754 6 32 _ _ (zero_in b 754 6 w (omega arith) zero)
    (part-both b 760 8 24 _ _ (bytes-part b 760 8 w (omega arith))
    (part-both b 768 8 16 _ _ (bytes-part b 768 8 w (omega arith))
    (part-both b 776 8 8 _ _ (bytes-part b 776 8 w (omega arith)) (bytes-part b 784 8 w (omega arith)))))))
    ∙ part-all b 792 (omega arith)
