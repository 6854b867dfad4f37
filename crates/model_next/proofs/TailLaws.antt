-- The model's own numbers stored: REFR, and the data of the waiting writes.
-- Assumes nothing.
use Prim.Native.Nat.{ℕ, ◌+◌}
use mathlib.Core.Path.{◌≡◌, sym, ap, ◌∙◌}
use mathlib.Core.List.{List, ◌++◌, append_assoc}
use native.Mathlib.Omega.{arith}
use lib.ListN.{length, length-append}
use Rattle.num.specs.Bytes.{bytes, splice, zeros}
use Rattle.num.proofs.ByteLaws.{length-bytes}
use Rattle.num.proofs.SpliceLaws.{splice-left, splice-right, splice-whole, length-zeros}
use Rattle.record.specs.declared.Dualoct.{Dualoct}
use Rattle.spec_rules.specs.declared.Channel.{Channel}
use Rattle.spec_state.specs.ChannelBytes.{channel_bytes}
use Rattle.spec_state.proofs.Lengths.{channel-length}
use Rattle.spec_model.specs.Store.{dualoct_bytes}

-- bytes stored where as many stand
over : (xs vs q : List ℕ) → length vs ≡ length xs → splice (xs ++ q) 0 vs ≡ vs ++ q
over xs vs q e = splice-left xs q 0 vs (omega arith) ∙ ap (λ (l : List ℕ). l ++ q) (splice-whole xs vs e)

past : (xs q : List ℕ) (k at : ℕ) (vs ws : List ℕ) → length xs ≡ k → splice q at vs ≡ ws → splice (xs ++ q) (k + at) vs ≡ xs ++ ws
past xs q k at vs ws e h = splice-right xs q k at vs e ∙ ap (λ (l : List ℕ). xs ++ l) h

-- the bytes of a model after the channel's
abbrev pub tail_of : ℕ → Dualoct → Dualoct → List ℕ
tail_of refr d e = bytes 2 refr ++ (zeros 6 ++ (bytes 8 d.dqa ++ (bytes 8 d.dqb ++ (bytes 8 e.dqa ++ bytes 8 e.dqb))))

module _ (ch : Channel) (refr : ℕ) (d e : Dualoct) where
  pub refr-put : (v : ℕ) → splice (channel_bytes ch ++ tail_of refr d e) 752 (bytes 2 v) ≡ channel_bytes ch ++ tail_of v d e
  refr-put v = past (channel_bytes ch) _ 752 0 (bytes 2 v) _ (channel-length ch) (over (bytes 2 refr) (bytes 2 v) _ (length-bytes 2 v ∙ sym (length-bytes 2 refr)))

  -- what is put after REFR
  after-refr : (at : ℕ) (vs ws : List ℕ) → splice (bytes 8 d.dqa ++ (bytes 8 d.dqb ++ (bytes 8 e.dqa ++ bytes 8 e.dqb))) at vs ≡ ws
      → splice (channel_bytes ch ++ tail_of refr d e) (752 + (2 + (6 + at))) vs ≡ channel_bytes ch ++ (bytes 2 refr ++ (zeros 6 ++ ws))
  after-refr at vs ws h =
      past (channel_bytes ch) _ 752 (2 + (6 + at)) vs _ (channel-length ch)
      (past (bytes 2 refr) _ 2 (6 + at) vs _ (length-bytes 2 refr) (past (zeros 6) _ 6 at vs ws (length-zeros 6) h))

  -- a dualoct over another
  over-dualoct : (x y : Dualoct) (q : List ℕ) → splice (bytes 8 x.dqa ++ (bytes 8 x.dqb ++ q)) 0 (dualoct_bytes y) ≡ bytes 8 y.dqa ++ (bytes 8 y.dqb ++ q)
  unfolding dualoct_bytes
  over-dualoct x y q =
      let old : List ℕ = bytes 8 x.dqa ++ bytes 8 x.dqb in
      let new : List ℕ = bytes 8 y.dqa ++ bytes 8 y.dqb in
      let same : length new ≡ length old = simp (length-append, length-bytes) in
      ap (λ (l : List ℕ). splice l 0 new) (sym (append_assoc (bytes 8 x.dqa) (bytes 8 x.dqb) q))
      ∙ over old new q same ∙ append_assoc (bytes 8 y.dqa) (bytes 8 y.dqb) q

  pub data-put : (y : Dualoct) → splice (channel_bytes ch ++ tail_of refr d e) 760 (dualoct_bytes y) ≡ channel_bytes ch ++ tail_of refr y e
  data-put y = after-refr 0 (dualoct_bytes y) _ (over-dualoct d y (bytes 8 e.dqa ++ bytes 8 e.dqb))

  pub second-put : (y : Dualoct) → splice (channel_bytes ch ++ tail_of refr d e) 776 (dualoct_bytes y) ≡ channel_bytes ch ++ tail_of refr d y
  unfolding dualoct_bytes
  second-put y =
      let new : List ℕ = bytes 8 y.dqa ++ bytes 8 y.dqb in
      let old : List ℕ = bytes 8 e.dqa ++ bytes 8 e.dqb in
      let same : length new ≡ length old = simp (length-append, length-bytes) in
      after-refr 16 new _
      (past (bytes 8 d.dqa) _ 8 8 new _ (length-bytes 8 d.dqa) (past (bytes 8 d.dqb) _ 8 0 new _ (length-bytes 8 d.dqb) (splice-whole old new same)))
