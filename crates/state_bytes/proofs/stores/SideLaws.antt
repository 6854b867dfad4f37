-- The banks on the two sides of a bank are its neighbours: what is stored for a PRER is the state after it. Those of an open bank are
-- closed: so is what is stored for a PRER that an RDA or the retire of a WRA implies.
-- Assumes nothing.
use Rattle.std.specs.Prelude.{Some}
use Prim.Native.Nat.{ℕ, ◌+◌, ◌-◌, ◌^◌, ◌<◌}
use mathlib.Core.Path.{◌≡◌}
use mathlib.Core.Bool.{true, false, ◌&&◌, ◌||◌}
use mathlib.Core.List.{List, ◌∷◌, ◌++◌}
use mathlib.Core.Logic.{⊎_elim}
use native.Mathlib.Omega.{arith}
use borrow.Author.Tests.{eq-eqb, eqb-true, ltb-true}
use lib.Dec.{eqb, ltb}
use lib.ListN.{length}
use Rattle.settings.specs.declared.Settings.{Settings}
use Rattle.settings.specs.Settings.{valid}
use Rattle.settings.proofs.SettingsLaws.{bounds}
use Rattle.packet.specs.declared.RowPacket.TheVariants.{Prer, Refp}
use Rattle.packet.specs.declared.ColPacket.TheVariants.{Rd}
use Rattle.record.specs.declared.Record.TheVariants.{RowAt, ColAt}
use Rattle.spec_rules.specs.declared.Write.{Write}
use Rattle.spec_rules.specs.declared.Buffer.{Buffer}
use Rattle.spec_rules.specs.declared.Buffer.TheVariants.{Empty, One, Two}
use Rattle.spec_rules.specs.declared.Channel.{Channel}
use Rattle.spec_rules.specs.Neighbour.{bank_count, context_of, near}
use Rattle.spec_rules.specs.History.{is_open, rest, all_writes}
use Rattle.spec_rules.specs.Channel.{state_of, waiting_of, after_retire, after_implied, after}
use Rattle.spec_rules.proofs.Bools.{iff-eq, and_left, and_right}
use Rattle.spec_state.specs.Valid.{write_valid, channel_valid}
use Rattle.spec_state.specs.ChannelBytes.{bank_tag, channel_bytes}
use Rattle.spec_state.specs.Form.Stores.{prer_stored, implied_stored, rd_stored, retire_stored, shift_stored}
use Rattle.spec_state.proofs.NextValid.{Sound, valid-sound, open-not-closed}
use Rattle.spec_state.proofs.StoreLaws.{ByBytes, WriteIn, SidesClosed, sides-closed}
use Rattle.spec_state.proofs.CloseLaws.{tag_fits, prer-all-stored, refp-all-stored}
use Rattle.spec_state.proofs.ImpliedLaws.{rda-stored, closing-stored}
use Rattle.chan_view.specs.Form.Beside.{low_of, high_of}
use Rattle.chan_view.proofs.NearLaws.{Beside, own, low, high, or_cases, or_left, or_right, near-beside, near-own, near-low, near-high}

pub sides : (s : Settings) (x y : ℕ) → y < 32 → (eqb y x || eqb y (low_of s x)) || eqb y (high_of s x) ≡ near (context_of s) x y
sides s x y l = iff-eq _ _ near-side (λ h. side-near (near-beside s x y h))
  where
    near-side : (eqb y x || eqb y (low_of s x)) || eqb y (high_of s x) ≡ true → near (context_of s) x y ≡ true
    near-side h =
        ⊎_elim
        (λ p. ⊎_elim (λ e. rw (eqb-true y x e) (near-own s x)) (λ e. let q = eqb-true y (low_of s x) e in rw q (near-low s x (rw q at l))) (or_cases (eqb y x) (eqb y (low_of s x)) p))
        (λ e. let q = eqb-true y (high_of s x) e in rw q (near-high s x (rw q at l)))
        (or_cases (eqb y x || eqb y (low_of s x)) (eqb y (high_of s x)) h)

    side-near : Beside s x y → (eqb y x || eqb y (low_of s x)) || eqb y (high_of s x) ≡ true
    side-near (own e) = rw (eq-eqb y x e)
    side-near (low e) = or_left _ (eqb y (high_of s x)) (or_right (eqb y x) (eqb y (low_of s x)) (eq-eqb y (low_of s x) e))
    side-near (high e) = or_right (eqb y x || eqb y (low_of s x)) (eqb y (high_of s x)) (eq-eqb y (high_of s x) e)

-- ---- a state that is not refused, where no data are due

module _ (s : Settings) (v : valid s ≡ true) (ch : Channel) (k : channel_valid (context_of s) ch ≡ true) where
  sound : Sound (context_of s) ch
  sound = valid-sound (context_of s) ch k

  -- a waiting write has its bank and column in a byte each
  each : (w : Write) → write_valid (context_of s) w ≡ true → ByBytes w
  unfolding write_valid context_of bank_count
  each w p =
      let bank = ltb-true w.bank 32 (and_left (ltb w.bank 32) _ p) in
      let column = ltb-true w.column s.columns (and_left (ltb w.column s.columns) _ (and_right (ltb w.bank 32) _ p)) in
      (omega arith, omega (arith, (bounds s v).columns-most))

  pub write-in : WriteIn ch.buffer
  unfolding context_of bank_count waiting_of
  write-in = go ch.buffer sound.write
    where
      go : (b : Buffer) → all_writes (write_valid (context_of s)) (waiting_of b) ≡ true → WriteIn b
      go Empty h = tt
      go (One x) h = each x (and_left (write_valid (context_of s) x) true h)
      go (Two x y) h =
          let p = write_valid (context_of s) x in
          let q = write_valid (context_of s) y in
          (each x (and_left p (q && true) h), each y (and_left q true (and_right p (q && true) h)))

  tags-in : (y : ℕ) → y < 32 → bank_tag (state_of ch y) < 256 ^ 2
  unfolding context_of bank_count
  tags-in y l = tag_fits (context_of s) (state_of ch y) (bounds s v).rows-most (sound.rows_in y l)

  size : length ch.banks ≡ 32
  unfolding bank_count
  size = sound.size

  open-sides : (x : ℕ) → x < 32 → is_open (state_of ch x) ≡ true → SidesClosed (context_of s) ch x
  unfolding bank_count
  open-sides x l o = sides-closed (context_of s) ch x (λ y m n. sound.one-closed x y l m n) (open-not-closed (state_of ch x) o)

  module _ (q : List ℕ) (d : ch.due ≡ false) (x t : ℕ) (l : x < 32) where
    pub prer-after : prer_stored (channel_bytes ch ++ q) x (low_of s x) (high_of s x) (t - 3) ≡ channel_bytes (after (context_of s) ch (RowAt (record { 0 = t }) (Prer x))) ++ q
    prer-after = prer-all-stored (context_of s) ch q size write-in d x t l (low_of s x) (high_of s x) (sides s x) tags-in

    pub refp-after : prer_stored (channel_bytes ch ++ q) x (low_of s x) (high_of s x) (t - 3) ≡ channel_bytes (after (context_of s) ch (RowAt (record { 0 = t }) (Refp x))) ++ q
    refp-after = refp-all-stored (context_of s) ch q size write-in d x t l (low_of s x) (high_of s x) (sides s x) tags-in

    pub rda-after : is_open (state_of ch x) ≡ true → (c m : ℕ)
        → implied_stored (rd_stored (channel_bytes ch ++ q) x (t - 3)) x (t + s.offp - 3) ≡ channel_bytes (after (context_of s) ch (ColAt (record { 0 = t }) (Rd x c m true))) ++ q
    unfolding context_of
    rda-after o c m = rda-stored (context_of s) ch q size write-in d x t l c m (open-sides x l o)

  -- the older write w has left, which is a WRA
  pub closing-left : (q : List ℕ) → ch.due ≡ false → (w : Write) (ws : List Write) (t : ℕ) → waiting_of ch.buffer ≡ w ∷ ws
      → implied_stored (shift_stored (retire_stored (channel_bytes ch ++ q) w.bank (t - 3)) (length ws)) w.bank (t + s.offp - 3)
      ≡ channel_bytes (after_implied (context_of s) (t + s.offp) (Some w.bank) (after_retire t (Some w) ch)) ++ q
  unfolding context_of bank_count write_valid
  closing-left q d w ws t z =
      let l : w.bank < 32 = ltb-true w.bank 32 (and_left (ltb w.bank 32) _ (and_left (write_valid (context_of s) w) _ (rw z at sound.write))) in
      let o : is_open (state_of ch w.bank) ≡ true = and_left (is_open (state_of ch w.bank)) _ (rw z at sound.opened) in
      let k : length (rest (waiting_of ch.buffer)) ≡ length ws = rw z in
      rw (← k) (closing-stored (context_of s) ch q size write-in d w t l (open-sides w.bank l o))
