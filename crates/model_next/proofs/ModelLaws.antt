-- What the code stores into bytes that are a model's, for a record that breaks no rule, is the model after the record.
-- Assumes nothing.
use Rattle.std.specs.Prelude.{None}
use Prim.Native.Nat.{ℕ, ◌+◌, ◌-◌}
use mathlib.Core.Path.{◌≡◌, refl, sym, ap, ◌∙◌}
use mathlib.Core.Bool.{Bool, true, false, cond}
use mathlib.Core.List.{List, ◌++◌}
use native.Mathlib.Omega.{arith}
use lib.Dec.{eqb}
use lib.ListN.{length, get_or}
use borrow.Author.Tests.{ltb-true}
use Rattle.num.specs.Bytes.{bytes, splice, Bytes}
use Rattle.settings.specs.declared.PacketAt.{PacketAt}
use Rattle.settings.specs.declared.DataAt.{DataAt}
use Rattle.settings.specs.declared.Settings.{Settings}
use Rattle.settings.specs.Settings.{valid}
use Rattle.settings.proofs.SettingsLaws.{bounds}
use Rattle.packet.specs.declared.RowPacket.{RowPacket}
use Rattle.packet.specs.declared.RowPacket.TheVariants.{Act, Prer, Refa, Refp}
use Rattle.packet.specs.declared.ColPacket.{ColPacket}
use Rattle.packet.specs.declared.ColPacket.TheVariants.{Nocop, Wr, Rd}
use Rattle.packet.specs.Row.{row_fits}
use Rattle.packet.specs.Col.{col_fits}
use Rattle.record.specs.declared.Dualoct.{Dualoct}
use Rattle.record.specs.declared.Record.{Record}
use Rattle.record.specs.declared.Record.TheVariants.{RowAt, ColAt, DataOf}
use Rattle.spec_rules.specs.declared.Buffer.TheVariants.{Empty}
use Rattle.spec_rules.specs.Neighbour.{context_of}
use Rattle.spec_rules.specs.Packets.{is_packet, traits, col_traits, instant}
use Rattle.spec_rules.specs.History.{is_open, leaving}
use Rattle.spec_rules.specs.Channel.{state_of, waiting_of, leaving_of, after_implied, after_data, after}
use Rattle.spec_rules.specs.Checks.{checks, judged}
use Rattle.spec_rules.proofs.Bools.{not-both, and_left}
use Rattle.spec_rules.proofs.BrokenLaws.{lowest-none}
use Rattle.spec_state.specs.ChannelBytes.{channel_bytes}
use Rattle.spec_state.specs.Form.Stores.{act_stored, refa_stored, prer_stored, rd_stored, implied_stored, data_stored}
use Rattle.spec_state.proofs.StoreLaws.{act-stored, refa-stored, rd-stored}
use Rattle.spec_state.proofs.ColLaws.{data-stored}
use Rattle.chan_view.specs.Form.Beside.{low_of, high_of}
use Rattle.state_bytes.proofs.stores.SideLaws.{prer-after, refp-after, rda-after}
use Rattle.spec_model.specs.declared.ModelState.{ModelState}
use Rattle.spec_model.specs.Store.{dualoct_bytes}
use Rattle.spec_model.specs.Model.{retired_write, refr_by, refr_next, bytes_next, second_next, model_next}
use Rattle.spec_model.specs.ModelBytes.{model_bytes, model_in, model_right}
use Rattle.model_next.specs.Form.Next.{refa_next, row_next, leaves_at, implied_next, col_next, data_next}
use Rattle.model_next.proofs.FitLaws.{act-in, wr-in, rd-in}
use Rattle.model_next.proofs.TailLaws.{tail_of, refr-put, data-put, second-put}
use Rattle.model_next.proofs.TakenLaws.{no_due, some-waits, col-late}
use Rattle.model_next.proofs.RightLaws.{Waits, none-waits, one-waits, two-wait, channel-right, sound, waits, waits-count}
use Rattle.model_next.proofs.LeftLaws.{leaving-as, tail, exact, size, write, nocop-next, wr-next}

module _ (s : Settings) (b : List ℕ) (r : model_right (context_of s) b ≡ true) (v : valid s ≡ true) (w : Bytes b) where
  abbrev m : ModelState
  m = model_in b

  no-data : (r : Record) → is_packet r ≡ true → judged (context_of s) m.channel r ≡ 0 → m.channel.due ≡ false
  no-data p q j = no_due (context_of s) m.channel (sound s b r) p j q

  pub row_next_lem : (t : PacketAt) (p : RowPacket) → row_fits s.rows p ≡ true → judged (context_of s) m.channel (RowAt t p) ≡ 0
      → row_next s b p (t.0 - 3) ≡ model_bytes (model_next (context_of s) m (RowAt t p))
  unfolding row_next refa_next model_bytes model_next refr_next refr_by bytes_next second_next row_fits is_packet
  row_next_lem t (Act x row) f j =
      ap (λ (l : List ℕ). act_stored l x row (t.0 - 3)) (exact s b r v w)
      ∙ act-stored (context_of s) m.channel (tail s b r v w) (size s b r v w) (write s b r v w) (no-data (RowAt t (Act x row)) refl j) x t.0 (act-in s.rows x row f) row
  row_next_lem t (Prer x) f j =
      ap (λ (l : List ℕ). prer_stored l x (low_of s x) (high_of s x) (t.0 - 3)) (exact s b r v w)
      ∙ prer-after s v m.channel (channel-right s b r) (tail s b r v w) (no-data (RowAt t (Prer x)) refl j) x t.0 (ltb-true x 32 f)
  row_next_lem t (Refa x) f j =
      let refr : ℕ = refr_by (context_of s) (Refa x) m.refr in
      ap (λ (l : List ℕ). splice (refa_stored l x (t.0 - 3)) 752 (bytes 2 refr)) (exact s b r v w)
      ∙ ap (λ (l : List ℕ). splice l 752 (bytes 2 refr)) (refa-stored (context_of s) m.channel (tail s b r v w) (size s b r v w) (write s b r v w) (no-data (RowAt t (Refa x)) refl j) x t.0 (ltb-true x 32 f))
      ∙ refr-put (after (context_of s) m.channel (RowAt t (Refa x))) m.refr m.bytes m.second refr
  row_next_lem t (Refp x) f j =
      ap (λ (l : List ℕ). prer_stored l x (low_of s x) (high_of s x) (t.0 - 3)) (exact s b r v w)
      ∙ refp-after s v m.channel (channel-right s b r) (tail s b r v w) (no-data (RowAt t (Refp x)) refl j) x t.0 (ltb-true x 32 f)

  -- rule 9
  read-open : (t : PacketAt) (x c mask : ℕ) → judged (context_of s) m.channel (ColAt t (Rd x c mask true)) ≡ 0 → is_open (state_of m.channel x) ≡ true
  unfolding judged checks traits col_traits leaving
  read-open t x c mask j =
      let q : Record = ColAt t (Rd x c mask true) in
      and_left (is_open (state_of m.channel x)) _ (lowest-none 0 (checks (context_of s) m.channel q) j 8)

  rd_next : (t : PacketAt) (x c mask : ℕ) (close : Bool) → col_fits s.columns (Rd x c mask close) ≡ true → judged (context_of s) m.channel (ColAt t (Rd x c mask close)) ≡ 0
      → implied_next s (rd_stored b x (t.0 - 3)) close x (t.0 - 3) ≡ channel_bytes (after (context_of s) m.channel (ColAt t (Rd x c mask close))) ++ tail s b r v w
  unfolding is_packet
  rd_next t x c mask false f j =
      let d : m.channel.due ≡ false = no-data (ColAt t (Rd x c mask false)) refl j in
      ap (λ (l : List ℕ). rd_stored l x (t.0 - 3)) (exact s b r v w)
      ∙ rd-stored (context_of s) m.channel (tail s b r v w) (size s b r v w) (write s b r v w) d x t.0 (rd-in s.columns x c mask false f) c mask
  rd_next t x c mask true f j =
      let d : m.channel.due ≡ false = no-data (ColAt t (Rd x c mask true)) refl j in
      let later : t.0 - 3 + s.offp ≡ t.0 + s.offp - 3 = omega (arith, col-late (context_of s) m.channel t (Rd x c mask true) j) in
      rw later
      (ap (λ (l : List ℕ). implied_stored (rd_stored l x (t.0 - 3)) x (t.0 + s.offp - 3)) (exact s b r v w)
      ∙ rda-after s v m.channel (channel-right s b r) (tail s b r v w) d x t.0 (rd-in s.columns x c mask true f) (read-open t x c mask j) c mask)

  rd-leaves : (t : PacketAt) (x c mask : ℕ) (close : Bool) → leaving_of (context_of s) m.channel (ColAt t (Rd x c mask close)) ≡ None
  unfolding leaving traits col_traits
  rd-leaves t x c mask close = refl

  pub col-next : (t : PacketAt) (p : ColPacket) → col_fits s.columns p ≡ true → judged (context_of s) m.channel (ColAt t p) ≡ 0
      → col_next s b p (t.0 - 3) ≡ model_bytes (model_next (context_of s) m (ColAt t p))
  unfolding col_next model_bytes model_next refr_next bytes_next second_next retired_write after after_implied is_packet traits col_traits instant context_of
  col-next t (Nocop mask) f j =
      let d : m.channel.due ≡ false = no-data (ColAt t (Nocop mask)) refl j in
      let h = leaving-as s b r (ColAt t (Nocop mask)) refl (col-late (context_of s) m.channel t (Nocop mask) j) in
      rw h (nocop-next s b r v w d t.0 (col-late (context_of s) m.channel t (Nocop mask) j) mask (leaves_at s b (t.0 - 3)) refl)
  col-next t (Wr x c mask close) f j =
      let d : m.channel.due ≡ false = no-data (ColAt t (Wr x c mask close)) refl j in
      let i = wr-in s.columns x c mask close f in
      let l = col-late (context_of s) m.channel t (Wr x c mask close) j in
      let h = leaving-as s b r (ColAt t (Wr x c mask close)) refl l in
      rw h (wr-next s b r v w d t.0 l x c mask close i.0 (omega (arith, (bounds s v).columns-most)) j (leaves_at s b (t.0 - 3)) refl h)
  col-next t (Rd x c mask close) f j = rd_next t x c mask close f j ∙ sym (ends t x c mask close)
    where
      ends : (t : PacketAt) (x c mask : ℕ) (close : Bool) → model_bytes (model_next (context_of s) m (ColAt t (Rd x c mask close))) ≡ channel_bytes (after (context_of s) m.channel (ColAt t (Rd x c mask close))) ++ tail s b r v w
      ends t x c mask close = rw (rd-leaves t x c mask close)

  -- D comes
  data-come : data_stored b (get_or b 728 0) ≡ channel_bytes (after_data m.channel) ++ tail s b r v w
  data-come =
      ap (λ (n : ℕ). data_stored b n) (sym (waits-count s b r))
      ∙ ap (λ (l : List ℕ). data_stored l (length (waiting_of m.channel.buffer))) (exact s b r v w)
      ∙ data-stored m.channel (tail s b r v w) (write s b r v w)

  pub data-next : (t : DataAt) (d : Dualoct) → judged (context_of s) m.channel (DataOf t d) ≡ 0 → data_next b d ≡ model_bytes (model_next (context_of s) m (DataOf t d))
  unfolding data_next model_bytes model_next refr_next bytes_next second_next is_packet after waiting_of
  data-next t d j =
      ap (λ (l : List ℕ). splice l (cond (eqb (get_or b 728 0) 2) 776 760) (dualoct_bytes d)) data-come ∙ go (waits s b r)
    where
      go : Waits b m.channel.buffer
          → splice (channel_bytes (after_data m.channel) ++ tail s b r v w) (cond (eqb (get_or b 728 0) 2) 776 760) (dualoct_bytes d) ≡ model_bytes (model_next (context_of s) m (DataOf t d))
      go (none-waits e z) = not-both false (some-waits (context_of s) m.channel (sound s b r) (DataOf t d) j refl Empty z) refl
      go (one-waits e z) = rw (e, z) (data-put (after_data m.channel) m.refr m.bytes m.second d)
      go (two-wait e z) = rw (e, z) (second-put (after_data m.channel) m.refr m.bytes m.second d)
