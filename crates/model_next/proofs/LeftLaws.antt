-- What is stored for NOCOP and WR, by whether the older write leaves and how many wait.
-- Assumes nothing.
use Rattle.std.specs.Prelude.{Option, None, Some}
use Prim.Native.Nat.{ℕ, ◌+◌, ◌-◌, ◌<◌, ◌≤◌}
use mathlib.Core.Path.{◌≡◌, refl, sym, subst, ap, ◌∙◌}
use mathlib.Core.Bool.{Bool, true, false, not, ◌&&◌, ◌||◌, cond}
use mathlib.Core.List.{List, [], ◌∷◌, ◌++◌}
use native.Mathlib.Omega.{arith}
use lib.Dec.{eqb, leb}
use lib.ListN.{length, get_or}
use borrow.Author.Tests.{eqb-false, leb-true, le-leb}
use Rattle.num.specs.Bytes.{bytes, number, part, splice, Bytes}
use Rattle.settings.specs.declared.Settings.{Settings}
use Rattle.settings.specs.Instants.{is_instant}
use Rattle.settings.specs.Settings.{valid}
use Rattle.packet.specs.declared.ColPacket.TheVariants.{Nocop, Wr}
use Rattle.record.specs.declared.Dualoct.{Dualoct}
use Rattle.record.specs.declared.Record.{Record}
use Rattle.record.specs.declared.Record.TheVariants.{ColAt}
use Rattle.spec_rules.specs.declared.Write.{Write}
use Rattle.spec_rules.specs.declared.Buffer.TheVariants.{Empty, One, Two}
use Rattle.spec_rules.specs.declared.Channel.{Channel}
use Rattle.spec_rules.specs.Neighbour.{bank_count, Context, context_of}
use Rattle.spec_rules.specs.Packets.{traits, col_traits, instant}
use Rattle.spec_rules.specs.History.{only_write, bank_of, has, only, rest, retire_implies}
use Rattle.spec_rules.specs.Rules.{stays}
use Rattle.spec_rules.specs.Channel.{waiting_of, buffer_of, leaving_of, after_packet, after_retire, after_implied}
use Rattle.spec_rules.specs.Checks.{checks, judged}
use Rattle.spec_rules.proofs.Bools.{iff-eq, not-both, not-passes, and_left}
use Rattle.spec_rules.proofs.BrokenLaws.{lowest-none}
use Rattle.spec_rules.proofs.LeavingLaws.{leaving-first, leaving-none}
use Rattle.spec_state.specs.ChannelBytes.{instant_of, channel_bytes, write_in}
use Rattle.spec_state.specs.Form.Stores.{col_stored, retire_stored, shift_stored, write_stored, beside_stored, implied_stored}
use Rattle.spec_state.proofs.EachInstant.{WritesAll}
use Rattle.spec_state.proofs.Stamps.{IsInstant}
use Rattle.spec_state.proofs.StoreLaws.{WriteIn}
use Rattle.spec_state.proofs.ColLaws.{shift-stored, gone-size, gone-due, gone-in, nocop-stored, wr-stored, beside-stored}
use Rattle.spec_state.proofs.ImpliedLaws.{closing-size, closing-in, closing-due}
use Rattle.state_bytes.proofs.NumberLaws.{instant-stored}
use Rattle.state_bytes.proofs.stores.SideLaws.{write-in, closing-left}
use Rattle.spec_model.specs.declared.ModelState.{ModelState}
use Rattle.spec_model.specs.Store.{dualoct_bytes}
use Rattle.spec_model.specs.Model.{bytes_left}
use Rattle.spec_model.specs.ModelBytes.{model_bytes, model_in, model_right}
use Rattle.spec_model.proofs.ModelRoundTrip.{model-encode-decode}
use Rattle.model_next.specs.Form.Next.{leaves_at, moved_up, implied_next, closes_in, out_next, left_next, left_count, join_next}
use Rattle.model_next.proofs.TailLaws.{tail_of, data-put}
use Rattle.model_next.proofs.RightLaws.{Waits, none-waits, one-waits, two-wait, channel-right, sound, waits, rest-count, bank-in}

-- an instant in range is stored less 3
stored_at : (v : ℕ) → is_instant (instant_of v) ≡ true → instant_of v ≡ v + 3
stored_at v h = go (eqb v 0) refl
  where
    go : (q : Bool) → eqb v 0 ≡ q → cond q 0 (v + 3) ≡ v + 3
    go true e = not-both (is_instant (instant_of v)) h (instant-stored v ∙ rw e)
    go false e = refl

implied-buffer : (cx : Context) (u : ℕ) (o : Option ℕ) (ch : Channel) → (after_implied cx u o ch).buffer ≡ ch.buffer
unfolding after_implied
implied-buffer cx u None ch = refl
implied-buffer cx u (Some b) ch = refl

passed-stored : (v k t : ℕ) → 4 ≤ t → leb (v + 3 + k) t ≡ leb (v + k) (t - 3)
passed-stored v k t l =
    iff-eq (leb (v + 3 + k) t) (leb (v + k) (t - 3))
    (λ h. le-leb (v + k) (t - 3) (omega (arith, leb-true (v + 3 + k) t h)))
    (λ h. le-leb (v + 3 + k) t (omega (arith, leb-true (v + k) (t - 3) h)))

module _ (s : Settings) (b : List ℕ) (r : model_right (context_of s) b ≡ true) where
  abbrev m : ModelState
  m = model_in b

  abbrev older : Write
  older = write_in b 736

  -- ---- what leaves

  module _ (p : Record) (n : (traits p).not_read ≡ true) (l : 4 ≤ instant p) where
    first-leaves : (ws : List Write) → waiting_of m.channel.buffer ≡ older ∷ ws → WritesAll IsInstant (older ∷ ws) → not (eqb (get_or b 728 0) 0) ≡ true
        → leaving_of (context_of s) m.channel p ≡ only_write (leaves_at s b (instant p - 3)) (Some older)
    unfolding leaves_at context_of
    first-leaves ws z h q =
        let v : ℕ = number (part b 740 4) in
        leaving-first (context_of s) m.channel p older ws z n ∙ rw (q, stored_at v h.0, passed-stored v s.rtr (instant p) l)

    pub leaving-as : leaving_of (context_of s) m.channel p ≡ only_write (leaves_at s b (instant p - 3)) (Some older)
    unfolding leaves_at waiting_of
    leaving-as = go (waits s b r)
      where
        go : Waits b m.channel.buffer → leaving_of (context_of s) m.channel p ≡ only_write (leaves_at s b (instant p - 3)) (Some older)
        go (none-waits e z) = leaving-none (context_of s) m.channel p z ∙ rw e
        go (one-waits e z) = first-leaves [] (rw z) (rw z at (sound s b r).stamped.writes) (rw e)
        go (two-wait e z) = first-leaves (write_in b 744 ∷ []) (rw z) (rw z at (sound s b r).stamped.writes) (rw e)

  -- ---- the bytes once it has left, if it leaves

  module _ (v : valid s ≡ true) (w : Bytes b) where
    abbrev pub tail : List ℕ
    tail = tail_of m.refr m.bytes m.second

    -- the bytes are those of the state that they say
    pub exact : b ≡ channel_bytes m.channel ++ tail
    unfolding model_bytes
    exact = sym (model-encode-decode (context_of s) b w r)

    pub size : length m.channel.banks ≡ 32
    unfolding bank_count
    size = (sound s b r).size

    pub write : WriteIn m.channel.buffer
    write = write-in s v m.channel (channel-right s b r)

    module _ (d : m.channel.due ≡ false) (t : ℕ) where
      -- the state and the older write's data, where it leaves or not
      abbrev went : Bool → Channel
      went k = after_implied (context_of s) (t + s.offp) (retire_implies (only_write k (Some older))) (after_retire t (only_write k (Some older)) m.channel)

      abbrev end : Bool → List ℕ
      end k = tail_of m.refr (bytes_left (only_write k (Some older)) m.bytes m.second) m.second

      record Is (c : Channel) (q : List ℕ) : Type 0 where
        stored : left_next s b (t - 3) ≡ channel_bytes c ++ q
        banks : length c.banks ≡ 32
        held : WriteIn c.buffer
        none-due : c.due ≡ false

      abbrev Gone : Bool → Type 0
      Gone k = Is (went k) (end k)

      stays-gone : leaves_at s b (t - 3) ≡ false → Gone false
      unfolding left_next after_retire after_implied
      stays-gone e = record { stored = rw e exact; banks = size; held = write; none-due = d }

      -- the retire alone
      abbrev retired : Channel
      retired = after_retire t (Some older) m.channel

      older-waits : leaves_at s b (t - 3) ≡ true → eqb (get_or b 728 0) 0 ≡ false
      unfolding leaves_at
      older-waits e = not-passes (not (eqb (get_or b 728 0) 0)) (eqb (get_or b 728 0) 0) refl (and_left (not (eqb (get_or b 728 0) 0)) _ e)

      moved_up_lem : leaves_at s b (t - 3) ≡ true → moved_up b (t - 3) ≡ channel_bytes retired ++ end true
      unfolding moved_up
      moved_up_lem e =
          let bank = bank-in s b r (older-waits e) in
          ap (λ (l : List ℕ). splice (shift_stored (retire_stored l (get_or b 736 0) (t - 3)) (get_or b 728 0 - 1)) 760 (dualoct_bytes m.second)) exact
          ∙ ap (λ (n : ℕ). splice (shift_stored (retire_stored (channel_bytes m.channel ++ tail) (get_or b 736 0) (t - 3)) n) 760 (dualoct_bytes m.second)) (sym (rest-count s b r))
          ∙ ap (λ (l : List ℕ). splice l 760 (dualoct_bytes m.second)) (shift-stored m.channel tail size write d older t bank)
          ∙ data-put retired m.refr m.bytes m.second m.second

      -- and the PRER that it implies, where the write is a WRA
      older-closed : leaves_at s b (t - 3) ≡ true
          → implied_stored (channel_bytes retired ++ end true) (get_or b 736 0) (t + s.offp - 3) ≡ channel_bytes (after_implied (context_of s) (t + s.offp) (Some older.bank) retired) ++ end true
      unfolding waiting_of
      older-closed e = go (waits s b r)
        where
          by : (ws : List Write) → waiting_of m.channel.buffer ≡ older ∷ ws
              → implied_stored (channel_bytes retired ++ end true) (get_or b 736 0) (t + s.offp - 3) ≡ channel_bytes (after_implied (context_of s) (t + s.offp) (Some older.bank) retired) ++ end true
          by ws z =
              let k : length (rest (waiting_of m.channel.buffer)) ≡ length ws = rw z in
              ap (λ (l : List ℕ). implied_stored l (get_or b 736 0) (t + s.offp - 3)) (sym (shift-stored m.channel (end true) size write d older t (bank-in s b r (older-waits e))))
              ∙ rw k (closing-left s v m.channel (channel-right s b r) (end true) d older ws t z)

          go : Waits b m.channel.buffer
              → implied_stored (channel_bytes retired ++ end true) (get_or b 736 0) (t + s.offp - 3) ≡ channel_bytes (after_implied (context_of s) (t + s.offp) (Some older.bank) retired) ++ end true
          go (none-waits n z) = absurd (eqb-false (get_or b 728 0) 0 (older-waits e) n)
          go (one-waits n z) = by [] (rw z)
          go (two-wait n z) = by (write_in b 744 ∷ []) (rw z)

      leaves-gone : 4 ≤ t → leaves_at s b (t - 3) ≡ true → Gone true
      unfolding left_next after_implied context_of
      leaves-gone l e = go (closes_in b) refl
        where
          bank : get_or b 736 0 < 32
          bank = bank-in s b r (older-waits e)

          later : t - 3 + s.offp ≡ t + s.offp - 3
          later = omega (arith, l)

          -- by whether the write closes its bank
          By : Bool → Type 0
          By c = Is (after_implied (context_of s) (t + s.offp) (only c (Some (get_or b 736 0))) retired) (end true)

          by-close : {c : Bool} → closes_in b ≡ c → out_next s b (t - 3) ≡ implied_next s (moved_up b (t - 3)) c (get_or b 736 0) (t - 3)
          by-close q = ap (λ (z : Bool). implied_next s (moved_up b (t - 3)) z (get_or b 736 0) (t - 3)) q

          go : (c : Bool) → closes_in b ≡ c → Gone true
          go false q =
              subst By (sym q)
              (record {
                stored = rw e (by-close q ∙ moved_up_lem e);
                banks = gone-size m.channel tail size write d older t bank;
                held = gone-in m.channel tail size write d older t bank;
                none-due = gone-due m.channel tail size write d older t bank;
              })
          go true q =
              subst By (sym q)
              (record {
                stored = rw e (by-close q ∙ ap (λ (l : List ℕ). implied_stored l (get_or b 736 0) (t - 3 + s.offp)) (moved_up_lem e) ∙ rw later (older-closed e));
                banks = closing-size (context_of s) m.channel tail size write d older t bank;
                held = closing-in (context_of s) m.channel tail size write d older t bank;
                none-due = closing-due (context_of s) m.channel tail size write d older t bank;
              })

      gone : 4 ≤ t → (k : Bool) → leaves_at s b (t - 3) ≡ k → Gone k
      gone l true e = leaves-gone l e
      gone l false e = stays-gone e

      -- ---- NOCOP, then WR

      pub nocop-next : 4 ≤ t → (mask : ℕ) (k : Bool) → leaves_at s b (t - 3) ≡ k
          → col_stored (left_next s b (t - 3)) (t - 3) ≡ channel_bytes (after_packet (context_of s) (went k) (ColAt (record { 0 = t }) (Nocop mask))) ++ end k
      nocop-next l mask k e =
          let g = gone l k e in
          ap (λ (l : List ℕ). col_stored l (t - 3)) g.stored ∙ nocop-stored (context_of s) (went k) (end k) g.banks g.held g.none-due t mask

      module _ (l : 4 ≤ t) (x c mask : ℕ) (close : Bool) (lx : x < 32) (lc : c < 256) where
        abbrev wr : Record
        wr = ColAt (record { 0 = t }) (Wr x c mask close)

        alone : (k : Bool) → leaves_at s b (t - 3) ≡ k → eqb (left_count s b (t - 3)) 0 ≡ true → (went k).buffer ≡ Empty
            → col_stored (join_next s b x c close (t - 3)) (t - 3) ≡ channel_bytes (after_packet (context_of s) (went k) wr) ++ end k
        unfolding join_next
        alone k e n z =
            let g = gone l k e in
            rw n (ap (λ (b : List ℕ). col_stored (write_stored b 257 x c close (t - 3)) (t - 3)) g.stored
            ∙ wr-stored (context_of s) (went k) (end k) g.banks g.held g.none-due t x c mask close lx lc true z)

        beside : (k : Bool) (y : Write) → leaves_at s b (t - 3) ≡ k → eqb (left_count s b (t - 3)) 0 ≡ false → (went k).buffer ≡ One y
            → col_stored (join_next s b x c close (t - 3)) (t - 3) ≡ channel_bytes (after_packet (context_of s) (went k) wr) ++ end k
        unfolding join_next
        beside k y e n z =
            let g = gone l k e in
            rw n (ap (λ (b : List ℕ). col_stored (beside_stored b 258 x c close (t - 3)) (t - 3)) g.stored
            ∙ beside-stored (context_of s) (went k) (end k) g.banks g.held g.none-due t x c mask close lx lc true y z)

        -- rule 12: with two waiting the older leaves
        must-leave : judged (context_of s) m.channel wr ≡ 0 → m.channel.buffer ≡ Two older (write_in b 744) → leaving_of (context_of s) m.channel wr ≡ None → {R : Type 0} → R
        unfolding judged checks waiting_of traits col_traits
        must-leave j z h = not-both (has (bank_of (leaving_of (context_of s) m.channel wr)) || stays (waiting_of m.channel.buffer) (traits wr)) (lowest-none 0 (checks (context_of s) m.channel wr) j 11) (rw (h, z))

        pub wr-next : judged (context_of s) m.channel wr ≡ 0 → (k : Bool) → leaves_at s b (t - 3) ≡ k → leaving_of (context_of s) m.channel wr ≡ only_write k (Some older)
            → col_stored (join_next s b x c close (t - 3)) (t - 3) ≡ channel_bytes (after_packet (context_of s) (went k) wr) ++ end k
        unfolding left_count leaves_at after_retire after_implied waiting_of buffer_of
        wr-next j k e h = go k e h (waits s b r)
          where
            go : (k : Bool) → leaves_at s b (t - 3) ≡ k → leaving_of (context_of s) m.channel wr ≡ only_write k (Some older) → Waits b m.channel.buffer
                → col_stored (join_next s b x c close (t - 3)) (t - 3) ≡ channel_bytes (after_packet (context_of s) (went k) wr) ++ end k
            go false e h (none-waits n z) = alone false e (rw (e, n)) z
            go false e h (one-waits n z) = beside false older e (rw (e, n)) z
            go false e h (two-wait n z) = must-leave j z h
            go true e h (none-waits n z) = not-both (leaves_at s b (t - 3)) e (rw n)
            go true e h (one-waits n z) = alone true e (rw (e, n)) (implied-buffer (context_of s) (t + s.offp) (retire_implies (Some older)) retired ∙ rw z)
            go true e h (two-wait n z) = beside true (write_in b 744) e (rw (e, n)) (implied-buffer (context_of s) (t + s.offp) (retire_implies (Some older)) retired ∙ rw z)
