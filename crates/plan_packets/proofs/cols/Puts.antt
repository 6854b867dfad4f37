-- What is stored for a COL packet is the planner after the step of the plan.
-- Assumes nothing.
use Rattle.std.specs.Prelude.{Option, None, Some}
use Prim.Native.Nat.{ℕ, ◌+◌, ◌-◌, ◌<◌}
use mathlib.Core.Path.{◌≡◌, sym, ap, ap₂, ◌∙◌}
use mathlib.Core.Bool.{Bool, true, false, cond}
use mathlib.Core.List.{List, [], ◌∷◌, ◌++◌}
use lib.ListN.{length}
use Rattle.num.specs.Bytes.{bytes, splice}
use Rattle.packet.specs.declared.ColPacket.TheVariants.{Nocop, Wr, Rd}
use Rattle.record.specs.declared.Dualoct.{Dualoct}
use Rattle.record.specs.declared.Place.{Place}
use Rattle.record.specs.declared.Record.{Record}
use Rattle.record.specs.declared.Record.TheVariants.{ColAt}
use Rattle.spec_rules.specs.declared.Write.{Write}
use Rattle.spec_rules.specs.declared.Channel.{Channel}
use Rattle.spec_rules.specs.Neighbour.{Context}
use Rattle.spec_rules.specs.History.{first, rest, left, loads, queued, two}
use Rattle.spec_rules.specs.Channel.{waiting_of, leaving_of, after_data, after}
use Rattle.spec_rules.specs.Earliest.{placed_at, under}
use Rattle.spec_state.specs.ChannelBytes.{channel_bytes}
use Rattle.spec_state.specs.Form.Stores.{implied_stored, col_stored, rd_stored, retire_stored, shift_stored}
use Rattle.spec_state.proofs.StoreLaws.{SidesClosed, rd-stored}
use Rattle.spec_state.proofs.ColLaws.{nocop-leaves}
use Rattle.spec_state.proofs.ImpliedLaws.{rda-stored, closing-stored, nocop-closing}
use Rattle.spec_plan.specs.declared.PlannerState.{PlannerState}
use Rattle.spec_plan.specs.Plan.{col_packet, carried, shifted, slot, leaver, sent, flushed, loaded, written}
use Rattle.spec_plan.specs.PlannerBytes.{planner_bytes}
use Rattle.spec_plan.proofs.SentLaws.{read-gone, here-leaving, flushed-gone, sent-waiting}
use Rattle.plan_bytes.specs.Form.Numbers.{half, held_bank, two_in, now_stored}
use Rattle.plan_bytes.specs.Form.Drawn.{bare}
use Rattle.plan_bytes.proofs.Puts.{mask-stored, second-stored, Plain, then-now}
use Rattle.plan_packets.specs.Form.ColSlots.{closing_stored}

-- the stores of a retire that closes its bank, as one
pub closing-put : (b : List ℕ) (t u : ℕ) {h n m : ℕ} {b1 b2 b3 b4 b5 b6 : List ℕ} → h ≡ held_bank b → n ≡ cond (two_in b) 1 0 → m ≡ half b 762
    → b1 ≡ retire_stored b h t → b2 ≡ shift_stored b1 n → b3 ≡ implied_stored b2 h u → b4 ≡ col_stored b3 t → b5 ≡ now_stored b4 t → b6 ≡ splice b5 760 (bytes 2 m)
    → b6 ≡ closing_stored b t u
unfolding closing_stored
closing-put b t u eh en em e1 e2 e3 e4 e5 e6 = rw (e6, e5, e4, e3, e2, e1, em, en, eh)

module _ (cx : Context) (p : PlannerState) (k : Plain p.channel) where
  -- the planner after a packet at t that leaves this channel and retires this write
  abbrev pub gone : Channel → ℕ → Option Write → PlannerState
  gone ch t o = record { channel = ch; now = record { 0 = t }; refresh = p.refresh; mask = shifted o p.mask p.second; second = p.second }

  -- RD or RDA, by what the channel's bytes become
  read-bytes : (x c : ℕ) (close : Bool) (stored : List ℕ → List ℕ) →
      let r : Record = col_packet (Rd x c 0xFFFF close) in
      ((m : ℕ) (q : List ℕ) → stored (channel_bytes p.channel ++ q) ≡ channel_bytes (after cx p.channel (ColAt (record { 0 = slot cx p r }) (Rd x c m close))) ++ q)
      → now_stored (stored (planner_bytes p)) (slot cx p r - 3) ≡ planner_bytes (sent cx r (bare p)).planner
  unfolding sent placed_at under
  read-bytes x c close stored h =
      let r : Record = col_packet (Rd x c 0xFFFF close) in
      let t : ℕ = slot cx p r in
      let m : ℕ = carried (leaver cx p r) p.mask in
      let next : Channel = after cx p.channel (ColAt (record { 0 = t }) (Rd x c m close)) in
      then-now p next stored t (h m) ∙ ap (λ (o : Option Write). planner_bytes (gone next t o)) (sym (read-gone cx x c 0xFFFF close (bare p)))

  -- RD
  pub rd-bytes : (x c : ℕ) → x < 32 →
      let r : Record = col_packet (Rd x c 0xFFFF false) in
      let v : ℕ = slot cx p r - 3 in
      now_stored (rd_stored (planner_bytes p) x v) v ≡ planner_bytes (sent cx r (bare p)).planner
  rd-bytes x c l =
      let t : ℕ = slot cx p (col_packet (Rd x c 0xFFFF false)) in
      read-bytes x c false (λ b. rd_stored b x (t - 3)) (λ m q. rd-stored cx p.channel q k.size k.write k.no_due x t l c m)

  -- RDA, of a bank whose neighbours are closed
  pub rda-bytes : (x c : ℕ) → x < 32 → SidesClosed cx p.channel x →
      let r : Record = col_packet (Rd x c 0xFFFF true) in
      let v : ℕ = slot cx p r - 3 in
      now_stored (implied_stored (rd_stored (planner_bytes p) x v) x (slot cx p r + cx.settings.offp - 3)) v ≡ planner_bytes (sent cx r (bare p)).planner
  rda-bytes x c l sides =
      let t : ℕ = slot cx p (col_packet (Rd x c 0xFFFF true)) in
      read-bytes x c true (λ b. implied_stored (rd_stored b x (t - 3)) x (t + cx.settings.offp - 3)) (λ m q. rda-stored cx p.channel q k.size k.write k.no_due x t l c m sides)

  -- NOCOP, by what the channel's bytes become
  module _ (w : Write) (ws : List Write) (z : waiting_of p.channel.buffer ≡ w ∷ ws) (l : w.bank < 32) where
    abbrev at : ℕ
    at = slot cx p (col_packet (Nocop 0xFFFF))

    abbrev nocop : Record
    nocop = ColAt (record { 0 = at }) (Nocop (carried (leaver cx p (col_packet (Nocop 0xFFFF))) p.mask))

    left_is : leaver cx p (col_packet (Nocop 0xFFFF)) ≡ Some w
    left_is = flushed-gone cx (bare p) ∙ ap first z

    leaves : leaving_of cx p.channel nocop ≡ Some w
    unfolding placed_at under
    leaves = here-leaving cx (col_packet (Nocop 0xFFFF)) (bare p) ∙ left_is

    flushed-bytes : (stored : List ℕ → List ℕ) → ((q : List ℕ) → stored (channel_bytes p.channel ++ q) ≡ channel_bytes (after cx p.channel nocop) ++ q)
        → splice (now_stored (stored (planner_bytes p)) (at - 3)) 760 (bytes 2 p.second) ≡ planner_bytes (flushed cx (bare p)).planner
    unfolding flushed sent placed_at under
    flushed-bytes stored h =
        let next : Channel = after cx p.channel nocop in
        ap (λ (b : List ℕ). splice b 760 (bytes 2 p.second)) (then-now p next stored at h)
        ∙ mask-stored (gone next at None) p.second
        ∙ ap (λ (o : Option Write). planner_bytes (gone next at o)) (sym left_is)

    -- what the retire leaves, by the number of writes behind it
    abbrev moved : List ℕ → ℕ → List ℕ
    moved b n = shift_stored (retire_stored b w.bank (at - 3)) n

    same : (b : List ℕ) → moved b (length ws) ≡ moved b (length (rest (waiting_of p.channel.buffer)))
    same b = ap (λ (n : List Write). moved b (length (rest n))) (sym z)

    -- of a write that does not close its bank, and of one that does
    pub nocop-bytes : w.close ≡ false → splice (now_stored (col_stored (moved (planner_bytes p) (length ws)) (at - 3)) (at - 3)) 760 (bytes 2 p.second) ≡ planner_bytes (flushed cx (bare p)).planner
    nocop-bytes f =
        flushed-bytes (λ b. col_stored (moved b (length ws)) (at - 3))
        (λ q. ap (λ (b : List ℕ). col_stored b (at - 3)) (same (channel_bytes p.channel ++ q)) ∙ nocop-leaves cx p.channel q k.size k.write k.no_due at w l f _ leaves)

    pub closing-bytes : w.close ≡ true → SidesClosed cx p.channel w.bank
        → splice (now_stored (col_stored (implied_stored (moved (planner_bytes p) (length ws)) w.bank (at + cx.settings.offp - 3)) (at - 3)) (at - 3)) 760 (bytes 2 p.second) ≡ planner_bytes (flushed cx (bare p)).planner
    closing-bytes f sides =
        let u : ℕ = at + cx.settings.offp in
        flushed-bytes (λ b. col_stored (implied_stored (moved b (length ws)) w.bank (u - 3)) (at - 3))
        (λ q. ap (λ (b : List ℕ). col_stored b (at - 3))
        (ap (λ (b : List ℕ). implied_stored b w.bank (u - 3)) (same (channel_bytes p.channel ++ q)) ∙ closing-stored cx p.channel q k.size k.write k.no_due w at l sides)
        ∙ nocop-closing cx p.channel q k.size k.write k.no_due w at l f _ leaves)

  -- ---- WR and D

  module _ (close : Bool) (at : Place) (mask : ℕ) (dualoct : Dualoct) where
    abbrev wr : Record
    wr = col_packet (Wr at.bank at.column 0xFFFF close)

    abbrev pub then : ℕ
    then = slot cx p wr

    abbrev pub carries : ℕ
    carries = carried (leaver cx p wr) p.mask

    abbrev pub next : Channel
    next = after_data (after cx p.channel (ColAt (record { 0 = then }) (Wr at.bank at.column carries close)))

    abbrev new : Write
    new = record { bank = at.bank; column = at.column; at = record { 0 = then }; close = close }

    -- the planner by what leaves, and by whether two wait then
    abbrev loaded_by : Bool → Option Write → PlannerState
    loaded_by q o =
        record { channel = next; now = record { 0 = then }; refresh = p.refresh; mask = cond q (shifted o p.mask p.second) mask; second = cond q mask p.second }

    written_is : (o : Option Write) (ws : List Write) → leaver cx p wr ≡ o → waiting_of p.channel.buffer ≡ ws
        → (written cx close at mask dualoct (bare p)).planner ≡ loaded_by (two (queued (left o ws) new)) o
    unfolding written loaded sent placed_at under loads after
    written_is o ws e z =
        ap₂ loaded_by (ap two (sent-waiting cx wr (bare p) ∙ ap₂ (λ (o : Option Write) (l : List Write). queued (left o l) new) e z)) e

    -- what the channel's bytes become
    module _ (stored : List ℕ → List ℕ) (h : (q : List ℕ) → stored (channel_bytes p.channel ++ q) ≡ channel_bytes next ++ q) where
      abbrev now-then : List ℕ
      now-then = now_stored (stored (planner_bytes p)) (then - 3)

      stored_is : now-then ≡ planner_bytes (gone next then None)
      stored_is = then-now p next stored then h

      -- it waits alone
      pub alone-bytes : (o : Option Write) (ws : List Write) → leaver cx p wr ≡ o → waiting_of p.channel.buffer ≡ ws → left o ws ≡ []
          → splice now-then 760 (bytes 2 mask) ≡ planner_bytes (written cx close at mask dualoct (bare p)).planner
      alone-bytes o ws e z f =
          ap (λ (b : List ℕ). splice b 760 (bytes 2 mask)) stored_is
          ∙ mask-stored (gone next then None) mask
          ∙ ap (λ (l : List Write). planner_bytes (loaded_by (two (queued l new)) o)) (sym f)
          ∙ ap planner_bytes (sym (written_is o ws e z))

      -- beside w, which stays
      pub newer-bytes : (w : Write) → leaver cx p wr ≡ None → waiting_of p.channel.buffer ≡ w ∷ []
          → splice now-then 762 (bytes 2 mask) ≡ planner_bytes (written cx close at mask dualoct (bare p)).planner
      newer-bytes w e z =
          ap (λ (b : List ℕ). splice b 762 (bytes 2 mask)) stored_is
          ∙ second-stored (gone next then None) mask
          ∙ ap planner_bytes (sym (written_is None (w ∷ []) e z))

      -- behind y, which moves up
      pub moved-bytes : (w y : Write) → leaver cx p wr ≡ Some w → waiting_of p.channel.buffer ≡ w ∷ y ∷ []
          → splice (splice now-then 760 (bytes 2 p.second)) 762 (bytes 2 mask) ≡ planner_bytes (written cx close at mask dualoct (bare p)).planner
      moved-bytes w y e z =
          ap (λ (b : List ℕ). splice (splice b 760 (bytes 2 p.second)) 762 (bytes 2 mask)) stored_is
          ∙ ap (λ (b : List ℕ). splice b 762 (bytes 2 mask)) (mask-stored (gone next then None) p.second)
          ∙ second-stored (gone next then (Some w)) mask
          ∙ ap planner_bytes (sym (written_is (Some w) (w ∷ y ∷ []) e z))
