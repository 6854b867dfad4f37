-- What a ROW command stores and records on ready bytes is one step of the plan.
-- Assumes nothing.
use Rattle.std.specs.Prelude.{Option}
use Prim.Native.Nat.{ℕ, ◌+◌, ◌-◌, ◌<◌, ◌≤◌}
use mathlib.Core.Path.{◌≡◌, sym, ap, ap₂, ◌∙◌}
use mathlib.Core.List.{List, ◌++◌}
use Rattle.num.specs.Bytes.{splice}
use Rattle.settings.specs.declared.Settings.{Settings}
use Rattle.packet.specs.declared.RowPacket.{RowPacket}
use Rattle.packet.specs.declared.RowPacket.TheVariants.{Act, Prer, Refa}
use Rattle.packet.specs.Row.{row_word}
use Rattle.record.specs.declared.Record.TheVariants.{RowAt}
use Rattle.record.specs.Record.{record_fields, record_bytes}
use Rattle.spec_rules.specs.declared.Write.{Write}
use Rattle.spec_rules.specs.Neighbour.{Context, context_of}
use Rattle.spec_rules.specs.Channel.{after}
use Rattle.spec_rules.specs.Earliest.{placed_at, under}
use Rattle.spec_state.specs.ChannelBytes.{channel_bytes}
use Rattle.spec_state.specs.Form.Stores.{close_stored, act_stored, refa_stored}
use Rattle.spec_state.proofs.StoreLaws.{act-stored, refa-stored, prer-stored}
use Rattle.spec_plan.specs.declared.PlannerState.{PlannerState}
use Rattle.spec_plan.specs.Plan.{row_packet, shifted, slot, sent}
use Rattle.spec_plan.specs.PlannerBytes.{planner_bytes, planner_in}
use Rattle.spec_plan.proofs.Invariant.{Inv}
use Rattle.spec_plan.proofs.SentLaws.{row-gone}
use Rattle.plan_bytes.specs.Form.Numbers.{now_stored}
use Rattle.plan_bytes.specs.Form.Drawn.{bare, drafted, Ready, OpenAt, Drawn}
use Rattle.plan_bytes.proofs.Puts.{Plain, then-now}
use Rattle.plan_bytes.proofs.ReadyLaws.{readies, inv, plain, sides-shut, Says, said}
use Rattle.plan_bytes.proofs.Compose.{one-record}
use Rattle.plan_packets.specs.Form.RowSlots.{close_at, open_at}
use Rattle.plan_packets.proofs.rows.Slots.{prer-slot, act-slot, refa-slot}

-- ---- on bytes that say a state exactly

module _ (cx : Context) (p : PlannerState) where
  -- a ROW packet, by what is stored for it
  row-bytes : (q : RowPacket) (stored : List ℕ → ℕ → List ℕ)
      → ((t : ℕ) (l : List ℕ) → stored (channel_bytes p.channel ++ l) (t - 3) ≡ channel_bytes (after cx p.channel (RowAt (record { 0 = t }) q)) ++ l)
      → now_stored (stored (planner_bytes p) (slot cx p (row_packet q) - 3)) (slot cx p (row_packet q) - 3) ≡ planner_bytes (sent cx (row_packet q) (bare p)).planner
  unfolding sent placed_at under
  row-bytes q stored h =
      let t : ℕ = slot cx p (row_packet q) in
      then-now p (after cx p.channel (RowAt (record { 0 = t }) q)) (λ b. stored b (t - 3)) t (h t)
      ∙ ap (λ (o : Option Write). planner_bytes (record { channel = after cx p.channel (RowAt (record { 0 = t }) q); now = record { 0 = t }; refresh = p.refresh; mask = shifted o p.mask p.second; second = p.second }))
      (sym (row-gone cx q (bare p)))

module _ (s : Settings) (b : List ℕ) where
  -- a ROW packet: what has been stored and recorded for it, where its least instant is v as it is stored
  pub row-drawn : planner_bytes (planner_in b) ≡ b → (room : List ℕ) (at : ℕ) (left room' : List ℕ) (to : ℕ) → to ≡ at + 32 → (q : RowPacket) (stored : List ℕ → ℕ → List ℕ) (v : ℕ)
      → ((t : ℕ) (l : List ℕ) → stored (channel_bytes (planner_in b).channel ++ l) (t - 3) ≡ channel_bytes (after (context_of s) (planner_in b).channel (RowAt (record { 0 = t }) q)) ++ l)
      → Says s b v (row_packet q) → left ≡ now_stored (stored b v) v → room' ≡ splice room at (record_fields (v + 3) 0 (row_word s.device q) 0 0)
      → Drawn s (sent (context_of s) (row_packet q) (drafted b)) room at left room' to
  unfolding sent placed_at under record_bytes
  row-drawn exact room at left room' to next q stored v law e f g =
      record {
        planner = f ∙ ap₂ (λ (l : List ℕ) (n : ℕ). now_stored (stored l n) n) (sym exact) e.stored ∙ row-bytes (context_of s) (planner_in b) q stored law;
        records = g ∙ ap (λ (n : ℕ). splice room at (record_fields n 0 (row_word s.device q) 0 0)) e.instant ∙ ap (splice room at) (sym (one-record s _));
        next = next;
      }

-- ---- on ready bytes

module _ (s : Settings) (top : ℕ) (b : List ℕ) (k : Ready s top b) (h : top ≤ 1000012000) where
  abbrev p : PlannerState
  p = planner_in b

  abbrev known : Inv (context_of s) p
  known = inv s top b k

  -- the least instant of each command
  pub prer-says : (x : ℕ) → x < 32 → Says s b (close_at s b x) (row_packet (Prer x))
  prer-says x l = said s top b k h (close_at s b x) (row_packet (Prer x)) (prer-slot s b known.low x l)

  pub act-says : (x row : ℕ) → x < 32 → Says s b (open_at s b x) (row_packet (Act x row))
  act-says x row l = said s top b k h (open_at s b x) (row_packet (Act x row)) (act-slot s b known.low x row l)

  pub refa-says : (x : ℕ) → x < 32 → Says s b (open_at s b x) (row_packet (Refa x))
  refa-says x l = said s top b k h (open_at s b x) (row_packet (Refa x)) (refa-slot s b known.low x l)

  -- what has been stored and recorded for a packet, whose least instant is v as it is stored
  module _ (room : List ℕ) (at : ℕ) (left room' : List ℕ) (to : ℕ) (next : to ≡ at + 32) where
    pub act-drawn : (x row : ℕ) → x < 32 → let v : ℕ = open_at s b x in left ≡ now_stored (act_stored b x row v) v
        → room' ≡ splice room at (record_fields (v + 3) 0 (row_word s.device (Act x row)) 0 0) → Drawn s (sent (context_of s) (row_packet (Act x row)) (bare p)) room at left room' to
    act-drawn x row l =
        let i : Plain p.channel = plain s top b k in
        row-drawn s b (readies s top b k).exact room at left room' to next (Act x row) (λ b v. act_stored b x row v) (open_at s b x) (λ t q. act-stored (context_of s) p.channel q i.size i.write i.no_due x t l row) (act-says x row l)

    pub refa-drawn : (x : ℕ) → x < 32 → let v : ℕ = open_at s b x in left ≡ now_stored (refa_stored b x v) v
        → room' ≡ splice room at (record_fields (v + 3) 0 (row_word s.device (Refa x)) 0 0) → Drawn s (sent (context_of s) (row_packet (Refa x)) (bare p)) room at left room' to
    refa-drawn x l =
        let i : Plain p.channel = plain s top b k in
        row-drawn s b (readies s top b k).exact room at left room' to next (Refa x) (λ b v. refa_stored b x v) (open_at s b x) (λ t q. refa-stored (context_of s) p.channel q i.size i.write i.no_due x t l) (refa-says x l)

    pub prer-drawn : (x : ℕ) → x < 32 → OpenAt b x → let v : ℕ = close_at s b x in left ≡ now_stored (close_stored b x v) v
        → room' ≡ splice room at (record_fields (v + 3) 0 (row_word s.device (Prer x)) 0 0) → Drawn s (sent (context_of s) (row_packet (Prer x)) (bare p)) room at left room' to
    prer-drawn x l o =
        let i : Plain p.channel = plain s top b k in
        row-drawn s b (readies s top b k).exact room at left room' to next (Prer x) (λ b v. close_stored b x v) (close_at s b x) (λ t q. prer-stored (context_of s) p.channel q i.size i.write i.no_due x t l (sides-shut s top b k x l o)) (prer-says x l)
