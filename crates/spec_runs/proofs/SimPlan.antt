-- Each step of a request keeps what joins planner, model and flat memory.
-- Assumes nothing.
use Rattle.std.specs.Prelude.{Some}
use Prim.Native.Nat.{ℕ, zero, suc, ◌+◌, ◌^◌, ◌<◌, ◌≤◌}
use mathlib.Core.Path.{◌≡◌, refl, sym, ap, ◌∙◌}
use mathlib.Core.Bool.{Bool, true, false, not, ◌&&◌, ◌||◌, and-false}
use mathlib.Core.List.{List, [], ◌∷◌, ◌++◌}
use lib.Dec.{eqb}
use borrow.Author.Tests.{ltb-true, eq-eqb}
use native.Mathlib.Omega.{arith}
use Rattle.packet.specs.declared.RowPacket.{RowPacket}
use Rattle.packet.specs.declared.RowPacket.TheVariants.{Act, Prer, Refa, Refp}
use Rattle.packet.specs.declared.ColPacket.TheVariants.{Wr, Rd}
use Rattle.record.specs.declared.Dualoct.{Dualoct}
use Rattle.record.specs.declared.Place.{Place}
use Rattle.record.specs.declared.Record.{Record}
use Rattle.record.proofs.RequestLaws.{InPlace}
use Rattle.spec_rules.specs.declared.Bank.{Bank}
use Rattle.spec_rules.specs.declared.Bank.TheVariants.{Closed, Open, Refresh}
use Rattle.spec_rules.specs.declared.Write.{Write}
use Rattle.spec_rules.specs.declared.Channel.{Channel}
use Rattle.spec_rules.specs.Neighbour.{bank_count, Context, Neighbours, near}
use Rattle.spec_rules.specs.History.{bank_by, is_closed, is_open, any_write, two}
use Rattle.spec_rules.specs.Channel.{state_of}
use Rattle.spec_rules.proofs.Bools.{not-both, and_left, and_right, neither}
use Rattle.spec_state.specs.Valid.{bank_valid}
use Rattle.spec_state.proofs.RoundTrip.{WritesIn}
use Rattle.spec_plan.specs.declared.PlannerState.{PlannerState}
use Rattle.spec_plan.specs.Plan.{Draft, row_packet, col_packet, when, waiting, state_in, open_on, hits, any_waits, any_closes, sent, flushed, flushed_while, loses, closed, closed_up_to, cleared, delays, reached, written, planned_read, planned_write, turned, planned_refresh, planned_wait, planned_flush, planned_close}
use Rattle.spec_plan.proofs.SentLaws.{when-either, sent-size, row-state, row-waiting, Plain, flushed-plain, while-keeps, while-ends, while-state, saved, saved-far, up-to-waiting}
use Rattle.spec_plan.proofs.Invariant.{all_open, in_banks, Changed, NearClosed, held-far, far-other}
use Rattle.spec_plan.proofs.PlanLaws.{Good, gone-plain, good-written, good-flushed, good-closed, good-cleared, good-reached}
use Rattle.spec_model.specs.Store.{dualoct_at, dualoct, dualoct_bytes, masked}
use Rattle.spec_model.specs.Model.{fresh_model, open_row, retired_to}
use Rattle.spec_model.proofs.StoreLaws.{dualoct-other, dualoct_at-inj}
use Rattle.spec_runs.specs.Flat.{dualoct_of}
use Rattle.spec_runs.proofs.PlainRun.{store_all}
use Rattle.spec_runs.proofs.Sim.{done_all, Sim, sim-row, sim-rd, sim-flushed, sim-written}

-- ---- a dualoct that the waiting write does not have

row_in : (cx : Context) (b : Bank) → is_open b ≡ true → bank_valid cx b ≡ true → open_row b < cx.settings.rows
unfolding is_open bank_valid open_row
row_in cx Closed o e = not-both true refl (sym o)
row_in cx (Open r) o e = ltb-true r cx.settings.rows e
row_in cx Refresh o e = not-both true refl (sym o)

past_one : (cx : Context) (ch : Channel) → ((x : ℕ) → x < bank_count → bank_valid cx (state_of ch x) ≡ true)
    → (w : Write) → (w.bank < bank_count) × (w.column < cx.settings.columns) → is_open (state_of ch w.bank) ≡ true → (b row c : ℕ) → row < cx.settings.rows → c < cx.settings.columns → hits b c w ≡ false
    → (mask : ℕ) (d : Dualoct) (store : List ℕ) → dualoct (retired_to cx ch (Some w) mask d store) (dualoct_at cx b row c) ≡ dualoct store (dualoct_at cx b row c)
past_one cx ch v w i o b row c lr lc h mask d store =
    let r : ℕ = open_row (state_of ch w.bank) in
    dualoct-other store (dualoct_at cx w.bank r w.column) mask (dualoct_bytes d) (dualoct_at cx b row c)
    (λ e.
    let q = dualoct_at-inj cx w.bank r w.column b row c (row_in cx (state_of ch w.bank) o (v w.bank i.0)) i.1 lr lc e in
    not-both (eqb w.bank b && eqb w.column c) (rw (eq-eqb w.bank b q.0, eq-eqb w.column c q.2)) h)

pub read_past : (cx : Context) (ch : Channel) → ((x : ℕ) → x < bank_count → bank_valid cx (state_of ch x) ≡ true)
    → (ws : List Write) → WritesIn cx ws → all_open (state_of ch) ws ≡ true → (b row c : ℕ) → row < cx.settings.rows → c < cx.settings.columns → any_write (hits b c) ws ≡ false
    → (m n : ℕ) (x y : Dualoct) (store : List ℕ) → dualoct (done_all cx ch ws m n x y store) (dualoct_at cx b row c) ≡ dualoct store (dualoct_at cx b row c)
read_past cx ch v [] i o b row c lr lc h m n x y store = refl
read_past cx ch v (w ∷ []) i o b row c lr lc h m n x y store =
    past_one cx ch v w i.0 (and_left (is_open (state_of ch w.bank)) _ o) b row c lr lc (neither (hits b c w) _ h).0 m x store
read_past cx ch v (w ∷ u ∷ ws) i o b row c lr lc h m n x y store =
    let ow = and_right (is_open (state_of ch w.bank)) _ o in
    let hw = neither (hits b c w) _ h in
    past_one cx ch v u i.1.0 (and_left (is_open (state_of ch u.bank)) _ ow) b row c lr lc (neither (hits b c u) _ hw.1).0 n y (retired_to cx ch (Some w) m x store)
    ∙ past_one cx ch v w i.0 (and_left (is_open (state_of ch w.bank)) _ o) b row c lr lc hw.0 m x store

module _ (cx : Context) (ns : Neighbours cx) (p : PlannerState) (st : List ℕ) (before : List Record) (memory : List ℕ) (answers : List (List ℕ)) (masks : List ℕ) where
  -- the planner has come this far in a call, and the model and flat memory with it
  abbrev pub Both : Draft → Type 0
  Both d = (Good cx p d × Plain cx d) × Sim cx st before d memory answers masks

  -- and so, with a write that closes its bank waiting
  abbrev Half : Draft → Type 0
  Half d = Good cx p d × Sim cx st before d memory answers masks

  half-flushed : (d : Draft) → Half d → Half (flushed cx d)
  half-flushed d k = (
    good-flushed cx ns p d k.0,
    sim-flushed cx st before d memory answers masks k.1.refr k.1.older k.1.newer k.1.at k.0.inv.size k.0.inv.held.write-in k.0.queue,
  )

  both-flushed : (d : Draft) → Both d → Both (flushed cx d)
  both-flushed d k = let h = half-flushed d (k.0.0, k.1) in ((h.0, flushed-plain cx d k.0.1), h.1)

  both-while : (d : Draft) → Both d → (test : List Write → Bool) → test [] ≡ false → Both (flushed_while cx test d)
  both-while d k test e = while-keeps cx Both (λ z _ b. both-flushed z b) test e d k

  both-row : (d : Draft) → Both d → (r : RowPacket) (q : ℕ → Bool) (new : Bank) → in_banks q (waiting d) ≡ false → Changed q new (state_in d) (state_in (sent cx (row_packet r) d))
      → Sim cx st before (sent cx (row_packet r) d) memory answers masks
  both-row d k r q new far c =
      sim-row cx st before d memory answers masks k.1.refr k.1.older k.1.newer k.1.at r k.0.0.inv.held.write-in q new far c

  -- ---- banks closed, a row reached

  both-saved : (d : Draft) → Both d → (x : ℕ) → Both (saved cx x d)
  both-saved d k x = both-while d k (loses cx x) refl

  both-closed : (d : Draft) → Both d → (x : ℕ) → x < bank_count → Both (closed cx x d)
  unfolding closed bank_by
  both-closed d k x m =
      let z : Draft = saved cx x d in
      let b : Both z = both-saved d k x in (
        good-closed cx ns p d k.0 x m,
        both-row z b (Prer x) (near cx x) Closed (saved-far cx x d) (row-state cx (Prer x) z b.0.0.inv.size),
      )

  both-up-to : (d : Draft) → Both d → (pick : ℕ → Bool) (n : ℕ) → n ≤ bank_count → Both (closed_up_to cx pick n d)
  unfolding closed_up_to
  both-up-to d k pick zero m = k
  both-up-to d k pick (suc n) m =
      let z : Draft = closed_up_to cx pick n d in
      let b : Both z = both-up-to d k pick n (omega arith) in
      when-either Both (pick n && not (is_closed (state_in z n))) (closed cx n) z (λ _. both-closed z b n (omega arith)) (λ _. b)

  -- a packet to a bank that is closed with its neighbours
  far_from : (d : Draft) → Good cx p d × Plain cx d → (b : ℕ) → NearClosed cx (state_in d) b → in_banks (near cx b) (waiting d) ≡ false
  far_from d g b n = held-far cx (state_in d) b (waiting d) g.0.inv.held.write-in g.0.inv.held.opened n

  other-than : (d : Draft) → Good cx p d × Plain cx d → (b : ℕ) → NearClosed cx (state_in d) b → in_banks (λ x. eqb x b) (waiting d) ≡ false
  other-than d g b n = far-other cx (state_in d) b (waiting d) (far_from d g b n)

  sim-reached : (d : Draft) → Both d → (b row : ℕ) → Sim cx st before (reached cx b row d) memory answers masks
  unfolding reached bank_by
  sim-reached d k b row =
      let z : Draft = cleared cx b d in
      let a = both-up-to d k (near cx b) bank_count (omega arith) in
      let c = good-cleared cx ns p d k.0 b in
      when-either (λ z. Sim cx st before z memory answers masks) (not (open_on (state_in d b) row)) (λ d. sent cx (row_packet (Act b row)) (cleared cx b d)) d
      (λ _. both-row z a (Act b row) (λ x. eqb x b) (Open row) (other-than z a.0 b c.1)
      (row-state cx (Act b row) z a.0.0.inv.size))
      (λ _. k.1)

  -- ---- requests

  pub sim_read : (close : Bool) (d : Draft) → Both d → (at : Place) → InPlace cx.settings at → Sim cx st before (planned_read cx close at d) memory (answers ++ (dualoct memory (dualoct_of cx at) ∷ [])) masks
  unfolding planned_read bank_count open_row
  sim_read close d k at i =
      let z : Draft = reached cx at.bank at.row d in
      let g = good-reached cx ns p d k.0 at.bank at.row i.0 i.1 in
      let test : List Write → Bool = delays cx close at in
      let empty : test [] ≡ false = and-false close in
      let y : Draft = flushed_while cx test z in
      let ends = neither (two (waiting y)) _ (while-ends cx test empty z) in
      let last = neither (any_write (hits at.bank at.column) (waiting y)) _ ends.1 in
      read-on y (both-while z (g.0, sim-reached d k at.bank at.row) test empty)
      (while-state cx test empty z g.0.0.inv.size g.0.1 at.bank i.0 ∙ g.1) last.0 last.1
    where
      read-on : (z : Draft) → Both z → state_in z at.bank ≡ Open at.row → any_write (hits at.bank at.column) (waiting z) ≡ false → close && in_banks (near cx at.bank) (waiting z) ≡ false
          → Sim cx st before (sent cx (col_packet (Rd at.bank at.column 0xFFFF close)) z) memory (answers ++ (dualoct memory (dualoct_of cx at) ∷ [])) masks
      read-on z b o h far =
          let stored : List ℕ = store_all cx fresh_model (before ++ z.records) st in
          let past = read_past cx z.planner.channel b.0.0.inv.banked.rows_in (waiting z) b.0.0.inv.held.write-in b.0.0.inv.held.opened
          at.bank at.row at.column i.1 i.2 h z.planner.mask z.planner.second b.1.older b.1.newer stored in
          let here : dualoct stored (dualoct_at cx at.bank (open_row (state_in z at.bank)) at.column) ≡ dualoct memory (dualoct_of cx at) =
          rw o (sym (ap (λ (m : List ℕ). dualoct m (dualoct_of cx at)) b.1.at.flat ∙ past)) in
          rw here at (sim-rd cx st before z memory answers masks b.1.refr b.1.older b.1.newer b.1.at close at.bank at.column b.0.0.inv.size b.0.0.inv.held.write-in far)

  sim-turned : (d : Draft) → Sim cx st before d memory answers masks → Sim cx st before (turned cx d) memory answers masks
  unfolding turned
  sim-turned d k =
      let a = k.at in
      record { refr = k.refr; older = k.older; newer = k.newer; at = record { model = a.model; flat = a.flat; same = a.same; written-under = a.written-under; data-in = a.data-in } }

  pub sim-refresh : (d : Draft) → Both d → Sim cx st before (planned_refresh cx d) memory answers masks
  unfolding planned_refresh bank_by
  sim-refresh d k =
      let b : ℕ = d.planner.refresh in
      let z : Draft = cleared cx b d in
      let a = both-up-to d k (near cx b) bank_count (omega arith) in
      let c = good-cleared cx ns p d k.0 b in
      let y : Draft = sent cx (row_packet (Refa b)) z in
      let waits : waiting y ≡ waiting z = row-waiting cx (Refa b) z in
      let k1 = both-row z a (Refa b) (λ x. eqb x b) Refresh (other-than z a.0 b c.1)
      (row-state cx (Refa b) z a.0.0.inv.size) in
      sim-turned (sent cx (row_packet (Refp b)) y)
      (sim-row cx st before y memory answers masks k1.refr k1.older k1.newer k1.at (Refp b) (rw waits a.0.0.inv.held.write-in) (near cx b) Closed (rw waits (far_from z a.0 b c.1))
      (row-state cx (Refp b) y (sent-size cx (row_packet (Refa b)) z ∙ a.0.0.inv.size)))

  pub sim-wait : (d : Draft) → Both d → (n : ℕ) → Sim cx st before (planned_wait cx n d) memory answers masks
  unfolding planned_wait
  sim-wait d k n =
      let a = k.1.at in
      record { refr = k.1.refr; older = k.1.older; newer = k.1.newer; at = record { model = a.model; flat = a.flat; same = a.same; written-under = a.written-under; data-in = a.data-in } }

  none-waits : (ws : List Write) → any_waits ws ≡ false → ws ≡ []
  none-waits [] e = refl
  none-waits (w ∷ ws) e = not-both true refl e

  pub sim-flush : (d : Draft) → Both d → Sim cx st before (planned_flush cx d) memory answers masks × (waiting (planned_flush cx d) ≡ [])
  unfolding planned_flush
  sim-flush d k = ((both-while d k any_waits refl).1, none-waits (waiting (flushed_while cx any_waits d)) (while-ends cx any_waits refl d))

  pub sim-close : (d : Draft) → Both d → Sim cx st before (planned_close cx d) memory answers masks
  unfolding planned_close
  sim-close d k = (both-up-to d k (λ x. true) bank_count (omega arith)).1

  -- the row reached, with planner, model and flat memory
  pub both-reached : (d : Draft) → Both d → (b row : ℕ) → b < bank_count → row < cx.settings.rows → Both (reached cx b row d) × (state_in (reached cx b row d) b ≡ Open row)
  both-reached d k b row m l = let g = good-reached cx ns p d k.0 b row m l in ((g.0, sim-reached d k b row), g.1)

  -- NOCOPs for a write that closes its bank
  pub half-while : (d : Draft) → Half d → (test : List Write → Bool) → test [] ≡ false → Half (flushed_while cx test d)
  half-while d k test e = while-keeps cx Half (λ z _ h. half-flushed z h) test e d k

module _ (cx : Context) (ns : Neighbours cx) (p : PlannerState) (st : List ℕ) (before : List Record) (memory : List ℕ) (answers : List (List ℕ)) (masks : List ℕ) where
  -- a write, or a write and close, writes flat memory
  pub sim_write : (close : Bool) (d : Draft) → Both cx ns p st before memory answers masks d → (at : Place) (mask : ℕ) (bytes : Dualoct) → InPlace cx.settings at → mask < 2 ^ 16 → (bytes.dqa < 2 ^ 64) × (bytes.dqb < 2 ^ 64)
      → Sim cx st before (planned_write cx close at mask bytes d) (masked memory (dualoct_of cx at) mask (dualoct_bytes bytes)) answers (masks ++ (mask ∷ []))
  unfolding planned_write bank_count
  sim_write close d k at mask bytes i mi n =
      let y : Draft = reached cx at.bank at.row d in
      let b = both-reached cx ns p st before memory answers masks d k at.bank at.row i.0 i.1 in
      let m = b.0.1 in
      let g = good-written cx ns p y b.0.0 close at at.row mask bytes i.0 i.2 mi b.1 in
      let r : Record = col_packet (Wr at.bank at.column 0xFFFF close) in
      let w = sim-written cx st before y memory answers masks m.refr m.older m.newer m.at close at at.row mask bytes n b.0.0.0.inv.size b.0.0.0.inv.held.write-in (gone-plain cx ns p y b.0.0 r) i.0 b.1 in
      (half-while cx ns p st before (masked memory (dualoct_of cx at) mask (dualoct_bytes bytes)) answers (masks ++ (mask ∷ [])) (written cx close at mask bytes y) (g.0, w) any_closes refl).1
