-- The planner in a call, the model that has taken its records, and flat memory: flat memory is the store with the waiting writes
-- done, in order. Each packet of the planner keeps this.
-- Assumes nothing.
use Rattle.std.specs.Prelude.{Option, None, Some}
use Prim.Native.Nat.{ℕ, ◌+◌, ◌^◌, ◌≤◌, ◌<◌, max}
use mathlib.Core.Path.{◌≡◌, refl, sym, ap, ◌∙◌}
use mathlib.Core.Bool.{Bool, true, false, ◌&&◌, cond}
use mathlib.Core.List.{List, [], ◌∷◌, ◌++◌, append-nil, append_assoc}
use lib.Dec.{leb}
use borrow.Author.Tests.{le-leb}
use native.Mathlib.Omega.{arith}
use Rattle.settings.specs.declared.DataAt.{DataAt}
use Rattle.packet.specs.declared.RowPacket.{RowPacket}
use Rattle.packet.specs.declared.ColPacket.TheVariants.{Nocop, Wr, Rd}
use Rattle.record.specs.declared.Dualoct.{Dualoct}
use Rattle.record.specs.declared.Place.{Place}
use Rattle.record.specs.declared.Record.{Record}
use Rattle.record.specs.declared.Record.TheVariants.{RowAt, ColAt, DataOf}
use Rattle.spec_rules.specs.declared.Bank.{Bank}
use Rattle.spec_rules.specs.declared.Bank.TheVariants.{Closed, Open}
use Rattle.spec_rules.specs.declared.Write.{Write}
use Rattle.spec_rules.specs.declared.Buffer.{Buffer}
use Rattle.spec_rules.specs.declared.Buffer.TheVariants.{Empty, One, Two}
use Rattle.spec_rules.specs.declared.Channel.{Channel}
use Rattle.spec_rules.specs.Neighbour.{bank_count, Context, near}
use Rattle.spec_rules.specs.Packets.{traits, col_traits, instant}
use Rattle.spec_rules.specs.History.{first, rest, only_write, passed, leaving, left, loads, queued, retire_implies, closed_by, reaches, two}
use Rattle.spec_rules.specs.Channel.{state_of, waiting_of, leaving_of, after_data, after}
use Rattle.spec_rules.specs.Earliest.{placed_at, under, earliest, retire_least, slot_from, least_from}
use Rattle.spec_rules.proofs.Bools.{not-both, neither}
use Rattle.spec_rules.proofs.TrackLaws.{keeps-all}
use Rattle.spec_state.proofs.RoundTrip.{WritesIn}
use Rattle.spec_plan.specs.Plan.{Draft, row_packet, col_packet, waiting, state_in, carried, shifted, slot, leaver, placed_in, sent, flushed, loaded, written}
use Rattle.spec_plan.proofs.SentLaws.{Sized, here-leaving, sent-channel, sent-mask, sent-second, sent-records, sent-state, row-gone, read-gone, flushed-gone, row-waiting, read-waiting, sent-waiting, flushed-waiting, flushed-state}
use Rattle.spec_plan.proofs.Invariant.{in_banks, none-picked, Changed, left_in, newest_closes}
use Rattle.spec_plan.proofs.PlanLaws.{implied-changed, rest-far}
use Rattle.spec_state.proofs.AfterLaws.{state_by}
use Rattle.spec_model.specs.declared.ModelState.{ModelState}
use Rattle.spec_model.specs.Store.{dualoct_at, dualoct, dualoct_bytes, masked}
use Rattle.spec_model.specs.Model.{fresh_model, open_row, retire_mask, retired_write, retired_to, store_next, refr_next, bytes_left, bytes_next, second_next, model_next, read_of}
use Rattle.spec_runs.specs.Count.{mask_if}
use Rattle.spec_runs.proofs.DriveLaws.{Every, every_append}
use Rattle.spec_runs.proofs.PlainRun.{answer_of, mask_by, model_all, store_all, answers_all, masks_all, model-append, store-append, answers-append, masks-append}

-- the data of a D are two numbers of 64 bits
abbrev pub DataIn : Record → Type 0
DataIn (RowAt t p) = Unit {0}
DataIn (ColAt t p) = Unit {0}
DataIn (DataOf t d) = (d.dqa < 2 ^ 64) × (d.dqb < 2 ^ 64)

-- the waiting writes done in a store, in order, each under its mask and with its data
abbrev pub done_all : Context → Channel → List Write → ℕ → ℕ → Dualoct → Dualoct → List ℕ → List ℕ
done_all cx ch [] m n a b store = store
done_all cx ch (x ∷ []) m n a b store = retired_to cx ch (Some x) m a store
done_all cx ch (x ∷ y ∷ ws) m n a b store = retired_to cx ch (Some y) n b (retired_to cx ch (Some x) m a store)

-- their masks
abbrev pub wait_masks : List Write → ℕ → ℕ → List ℕ
wait_masks [] m n = []
wait_masks (x ∷ []) m n = m ∷ []
wait_masks (x ∷ y ∷ ws) m n = m ∷ n ∷ []

-- the model that has taken the records before and those of the draft, from store st on, with REFR and the data of the waiting
-- writes; flat memory; its answers so far; and the masks of the writes so far, of which the last ones may wait
pub record SimAt (cx : Context) (st : List ℕ) (before : List Record) (d : Draft) (memory : List ℕ) (answers : List (List ℕ)) (masks : List ℕ) (refr : ℕ) (older newer : Dualoct) : Type 0 where
  pub model : model_all cx fresh_model (before ++ d.records) ≡ record { channel = d.planner.channel; refr = refr; bytes = older; second = newer }
  pub flat : memory ≡ done_all cx d.planner.channel (waiting d) d.planner.mask d.planner.second older newer (store_all cx fresh_model (before ++ d.records) st)
  pub same : answers_all cx fresh_model (before ++ d.records) st ≡ answers
  pub written-under : masks_all cx fresh_model (before ++ d.records) ++ wait_masks (waiting d) d.planner.mask d.planner.second ≡ masks
  pub data-in : Every DataIn (before ++ d.records)

pub record Sim (cx : Context) (st : List ℕ) (before : List Record) (d : Draft) (memory : List ℕ) (answers : List (List ℕ)) (masks : List ℕ) : Type 0 where
  pub refr : ℕ
  pub older : Dualoct
  pub newer : Dualoct
  pub at : SimAt cx st before d memory answers masks refr older newer

-- ---- the waiting writes done

module _ (cx : Context) (ch ch' : Channel) (q : ℕ → Bool) (new : Bank) (c : Changed q new (state_of ch) (state_of ch')) where
  -- a write's place goes by the row of its bank alone
  far-one : (w : Write) → w.bank < bank_count → q w.bank ≡ false → (mask : ℕ) (d : Dualoct) (store : List ℕ)
      → retired_to cx ch (Some w) mask d store ≡ retired_to cx ch' (Some w) mask d store
  far-one w i far mask d store = rw (c w.bank i, far)

  pub done-far : (ws : List Write) → WritesIn cx ws → in_banks q ws ≡ false → (m n : ℕ) (a b : Dualoct) (store : List ℕ) → done_all cx ch ws m n a b store ≡ done_all cx ch' ws m n a b store
  done-far [] i far m n a b store = refl
  done-far (x ∷ []) i far m n a b store = far-one x i.0.0 (neither (q x.bank) _ far).0 m a store
  done-far (x ∷ y ∷ ws) i far m n a b store =
      let fx = neither (q x.bank) _ far in
      let fy = neither (q y.bank) _ fx.1 in
      ap (λ (k : List ℕ). retired_to cx ch (Some y) n b k) (far-one x i.0.0 fx.0 m a store) ∙ far-one y i.1.0.0 fy.0 n b _

-- it goes by the states of the banks alone
done-same : (cx : Context) (ch ch' : Channel) → ((x : ℕ) → state_of ch x ≡ state_of ch' x) → (ws : List Write) (m n : ℕ) (a b : Dualoct) (store : List ℕ)
    → done_all cx ch ws m n a b store ≡ done_all cx ch' ws m n a b store
done-same cx ch ch' e [] m n a b store = refl
done-same cx ch ch' e (x ∷ []) m n a b store = rw (e x.bank)
done-same cx ch ch' e (x ∷ y ∷ ws) m n a b store = rw (e x.bank, e y.bank)

-- the older write leaves, where a test passes
leave-done : (cx : Context) (ch : Channel) (f : Buffer) (q : Bool) (m n : ℕ) (a b : Dualoct) (store : List ℕ) →
    let ws : List Write = waiting_of f in
    let o : Option Write = only_write q (first ws) in
    done_all cx ch ws m n a b store ≡ done_all cx ch (left o ws) (shifted o m n) n (bytes_left o a b) b (retired_to cx ch o (carried o m) a store)
unfolding waiting_of
leave-done cx ch Empty true m n a b store = refl
leave-done cx ch (One x) true m n a b store = refl
leave-done cx ch (Two x y) true m n a b store = refl
leave-done cx ch f false m n a b store = refl

leave-masks : (f : Buffer) (q : Bool) (m n : ℕ) →
    let ws : List Write = waiting_of f in
    let o : Option Write = only_write q (first ws) in
    mask_if o (carried o m) ++ wait_masks (left o ws) (shifted o m n) n ≡ wait_masks ws m n
unfolding waiting_of
leave-masks Empty true m n = refl
leave-masks (One x) true m n = refl
leave-masks (Two x y) true m n = refl
leave-masks f false m n = refl

-- a write joins where fewer than two wait
join-done : (cx : Context) (ch : Channel) (ws : List Write) → two ws ≡ false → (w : Write) (mask m n : ℕ) (d a b : Dualoct) (store : List ℕ) →
    let t : Bool = two (queued ws w) in
    done_all cx ch (queued ws w) (cond t m mask) (cond t mask n) (cond t a d) (cond t d b) store ≡ retired_to cx ch (Some w) mask d (done_all cx ch ws m n a b store)
join-done cx ch [] e w mask m n d a b store = refl
join-done cx ch (x ∷ []) e w mask m n d a b store = refl
join-done cx ch (x ∷ y ∷ ws) e w mask m n d a b store = not-both true refl e

join-masks : (ws : List Write) → two ws ≡ false → (w : Write) (mask m n : ℕ) →
    let t : Bool = two (queued ws w) in
    wait_masks (queued ws w) (cond t m mask) (cond t mask n) ≡ wait_masks ws m n ++ (mask ∷ [])
join-masks [] e w mask m n = refl
join-masks (x ∷ []) e w mask m n = refl
join-masks (x ∷ y ∷ ws) e w mask m n = not-both true refl e

-- ---- one record more

module _ (cx : Context) (st : List ℕ) (before : List Record) where
  module _ (l : List Record) (m : ModelState) (e : model_all cx fresh_model (before ++ l) ≡ m) (r : Record) where
    abbrev longer : List Record
    longer = before ++ (l ++ (r ∷ []))

    abbrev stored-by : List ℕ
    stored-by = store_all cx fresh_model (before ++ l) st

    model-one : model_all cx fresh_model longer ≡ model_next cx m r
    unfolding model_all
    model-one = rw (← append_assoc before l (r ∷ []), model-append cx fresh_model (before ++ l) (r ∷ []), e)

    store-one : store_all cx fresh_model longer st ≡ store_next cx m r stored-by
    unfolding store_all
    store-one = rw (← append_assoc before l (r ∷ []), store-append cx fresh_model (before ++ l) (r ∷ []) st, e)

    answers_one : answers_all cx fresh_model longer st ≡ answers_all cx fresh_model (before ++ l) st ++ answer_of (read_of cx m.channel r) stored-by
    unfolding answers_all
    answers_one = rw (← append_assoc before l (r ∷ []), answers-append cx fresh_model (before ++ l) (r ∷ []) st, e) (rw append-nil)

    masks-one : masks_all cx fresh_model longer ≡ masks_all cx fresh_model (before ++ l) ++ mask_by cx m r
    unfolding masks_all
    masks-one = rw (← append_assoc before l (r ∷ []), masks-append cx fresh_model (before ++ l) (r ∷ []), e) (rw append-nil)

    data-one : DataIn r → Every DataIn (before ++ l) → Every DataIn longer
    data-one h k = rw (← append_assoc before l (r ∷ [])) (every_append DataIn (before ++ l) (r ∷ []) k (h, tt))

  module _ (d : Draft) (memory : List ℕ) (answers : List (List ℕ)) (masks : List ℕ) (refr : ℕ) (older newer : Dualoct) (k : SimAt cx st before d memory answers masks refr older newer) where
    abbrev now : ModelState
    now = record { channel = d.planner.channel; refr = refr; bytes = older; second = newer }

    abbrev stored : List ℕ
    stored = store_all cx fresh_model (before ++ d.records) st

    abbrev retired : List ℕ
    retired = masks_all cx fresh_model (before ++ d.records)

    sim-more : (z : Draft) (r : Record) (after-memory after-masks : List ℕ) → z.records ≡ d.records ++ (r ∷ []) → z.planner.channel ≡ after cx d.planner.channel r → DataIn r
        → after-memory ≡ done_all cx z.planner.channel (waiting z) z.planner.mask z.planner.second (bytes_next cx now r) (second_next now r) (store_next cx now r stored)
        → retired ++ mask_by cx now r ++ wait_masks (waiting z) z.planner.mask z.planner.second ≡ after-masks
        → SimAt cx st before z after-memory (answers ++ answer_of (read_of cx d.planner.channel r) stored) after-masks (refr_next cx r refr) (bytes_next cx now r) (second_next now r)
    unfolding model_next
    sim-more z r after-memory after-masks er ec f h g =
        record {
          model = rw (er, ec) (model-one d.records now k.model r);
          flat = rw (er, store-one d.records now k.model r) h;
          same = rw er (answers_one d.records now k.model r ∙ rw k.same);
          written-under = rw (er, masks-one d.records now k.model r) g;
          data-in = rw er (data-one d.records now k.model r f k.data-in);
        }

    -- a packet that retires nothing and changes no bank of a waiting write
    sim-kept : (x : Record) → leaver cx d.planner x ≡ None → waiting (sent cx x d) ≡ waiting d → WritesIn cx (waiting d) → (q : ℕ → Bool) (new : Bank) → in_banks q (waiting d) ≡ false
        → Changed q new (state_in d) (state_in (sent cx x d)) → DataIn (placed_in cx d.planner x) → bytes_next cx now (placed_in cx d.planner x) ≡ older → second_next now (placed_in cx d.planner x) ≡ newer
        → Sim cx st before (sent cx x d) memory (answers ++ answer_of (read_of cx d.planner.channel (placed_in cx d.planner x)) stored) masks
    unfolding store_next retired_write
    sim-kept x stays same i q new far c di bn sn =
        let z : Draft = sent cx x d in
        let r : Record = placed_in cx d.planner x in
        let none-gone : leaving_of cx d.planner.channel r ≡ None = here-leaving cx x d ∙ stays in
        record {
          refr = refr_next cx r refr;
          older = bytes_next cx now r;
          newer = second_next now r;
          at = sim-more z r memory masks (sent-records cx x d) (sent-channel cx x d) di
              (rw (bn, sn, none-gone, same, sent-mask cx x d, sent-second cx x d, stays)
              (k.flat ∙ done-far cx d.planner.channel z.planner.channel q new c (waiting d) i far d.planner.mask d.planner.second older newer stored))
              (rw (none-gone, same, sent-mask cx x d, sent-second cx x d, stays, append-nil retired) k.written-under);
        }

    -- a ROW packet that changes no bank of a waiting write
    pub sim-row : (p : RowPacket) → WritesIn cx (waiting d) → (q : ℕ → Bool) (new : Bank) → in_banks q (waiting d) ≡ false
        → Changed q new (state_in d) (state_in (sent cx (row_packet p) d)) → Sim cx st before (sent cx (row_packet p) d) memory answers masks
    unfolding bytes_next second_next read_of placed_at under answer_of
    sim-row p i q new far c = rw append-nil at (sim-kept (row_packet p) (row-gone cx p d) (row-waiting cx p d) i q new far c tt refl refl)

    -- RD leaves the waiting writes, and RDA closes none of their banks
    pub sim-rd : (close : Bool) (b c : ℕ) → Sized d → WritesIn cx (waiting d) → close && in_banks (near cx b) (waiting d) ≡ false
        → Sim cx st before (sent cx (col_packet (Rd b c 0xFFFF close)) d) memory (answers ++ (dualoct stored (dualoct_at cx b (open_row (state_in d b)) c) ∷ [])) masks
    unfolding bytes_next second_next read_of placed_at under answer_of retired_write state_by traits col_traits
    sim-rd close b c n i far =
        let x : Record = col_packet (Rd b c 0xFFFF close) in
        let q : ℕ → Bool = reaches cx (cond close (Some b) None) in
        let ch : Changed q Closed (state_in d) (state_in (sent cx x d)) = λ y m. sent-state cx x d n y m ∙ rw (read-gone cx b c 0xFFFF close d) (implied-changed cx (cond close (Some b) None) y (state_in d y)) in
        sim-kept x (read-gone cx b c 0xFFFF close d) (read-waiting cx b c 0xFFFF close d) i q Closed (reached-none close far) ch tt
        (rw (here-leaving cx x d ∙ read-gone cx b c 0xFFFF close d)) refl
      where
        reached-none : (close : Bool) → close && in_banks (near cx b) (waiting d) ≡ false → in_banks (reaches cx (cond close (Some b) None)) (waiting d) ≡ false
        reached-none true h = h
        reached-none false h = none-picked (waiting d)

    -- what a packet that may retire makes of flat memory: the store takes what leaves
    leaves-done : (x : Record) → Sized d → WritesIn cx (waiting d) → (q : ℕ → Bool) → Changed q Closed (state_in d) (state_in (sent cx x d)) → in_banks q (left (leaver cx d.planner x) (waiting d)) ≡ false →
        let o : Option Write = leaver cx d.planner x in
        memory ≡ done_all cx (sent cx x d).planner.channel (left o (waiting d)) (shifted o d.planner.mask d.planner.second) d.planner.second (bytes_left o older newer) newer
        (retired_to cx d.planner.channel o (carried o d.planner.mask) older stored)
    unfolding leaving
    leaves-done x n i q c far =
        let o : Option Write = leaver cx d.planner x in
        let here : Record = placed_at (slot cx d.planner x) x in
        let test : Bool = (traits here).not_read && passed cx (first (waiting d)) (instant here) in
        let m : ℕ = d.planner.mask in
        let n : ℕ = d.planner.second in
        k.flat ∙ leave-done cx d.planner.channel d.planner.channel.buffer test m n older newer stored
        ∙ done-far cx d.planner.channel (sent cx x d).planner.channel q Closed c (left o (waiting d)) (left_in cx o (waiting d) i) far
        (shifted o m n) n (bytes_left o older newer) newer (retired_to cx d.planner.channel o (carried o m) older stored)

    leaves-masks : (x : Record) →
        let o : Option Write = leaver cx d.planner x in
        retired ++ mask_if o (carried o d.planner.mask) ++ wait_masks (left o (waiting d)) (shifted o d.planner.mask d.planner.second) d.planner.second ≡ masks
    unfolding leaving
    leaves-masks x =
        let here : Record = placed_at (slot cx d.planner x) x in
        let test : Bool = (traits here).not_read && passed cx (first (waiting d)) (instant here) in
        append_assoc retired _ _
        ∙ ap (λ (l : List ℕ). retired ++ l) (leave-masks d.planner.channel.buffer test d.planner.mask d.planner.second) ∙ k.written-under

    -- NOCOP retires the older write
    pub sim-flushed : Sized d → WritesIn cx (waiting d) → newest_closes (waiting d) ≡ true → Sim cx st before (flushed cx d) memory answers masks
    unfolding flushed bytes_next second_next read_of placed_at under answer_of store_next retired_write retire_mask refr_next
    sim-flushed n i nq =
        let x : Record = col_packet (Nocop 0xFFFF) in
        let z : Draft = sent cx x d in
        let r : Record = placed_in cx d.planner x in
        let o : Option Write = leaver cx d.planner x in
        let q : ℕ → Bool = reaches cx (retire_implies (first (waiting d))) in
        let c : Changed q Closed (state_in d) (state_in z) = λ y m. flushed-state cx d n y m ∙ implied-changed cx (retire_implies (first (waiting d))) y (state_in d y) in
        let ws : waiting z ≡ left o (waiting d) = nocop-left in
        let far : in_banks q (left o (waiting d)) ≡ false = rw (flushed-gone cx d) (left_far (waiting d) nq) in
        record {
          refr = refr;
          older = bytes_left (leaving_of cx d.planner.channel r) older newer;
          newer = newer;
          at = rw append-nil at (sim-more z r memory masks (sent-records cx x d) (sent-channel cx x d) tt
              (rw (ws, sent-mask cx x d, sent-second cx x d, here-leaving cx x d) (leaves-done x n i q c far))
              (rw (ws, sent-mask cx x d, sent-second cx x d, here-leaving cx x d) (leaves-masks x)));
        }
      where
        left_far : (ws : List Write) → newest_closes ws ≡ true → in_banks (reaches cx (retire_implies (first ws))) (left (first ws) ws) ≡ false
        left_far [] h = refl
        left_far (w ∷ ws) h = rest-far cx (w ∷ ws) h

        nocop-left : waiting (sent cx (col_packet (Nocop 0xFFFF)) d) ≡ left (leaver cx d.planner (col_packet (Nocop 0xFFFF))) (waiting d)
        nocop-left = flushed-waiting cx d ∙ rw (flushed-gone cx d) (sym (go (waiting d)))
          where
            go : (ws : List Write) → left (first ws) ws ≡ rest ws
            go [] = refl
            go (w ∷ ws) = refl

  -- WR with two waiting retires the older one: fewer than two are left
  pub written-few : (d : Draft) (b c : ℕ) (x : Bool) → two (left (leaver cx d.planner (col_packet (Wr b c 0xFFFF x))) (waiting d)) ≡ false
  unfolding leaving slot least_from placed_at instant traits col_traits waiting_of
  written-few d b c cl = go d.planner.channel.buffer (max d.planner.now.0 (earliest cx d.planner.channel (col_packet (Wr b c 0xFFFF cl))))
    where
      r : Record
      r = col_packet (Wr b c 0xFFFF cl)

      late : (a b t : ℕ) → a ≤ max t (max a b)
      late a b t = omega arith

      one : (q : Bool) (x : Write) → two (left (only_write q (Some x)) (x ∷ [])) ≡ false
      one true x = refl
      one false x = refl

      go : (f : Buffer) (t0 : ℕ)
          → two (left (only_write (passed cx (first (waiting_of f)) (slot_from cx d.planner.channel (col_packet (Wr b c 0xFFFF cl)) t0 (waiting_of f))) (first (waiting_of f))) (waiting_of f)) ≡ false
      go Empty t0 = refl
      go (One x) t0 = one (leb (x.at.0 + cx.settings.rtr) (slot_from cx d.planner.channel (col_packet (Wr b c 0xFFFF cl)) t0 (x ∷ []))) x
      go (Two x y) t0 = rw (le-leb (x.at.0 + cx.settings.rtr) (max t0 (max (x.at.0 + cx.settings.rtr) (retire_least cx d.planner.channel (col_packet (Wr b c 0xFFFF cl)) x))) (late (x.at.0 + cx.settings.rtr) (retire_least cx d.planner.channel (col_packet (Wr b c 0xFFFF cl)) x) t0))

  -- WR retires what is due, and waits itself, with the data of its D
  module _ (d : Draft) (memory : List ℕ) (answers : List (List ℕ)) (masks : List ℕ) (refr : ℕ) (older newer : Dualoct) (k : SimAt cx st before d memory answers masks refr older newer) (close : Bool) (at : Place) (row mask : ℕ) (bytes : Dualoct) where
    abbrev x : Record
    x = col_packet (Wr at.bank at.column 0xFFFF close)

    abbrev z : Draft
    z = sent cx x d

    abbrev r : Record
    r = placed_in cx d.planner x

    abbrev o : Option Write
    o = leaver cx d.planner x

    abbrev new : Write
    new = record { bank = at.bank; column = at.column; at = record { 0 = slot cx d.planner x }; close = close }

    waits : waiting z ≡ queued (left o (waiting d)) new
    unfolding loads placed_at under
    waits = sent-waiting cx x d

    abbrev was : ModelState
    was = now d memory answers masks refr older newer k

    abbrev memory-then : List ℕ
    memory-then = done_all cx z.planner.channel (waiting z) z.planner.mask z.planner.second (bytes_next cx was r) (second_next was r) (store_next cx was r (stored d memory answers masks refr older newer k))

    abbrev masks-then : List ℕ
    masks-then = retired d memory answers masks refr older newer k ++ mask_by cx was r ++ wait_masks (waiting z) z.planner.mask z.planner.second

    -- after the WR, with some data for it
    wr-sent : SimAt cx st before z memory-then answers masks-then refr (bytes_next cx was r) (second_next was r)
    unfolding read_of placed_at under answer_of refr_next
    wr-sent = rw append-nil at (sim-more d memory answers masks refr older newer k z r memory-then masks-then (sent-records cx x d) (sent-channel cx x d) tt refl refl)

    wr-store : store_all cx fresh_model (before ++ z.records) st ≡ retired_to cx d.planner.channel o (carried o d.planner.mask) older (stored d memory answers masks refr older newer k)
    unfolding placed_at under store_next retired_write retire_mask
    wr-store = rw (sent-records cx x d) (store-one d.records (now d memory answers masks refr older newer k) k.model r ∙ rw (here-leaving cx x d))

    wr-masks : masks_all cx fresh_model (before ++ z.records) ≡ retired d memory answers masks refr older newer k ++ mask_if o (carried o d.planner.mask)
    unfolding placed_at under retired_write retire_mask
    wr-masks = rw (sent-records cx x d) (masks-one d.records (now d memory answers masks refr older newer k) k.model r ∙ rw (here-leaving cx x d))

    older-then : bytes_next cx was r ≡ bytes_left o older newer
    unfolding bytes_next retired_write placed_at under
    older-then = rw (here-leaving cx x d)

    newer-then : second_next was r ≡ newer
    unfolding second_next placed_at under
    newer-then = refl

    data-stays : (ws : List Write) (t : DataAt) → leaving cx ws (DataOf t bytes) ≡ None
    unfolding traits
    data-stays ws t = keeps-all cx (DataOf t bytes) ws refl

    wr-state : (y : ℕ) (b : Bank) → retire_implies o ≡ None → state_by cx o x y b ≡ b
    unfolding state_by traits col_traits
    wr-state y b e = rw e

    pub sim-written : (bytes.dqa < 2 ^ 64) × (bytes.dqb < 2 ^ 64) → Sized d → WritesIn cx (waiting d) → retire_implies o ≡ None → at.bank < bank_count → state_in d at.bank ≡ Open row
        → Sim cx st before (written cx close at mask bytes d) (masked memory (dualoct_at cx at.bank row at.column) mask (dualoct_bytes bytes)) answers (masks ++ (mask ∷ []))
    unfolding written loaded bytes_next second_next read_of answer_of store_next retired_write open_row refr_next after after_data
    sim-written i n wi pl m op =
        let y : Draft = loaded cx mask bytes z in
        let q : Record = DataOf (record { 0 = z.planner.now.0 + cx.settings.cwd }) bytes in
        let ws : List Write = left o (waiting d) in
        let m1 : ℕ = shifted o d.planner.mask d.planner.second in
        let a1 : Dualoct = bytes_left o older newer in
        let c : Changed (λ x. false) Closed (state_in d) (state_in z) = λ y m. sent-state cx x d n y m ∙ wr-state y (state_in d y) pl in
        let few : two ws ≡ false = written-few d at.bank at.column close in
        let state : state_in z at.bank ≡ Open row = c at.bank m ∙ op in
        let store1 : List ℕ = retired_to cx d.planner.channel o (carried o d.planner.mask) older (stored d memory answers masks refr older newer k) in
        let flat : masked memory (dualoct_at cx at.bank row at.column) mask (dualoct_bytes bytes)
        ≡ done_all cx z.planner.channel (queued ws new) (cond (two (queued ws new)) m1 mask) (cond (two (queued ws new)) mask d.planner.second) (cond (two (queued ws new)) a1 bytes) (cond (two (queued ws new)) bytes newer) store1 =
        sym (join-done cx z.planner.channel ws few new mask m1 d.planner.second bytes a1 newer store1 ∙ rw (state, ← leaves-done d memory answers masks refr older newer k x n wi (λ x. false) c (none-picked ws))) in
        let under-masks : retired d memory answers masks refr older newer k ++ mask_if o (carried o d.planner.mask) ++ (wait_masks ws m1 d.planner.second ++ (mask ∷ [])) ≡ masks ++ (mask ∷ []) =
        sym (append_assoc (retired d memory answers masks refr older newer k ++ mask_if o (carried o d.planner.mask)) (wait_masks ws m1 d.planner.second) (mask ∷ []))
        ∙ ap (λ (l : List ℕ). l ++ (mask ∷ [])) (leaves-masks d memory answers masks refr older newer k x) in
        record {
          refr = refr;
          older = cond (two (waiting z)) (bytes_next cx was r) bytes;
          newer = cond (two (waiting z)) bytes (second_next was r);
          at = rw append-nil at (sim-more z memory-then answers masks-then refr (bytes_next cx was r) (second_next was r) wr-sent y q (masked memory (dualoct_at cx at.bank row at.column) mask (dualoct_bytes bytes)) (masks ++ (mask ∷ [])) refl refl i
              (rw (data-stays (waiting z) (record { 0 = z.planner.now.0 + cx.settings.cwd }), older-then, newer-then, wr-store, waits, sent-mask cx x d, sent-second cx x d)
              (flat ∙ done-same cx z.planner.channel y.planner.channel (λ x. refl) (queued ws new) _ _ _ _ store1))
              (rw (data-stays (waiting z) (record { 0 = z.planner.now.0 + cx.settings.cwd }), append-nil, wr-masks, waits, sent-mask cx x d, sent-second cx x d, join-masks ws few new mask m1 d.planner.second) under-masks));
        }
