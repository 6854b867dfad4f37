-- Each step on a draft in code is that step on the draft which it draws.
-- Assumes nothing.
use Rattle.std.specs.Prelude.{None, Some}
use Prim.Native.Nat.{ℕ, zero, suc, ◌+◌, ◌%◌, ◌≤◌, max}
use mathlib.Core.Path.{◌≡◌, refl, sym, ◌∙◌, ap}
use mathlib.Core.Bool.{Bool, true, false, not, ◌&&◌, ◌||◌, cond, or-true, or-false}
use mathlib.Core.List.{List, [], ◌∷◌, ◌++◌}
use lib.Dec.{leb}
use lib.ListN.{length}
use borrow.Author.Tests.{leb-true, leb-false, le-leb, lt-leb}
use native.Mathlib.Omega.{arith}
use Rattle.settings.specs.declared.Settings.{Settings}
use Rattle.settings.specs.declared.PacketAt.{PacketAt}
use Rattle.settings.specs.declared.DataAt.{DataAt}
use Rattle.settings.specs.Instants.{horizon, arrival}
use Rattle.packet.specs.declared.RowPacket.TheVariants.{Act, Prer, Refa, Refp}
use Rattle.packet.specs.declared.ColPacket.TheVariants.{Nocop}
use Rattle.record.specs.declared.Dualoct.{Dualoct}
use Rattle.record.specs.declared.Record.{Record}
use Rattle.record.specs.declared.Record.TheVariants.{DataOf}
use Rattle.spec_rules.specs.declared.Write.{Write}
use Rattle.spec_rules.specs.Neighbour.{bank_count, Context, context_of, near}
use Rattle.spec_rules.specs.declared.Channel.{Channel}
use Rattle.spec_rules.specs.Packets.{traits, instant}
use Rattle.spec_rules.specs.History.{is_closed, leaving, any_write, two}
use Rattle.spec_rules.specs.Rules.{longest_delay, implied_delay}
use Rattle.spec_rules.specs.Channel.{state_of, waiting_of, leaving_of, after}
use Rattle.spec_rules.specs.Earliest.{placed_at}
use Rattle.spec_rules.proofs.Bools.{not-both, not-fails, and_left, neither, leb-max}
use Rattle.spec_rules.proofs.EarliestLaws.{moved-instant}
use Rattle.spec_plan.specs.declared.PlannerState.{PlannerState}
use Rattle.spec_plan.specs.Plan.{Draft, row_packet, col_packet, when, waiting, state_in, open_on, carried, shifted, slot, leaver, sent, flushed, flushed_while, closed, closed_up_to, reached, loaded, turned, planned_wait}
use Rattle.spec_plan.specs.Call.{in_time, timely}
use Rattle.spec_plan.proofs.Timely.{Walked, walked_one, latest-one, latest_of, timely-latest, sent-walked, sent-latest, now-sent}
use Rattle.plan_by_value.specs.declared.Command.{Command}
use Rattle.plan_by_value.specs.declared.Command.TheVariants.{Row, Col}
use Rattle.plan_by_value.specs.declared.Draft.{Draft as Drawn}
use Rattle.plan_by_value.specs.Form.Drawn.{packet_of, clip, placed_by, Draws, added_to, moved_to}
use Rattle.plan_by_value.proofs.DrawLaws.{Grows, in-time, draws-late, late-after, when-grows, draws-when, draws-added}

-- ---- instants

-- where the last packet is in time, so is all before it
last_of : (l n t a b : ℕ) → n ≤ t → max (max l (max (t + a) (t + b))) t ≡ max (max l n) (t + max a b)
last_of l n t a b e = omega (arith, e)

clip-in : (t x : ℕ) → leb (t + x) horizon ≡ true → clip t ≡ t
clip-in t x h = rw (le-leb t horizon (omega (arith, leb-true (t + x) horizon h)))

twice : (b : Bool) → b ≡ not (not b)
twice true = refl
twice false = refl

-- a packet that has no instant yet
pub unplaced : (c : Command) → placed_at 0 (packet_of c) ≡ packet_of c
unfolding placed_at
unplaced (Row p) = refl
unplaced (Col p) = refl

-- what a retire implies asks nothing where the packet is late anyhow
clip-late : (f : ℕ → ℕ) (a t : ℕ) → leb (t + max a (f (clip t))) horizon ≡ leb (t + max a (f t)) horizon
clip-late f a t = go (leb t horizon) refl
  where
    past : (x : ℕ) → leb t horizon ≡ false → leb (t + x) horizon ≡ false
    past x h = lt-leb (t + x) horizon (omega (arith, leb-false t horizon h))

    go : (b : Bool) → leb t horizon ≡ b → leb (t + max a (f (cond b t horizon))) horizon ≡ leb (t + max a (f t)) horizon
    go true h = refl
    go false h = past (max a (f horizon)) h ∙ sym (past (max a (f t)) h)

-- a packet in its place is not after the last instant, nor are data in time
pub placed-in-range : (s : Settings) (p : PlannerState) (t : ℕ) (c : Command) → instant (placed_by s p (clip t) (packet_of c)) ≤ horizon
placed-in-range s p t c = rw (moved-instant (context_of s) p.channel (clip t) (carried (leaving_of (context_of s) p.channel (placed_at (clip t) (packet_of c))) p.mask) (packet_of c)) (go (leb t horizon) refl)
  where
    go : (b : Bool) → leb t horizon ≡ b → cond b t horizon ≤ horizon
    go true e = leb-true t horizon e
    go false e = omega arith

pub arrival-in : (n : PacketAt) (d : ℕ) (t : DataAt) → arrival n d ≡ Some t → t.0 ≤ horizon
unfolding arrival
arrival-in n d t e = go (leb (n.0 + d) horizon) refl e
  where
    go : (b : Bool) → leb (n.0 + d) horizon ≡ b → cond b (Some (record { 0 = n.0 + d })) None ≡ Some t → t.0 ≤ horizon
    go true h q = let z : t ≡ record { 0 = n.0 + d } = cc in rw z (leb-true (n.0 + d) horizon h)
    go false h q = absurd (let z : ◌≡◌ {A = ℕ} 0 1 = cc in omega arith)

module _ (s : Settings) (from : PlannerState) where
  abbrev cx : Context
  cx = context_of s

  grows_then : (d e f : Draft) → Grows s from d e → Grows s from e f → Grows s from d f
  grows_then d e f g h w = let a = g w in let b = h a.0 in (b.0, λ x. a.1 (b.1 x))

  -- ---- a packet

  -- how long after a packet at t the last of what it sets comes
  abbrev pub delay_at : PlannerState → Record → ℕ → ℕ
  delay_at p r t = max (longest_delay cx r) (implied_delay cx (leaving_of cx p.channel (placed_at t r)))

  sent-timely : (r : Record) (e : Draft) → Walked cx from e → timely cx from (sent cx r e) ≡ timely cx from e && leb (slot cx e.planner r + delay_at e.planner r (slot cx e.planner r)) horizon
  unfolding sent
  sent-timely r e w =
      let t : ℕ = slot cx e.planner r in
      timely-latest cx from (sent cx r e)
      ∙ rw (sent-latest cx from r e w, last_of (latest_of cx from e) e.planner.now.0 t (longest_delay cx r) (implied_delay cx (leaver cx e.planner r)) (now-sent cx from r e w))
      (leb-max (max (latest_of cx from e) e.planner.now.0) (t + delay_at e.planner r t) horizon)
      ∙ ap (λ (b : Bool). b && leb (t + delay_at e.planner r t) horizon) (sym (timely-latest cx from e))

  sent-grows : (r : Record) (e : Draft) → Grows s from e (sent cx r e)
  sent-grows r e w = (sent-walked cx from r e w, λ h. and_left (timely cx from e) _ (sym (sent-timely r e w) ∙ h))

  -- a planner after a packet that takes instant t
  abbrev pub packet_at : PlannerState → ℕ → Record → PlannerState
  packet_at p t r =
      record {
        channel = after cx p.channel (placed_by s p t r);
        now = record { 0 = t };
        refresh = p.refresh;
        mask = shifted (leaving_of cx p.channel (placed_at t r)) p.mask p.second;
        second = p.second;
      }

  pub draws-sent : (d : Drawn) (e : Draft) (r : Record) → length d.list ≡ 32 → Draws s from d e
      → let t : ℕ = slot cx d.planner r in
      Draws s from (added_to d (packet_at d.planner (clip t) r) (placed_by s d.planner (clip t) r) (not (leb (t + delay_at d.planner r (clip t)) horizon))) (sent cx r e)
  unfolding sent
  draws-sent d e r size k =
      draws-added s from d e (sent cx r e) _ _ _ size k (sent-grows r e) (λ f. (timed f, λ g. same (k.planner f) (not-fails _ _ refl g)))
    where
      t : ℕ
      t = slot cx d.planner r

      timed : d.late ≡ false → timely cx from (sent cx r e) ≡ not (not (leb (t + delay_at d.planner r (clip t)) horizon))
      timed f =
          sent-timely r e k.walked
          ∙ rw (in-time s from d e k f, ← k.planner f, clip-late (λ u. implied_delay cx (leaving_of cx d.planner.channel (placed_at u r))) (longest_delay cx r) t) (twice _)

      same : d.planner ≡ e.planner → leb (t + delay_at d.planner r (clip t)) horizon ≡ true
          → (packet_at d.planner (clip t) r ≡ (sent cx r e).planner) × ((sent cx r e).records ≡ e.records ++ (placed_by s d.planner (clip t) r ∷ []))
      same q h = rw (clip-in t _ h, q) (refl, refl)

  -- NOCOPs by the same test
  pub while-ext : (test other : List Write → Bool) → ((ws : List Write) → test ws ≡ other ws) → (e : Draft) → flushed_while cx test e ≡ flushed_while cx other e
  unfolding flushed_while
  while-ext test other same e =
      let z : Draft = when (other (waiting e)) (flushed cx) e in
      rw (same (waiting e), same (waiting z))

  -- ---- no step undoes lateness

  flushed-grows : (e : Draft) → Grows s from e (flushed cx e)
  unfolding flushed
  flushed-grows e = sent-grows (col_packet (Nocop 0xFFFF)) e

  -- NOCOP where the waiting writes pass a test
  pub draws-flushed : (d z : Drawn) (e : Draft) (test : List Write → Bool) → Draws s from d e → (b : Bool) → b ≡ test (waiting_of d.planner.channel.buffer)
      → Draws s from z (when b (flushed cx) e) → Draws s from z (when (test (waiting e)) (flushed cx) e)
  draws-flushed d z e test k b h j = draws-when s from d z e (λ p. test (waiting_of p.channel.buffer)) (flushed cx) (flushed-grows e) k b h j

  while-grows : (test : List Write → Bool) (e : Draft) → Grows s from e (flushed_while cx test e)
  unfolding flushed_while
  while-grows test e =
      let z : Draft = when (test (waiting e)) (flushed cx) e in
      grows_then e z _ (when-grows s from (flushed cx) e (flushed-grows e) (test (waiting e))) (when-grows s from (flushed cx) z (flushed-grows z) (test (waiting z)))

  closed-grows : (x : ℕ) (e : Draft) → Grows s from e (closed cx x e)
  unfolding closed
  closed-grows x e =
      let z : Draft = flushed_while cx (any_write (λ w. near cx x w.bank)) e in
      grows_then e z _ (while-grows (any_write (λ w. near cx x w.bank)) e) (sent-grows (row_packet (Prer x)) z)

  up-to-grows : (pick : ℕ → Bool) (n : ℕ) (e : Draft) → Grows s from e (closed_up_to cx pick n e)
  unfolding closed_up_to
  up-to-grows pick zero e w = (w, λ h. h)
  up-to-grows pick (suc n) e w =
      let z : Draft = closed_up_to cx pick n e in
      grows_then e z _ (up-to-grows pick n e) (when-grows s from (closed cx n) z (closed-grows n z) (pick n && not (is_closed (state_in z n)))) w

  reach-grows : (b row : ℕ) (e : Draft) → Grows s from e (sent cx (row_packet (Act b row)) (closed_up_to cx (near cx b) bank_count e))
  reach-grows b row e =
      let z : Draft = closed_up_to cx (near cx b) bank_count e in
      grows_then e z _ (up-to-grows (near cx b) bank_count e) (sent-grows (row_packet (Act b row)) z)

  -- one bank's turn
  pub draws-turn : (d z : Drawn) (e : Draft) (pick : ℕ → Bool) (x : ℕ) → Draws s from d e → (b : Bool) → b ≡ (pick x && not (is_closed (state_of d.planner.channel x)))
      → Draws s from z (when b (closed cx x) e) → Draws s from z (when (pick x && not (is_closed (state_in e x))) (closed cx x) e)
  draws-turn d z e pick x k b h j = draws-when s from d z e (λ p. pick x && not (is_closed (state_of p.channel x))) (closed cx x) (closed-grows x e) k b h j

  pub draws-reached : (d z : Drawn) (e : Draft) (bank row : ℕ) → Draws s from d e → (b : Bool) → b ≡ open_on (state_of d.planner.channel bank) row
      → Draws s from z (when (not b) (λ d. sent cx (row_packet (Act bank row)) (closed_up_to cx (near cx bank) bank_count d)) e) → Draws s from z (reached cx bank row e)
  unfolding reached
  draws-reached d z e bank row k b h j =
      draws-when s from d z e (λ p. not (open_on (state_of p.channel bank) row)) (λ d. sent cx (row_packet (Act bank row)) (closed_up_to cx (near cx bank) bank_count d))
      (reach-grows bank row e) k (not b) (ap not h) j

  -- what a refresh of bank b is
  abbrev pub refreshed : Draft → ℕ → Draft
  refreshed e b = turned cx (sent cx (row_packet (Refp b)) (sent cx (row_packet (Refa b)) (closed_up_to cx (near cx b) bank_count e)))

  pub refreshed-grows : (e : Draft) (b : ℕ) → Grows s from e (refreshed e b)
  unfolding turned timely
  refreshed-grows e b =
      let z : Draft = closed_up_to cx (near cx b) bank_count e in
      let y : Draft = sent cx (row_packet (Refa b)) z in
      let w : Draft = sent cx (row_packet (Refp b)) y in
      grows_then e y w (grows_then e z y (up-to-grows (near cx b) bank_count e) (sent-grows (row_packet (Refa b)) z)) (sent-grows (row_packet (Refp b)) y)

  -- ---- closing, bank by bank

  pub up-to-next : (pick : ℕ → Bool) (n : ℕ) (e : Draft)
      → closed_up_to cx pick (n + 1) e ≡ when (pick n && not (is_closed (state_in (closed_up_to cx pick n e) n))) (closed cx n) (closed_up_to cx pick n e)
  unfolding closed_up_to
  up-to-next pick n e = ap (λ m. closed_up_to cx pick m e) one
    where
      one : n + 1 ≡ suc n
      one = omega arith

  pub up-to-none : (pick : ℕ → Bool) (e : Draft) → closed_up_to cx pick 0 e ≡ e
  unfolding closed_up_to
  up-to-none pick e = refl

  -- ---- the end of a write, a refresh and a wait

  loaded-walked : (mask : ℕ) (bytes : Dualoct) (e : Draft) → Walked cx from e → Walked cx from (loaded cx mask bytes e)
  unfolding loaded context_of
  loaded-walked mask bytes e w = walked_one cx from.channel e.records (DataOf (record { 0 = e.planner.now.0 + s.cwd }) bytes) ∙ ap (λ (c : Channel). after cx c (DataOf (record { 0 = e.planner.now.0 + s.cwd }) bytes)) w

  loaded-timely : (mask : ℕ) (bytes : Dualoct) (e : Draft) → timely cx from (loaded cx mask bytes e) ≡ timely cx from e && leb (e.planner.now.0 + s.cwd) horizon
  unfolding loaded instant longest_delay leaving traits context_of
  loaded-timely mask bytes e =
      let n : ℕ = e.planner.now.0 in
      timely-latest cx from (loaded cx mask bytes e)
      ∙ rw (latest-one cx from.channel e.records (DataOf (record { 0 = n + s.cwd }) bytes), data-last (latest_of cx from e) n s.cwd)
      (leb-max (max (latest_of cx from e) n) (n + s.cwd) horizon)
      ∙ ap (λ (b : Bool). b && leb (n + s.cwd) horizon) (sym (timely-latest cx from e))
    where
      data-last : (l n d : ℕ) → max (max l (max (n + d + 0) (n + d + 0))) n ≡ max (max l n) (n + d)
      data-last l n d = omega arith

  loaded-grows : (mask : ℕ) (bytes : Dualoct) (e : Draft) → Grows s from e (loaded cx mask bytes e)
  loaded-grows mask bytes e w = (loaded-walked mask bytes e w, λ h. and_left (timely cx from e) _ (sym (loaded-timely mask bytes e) ∙ h))

  -- the data pass the last instant
  pub draws-unloaded : (d : Drawn) (e : Draft) (mask : ℕ) (bytes : Dualoct) → Draws s from d e → arrival d.planner.now s.cwd ≡ None
      → Draws s from (moved_to d d.planner true) (loaded cx mask bytes e)
  unfolding arrival
  draws-unloaded d e mask bytes k a = draws-late s from (moved_to d d.planner true) (loaded cx mask bytes e) (loaded-walked mask bytes e k.walked) (or-true d.late) (go d.late refl)
    where
      past : (b : Bool) → (let t : DataAt = record { 0 = d.planner.now.0 + s.cwd } in cond b (Some t) None ≡ None) → b ≡ false
      past true h = cc
      past false h = refl

      go : (b : Bool) → d.late ≡ b → timely cx from (loaded cx mask bytes e) ≡ false
      go true f = late-after s from d e (loaded cx mask bytes e) k (loaded-grows mask bytes e) f
      go false f = loaded-timely mask bytes e ∙ rw (in-time s from d e k f, ← k.planner f) (past (leb (d.planner.now.0 + s.cwd) horizon) a)

  -- the planner once the data of its newest write have come, at instant t
  abbrev pub loaded_at : PlannerState → ℕ → Record → PlannerState
  loaded_at p mask q =
      record {
        channel = after cx p.channel q;
        now = p.now;
        refresh = p.refresh;
        mask = cond (two (waiting_of p.channel.buffer)) p.mask mask;
        second = cond (two (waiting_of p.channel.buffer)) mask p.second;
      }

  pub draws-loaded : (d : Drawn) (e : Draft) (mask : ℕ) (bytes : Dualoct) (t : DataAt) → length d.list ≡ 32 → Draws s from d e → arrival d.planner.now s.cwd ≡ Some t
      → Draws s from (added_to d (loaded_at d.planner mask (DataOf t bytes)) (DataOf t bytes) false) (loaded cx mask bytes e)
  unfolding loaded arrival context_of
  draws-loaded d e mask bytes t size k a = draws-added s from d e (loaded cx mask bytes e) _ _ _ size k (loaded-grows mask bytes e) (λ f. (timed f, λ g. same (k.planner f)))
    where
      found : (b : Bool) → leb (d.planner.now.0 + s.cwd) horizon ≡ b → cond b (Some (record { 0 = d.planner.now.0 + s.cwd })) None ≡ Some t
          → (leb (d.planner.now.0 + s.cwd) horizon ≡ true) × (t ≡ record { 0 = d.planner.now.0 + s.cwd })
      found true h q = (h, cc)
      found false h q = not-both false (cc) refl

      here : (leb (d.planner.now.0 + s.cwd) horizon ≡ true) × (t ≡ record { 0 = d.planner.now.0 + s.cwd })
      here = found (leb (d.planner.now.0 + s.cwd) horizon) refl a

      timed : d.late ≡ false → timely cx from (loaded cx mask bytes e) ≡ true
      timed f = loaded-timely mask bytes e ∙ rw (in-time s from d e k f, ← k.planner f) here.0

      same : d.planner ≡ e.planner
          → (loaded_at d.planner mask (DataOf t bytes) ≡ (loaded cx mask bytes e).planner)
          × ((loaded cx mask bytes e).records ≡ e.records ++ (DataOf t bytes ∷ []))
      same q = rw (here.1, q) (refl, refl)

  turn-mod : (a : ℕ) → (a % 32 + 1) % 32 ≡ (a + 1) % 32
  turn-mod a = omega arith

  pub draws-turned : (d : Drawn) (e : Draft) → Draws s from d e
      → Draws s from (moved_to d (record { channel = d.planner.channel; now = d.planner.now; refresh = (d.planner.refresh % 32 + 1) % 32; mask = d.planner.mask; second = d.planner.second }) false) (turned cx e)
  unfolding turned bank_count timely
  draws-turned d e k = rw (or-false d.late) (record { walked = k.walked; late = k.late; planner = λ f. rw (k.planner f, turn-mod e.planner.refresh); records = λ f n. k.records f n })

  wait-grows : (cycles : ℕ) (e : Draft) → Grows s from e (planned_wait cx cycles e)
  unfolding planned_wait timely
  wait-grows cycles e w = (w, λ h. go (in_time cx from.channel e.records) h)
    where
      go : (a : Bool) → a && leb (e.planner.now.0 + cycles) horizon ≡ true → a && leb e.planner.now.0 horizon ≡ true
      go true h = le-leb e.planner.now.0 horizon (omega (arith, leb-true (e.planner.now.0 + cycles) horizon h))
      go false h = h

  pub draws-waited : (d : Drawn) (e : Draft) (cycles : ℕ) → Draws s from d e
      → let t : ℕ = d.planner.now.0 + cycles in
      Draws s from (moved_to d (record { channel = d.planner.channel; now = record { 0 = clip t }; refresh = d.planner.refresh; mask = d.planner.mask; second = d.planner.second }) (not (leb t horizon))) (planned_wait cx cycles e)
  unfolding planned_wait timely
  draws-waited d e cycles k =
      record {
        walked = k.walked;
        late = go d.late refl;
        planner = λ f. same (k.planner (neither d.late _ f).0) (not-fails _ _ refl (neither d.late _ f).1);
        records = λ f n. k.records (neither d.late _ f).0 n;
      }
    where
      go : (b : Bool) → d.late ≡ b → d.late || not (leb (d.planner.now.0 + cycles) horizon) ≡ not (in_time cx from.channel e.records && leb (e.planner.now.0 + cycles) horizon)
      go true l = rw (l, late-after s from d e (planned_wait cx cycles e) k (wait-grows cycles e) l)
      go false l = rw (l, k.planner l, and_left (in_time cx from.channel e.records) _ (in-time s from d e k l))

      same : d.planner ≡ e.planner → leb (d.planner.now.0 + cycles) horizon ≡ true
          → (record { channel = d.planner.channel; now = record { 0 = clip (d.planner.now.0 + cycles) }; refresh = d.planner.refresh; mask = d.planner.mask; second = d.planner.second }) ≡ (planned_wait cx cycles e).planner
      same q h = rw (h, q)
