-- What ready bytes say of the state, and what a stored number says of the least instant of a packet.
-- Assumes nothing.
use Prim.Native.Nat.{ℕ, ◌+◌, ◌*◌, ◌-◌, ◌<◌, ◌≤◌, max}
use mathlib.Core.Path.{◌≡◌, refl, sym, ap, ◌∙◌}
use mathlib.Core.Bool.{Bool, true, false, cond}
use mathlib.Core.List.{List}
use native.Mathlib.Omega.{arith}
use borrow.Author.Tests.{eqb-false, lt-ltb}
use lib.Dec.{eqb}
use lib.ListN.{length, get_or}
use Rattle.settings.specs.declared.Settings.{Settings}
use Rattle.settings.proofs.SettingsLaws.{bounds}
use Rattle.record.specs.declared.Record.{Record}
use Rattle.spec_rules.specs.declared.Write.{Write}
use Rattle.spec_rules.specs.declared.Buffer.{Buffer}
use Rattle.spec_rules.specs.declared.Buffer.TheVariants.{Empty, One, Two}
use Rattle.spec_rules.specs.Neighbour.{bank_count, context_of}
use Rattle.spec_rules.specs.History.{is_open}
use Rattle.spec_rules.specs.Channel.{state_of, waiting_of}
use Rattle.spec_rules.specs.Earliest.{least_from, earliest}
use Rattle.spec_rules.proofs.Bools.{and_left, neither}
use Rattle.spec_rules.proofs.EarliestLaws.{picked-late}
use Rattle.spec_state.specs.ChannelBytes.{instant_of, track_in, lasts_in, write_in, buffer_in, channel_in}
use Rattle.spec_state.proofs.EachInstant.{TrackAll, WritesAll}
use Rattle.spec_state.proofs.NextValid.{open-not-closed}
use Rattle.spec_state.proofs.RoundTrip.{SomeBack, stored-in, WritesIn}
use Rattle.spec_state.proofs.StoreLaws.{ByBytes, WriteIn, SidesClosed, sides-closed}
use Rattle.spec_plan.specs.declared.PlannerState.{PlannerState}
use Rattle.spec_plan.specs.Plan.{slot}
use Rattle.spec_plan.specs.PlannerBytes.{planner_in}
use Rattle.spec_plan.proofs.Invariant.{Inv}
use Rattle.spec_plan.proofs.CallLaws.{Rest}
use Rattle.spec_plan.proofs.PlannerRoundTrip.{planner-length}
use Rattle.plan_bytes.specs.Form.Numbers.{word, waits_in, held_bank, held_closes, two_in, Tops, Below}
use Rattle.plan_bytes.specs.Form.Drawn.{Readies, Ready, Rests, Rested, OpenAt}
use Rattle.plan_bytes.proofs.Tops.{Under, least-top}
use Rattle.plan_bytes.proofs.Instants.{top-said}
use Rattle.plan_bytes.proofs.States.{Early, track-at, two_is, one-is, waiting-is}
use Rattle.plan_bytes.proofs.Puts.{Plain, BankIn}

-- ---- what ready bytes say

-- a stored instant that is below a top
instant-top : (b : List ℕ) (top at k : ℕ) → Tops top b → k < 160 → 4 * k ≡ at → instant_of (word b at) ≤ top + 3
instant-top b top at k t l e = rw e at (top-said (word b (4 * k)) top (t.banks k l))

module _ (s : Settings) (top : ℕ) (b : List ℕ) (k : Ready s top b) where
  pub readies : Readies s top b
  unfolding Ready
  readies = k

  tops : Tops top b
  unfolding Below
  tops = readies.below

  abbrev p : PlannerState
  p = planner_in b

  pub inv : Inv (context_of s) p
  inv = readies.inv

  pub ready-length : length b ≡ 768
  ready-length = ap length (sym readies.exact) ∙ planner-length p

  pub device-in : s.device < 32
  device-in = omega (arith, (bounds s readies.figures).device-most)

  by_bytes : (w : Write) → (w.bank < bank_count) × (w.column < s.columns) → ByBytes w
  unfolding bank_count
  by_bytes w i = let l = i.0 in let m = i.1 in (omega arith, omega (arith, (bounds s readies.figures).columns-most))

  write-fits : (buffer : Buffer) → WritesIn (context_of s) (waiting_of buffer) → WriteIn buffer × BankIn buffer
  unfolding waiting_of bank_count context_of
  write-fits Empty i = (tt, tt)
  write-fits (One x) i = (by_bytes x i.0, i.0.0)
  write-fits (Two x y) i = ((by_bytes x i.0, by_bytes y i.1.0), (i.0.0, i.1.0.0))

  pub plain : Plain p.channel
  unfolding bank_count
  plain = record { size = inv.size; write = (write-fits p.channel.buffer inv.held.write-in).0; no_due = inv.held.no_due }

  pub bank-in : BankIn p.channel.buffer
  bank-in = (write-fits p.channel.buffer inv.held.write-in).1

  pub early : Early p.channel.buffer
  unfolding waiting_of
  early = go p.channel.buffer readies.instants.writes
    where
      go : (buffer : Buffer) → WritesAll SomeBack (waiting_of buffer) → Early buffer
      go Empty e = tt
      go (One x) e = e.0.0
      go (Two x y) e = e.0.0

  -- the older waiting write
  pub held-bank : waits_in b ≡ true → held_bank b < 32
  held-bank e = go (two_in b) refl
    where
      go : (q : Bool) → two_in b ≡ q → held_bank b < 32
      go true f = (rw (two_is b f) at bank-in).0
      go false f = rw (one-is b e f) at bank-in

  pub held-early : waits_in b ≡ true → 4 ≤ (write_in b 736).at.0
  held-early e = go (two_in b) refl
    where
      go : (q : Bool) → two_in b ≡ q → 4 ≤ (write_in b 736).at.0
      go true f = rw (two_is b f) at early
      go false f = rw (one-is b e f) at early

  track-top : (x : ℕ) → x < 32 → TrackAll (λ t. t ≤ top + 3) (track_in b x)
  unfolding track_in
  track-top x l =
      record {
        opened = instant-top b top (4 * x) x tops (omega arith) refl;
        act = instant-top b top (128 + 4 * x) (32 + x) tops (omega arith) (omega arith);
        pre = instant-top b top (256 + 4 * x) (64 + x) tops (omega arith) (omega arith);
        rd = instant-top b top (384 + 4 * x) (96 + x) tops (omega arith) (omega arith);
        retire = instant-top b top (512 + 4 * x) (128 + x) tops (omega arith) (omega arith);
      }

  writes-top : WritesAll (λ t. t ≤ top + 3) (waiting_of (buffer_in b))
  unfolding buffer_in waiting_of
  writes-top = go (eqb (get_or b 728 0) 0) (eqb (get_or b 728 0) 1) refl refl
    where
      go : (q r : Bool) → eqb (get_or b 728 0) 0 ≡ q → eqb (get_or b 728 0) 1 ≡ r
          → WritesAll (λ t. t ≤ top + 3) (waiting_of (cond q Empty (cond r (One (write_in b 736)) (Two (write_in b 736) (write_in b 744)))))
      go true r e f = tt
      go false true e f = (top-said (word b 740) top (tops.wrote (rw e)), tt)
      go false false e f =
          let both : two_in b ≡ true = lt-ltb 1 (get_or b 728 0) (omega (arith, eqb-false (get_or b 728 0) 0 e, eqb-false (get_or b 728 0) 1 f)) in
          (top-said (word b 740) top (tops.wrote (rw e)), (top-said (word b 748) top (tops.second both), tt))

  pub under_top : Under (top + 3) p.channel
  unfolding planner_in channel_in lasts_in bank_count
  under_top =
      record {
        lasts = record {
          size = inv.size;
          banks = λ x l. rw (track-at b x l) (track-top x l);
          packet = top-said (word b 704) top tops.packet;
          row = top-said (word b 708) top tops.row;
          col = top-said (word b 712) top tops.col;
          pre = top-said (word b 716) top tops.pre;
          rd = top-said (word b 720) top tops.rd;
          implied = top-said (word b 724) top tops.implied;
        };
        writes = writes-top;
      }

  pub now-top : p.now.0 ≤ top + 3
  unfolding planner_in
  now-top = top-said (word b 752) top tops.now

  slot-top : (r : Record) → slot (context_of s) p r ≤ top + 67
  unfolding slot context_of
  slot-top r = omega (arith, least-top (context_of s) p.channel (top + 3) under_top readies.figures r p.now.0 now-top)

  -- of an open bank the neighbours are closed
  pub sides-shut : (x : ℕ) → x < 32 → OpenAt b x → SidesClosed (context_of s) p.channel x
  unfolding bank_count
  sides-shut x l o = sides-closed (context_of s) p.channel x (λ y m n. inv.banked.one-closed x y l m n) o

  -- the bank of the older write is open
  pub held-open : waits_in b ≡ true → OpenAt b (held_bank b)
  held-open e = open-not-closed (state_of p.channel (held_bank b)) (and_left (is_open (state_of p.channel (held_bank b))) _ (rw (waiting-is b e) at inv.held.opened))

-- ---- bytes at rest

module _ (s : Settings) (top : ℕ) (b : List ℕ) (k : Rested s top b) where
  rests : Rests s top b
  unfolding Rested
  rests = k

  pub ready : Ready s top b
  ready = rests.ready

  pub at_rest : Rest (context_of s) (planner_in b)
  at_rest = record { inv = inv s top b ready; plain = rests.plain }

  -- the older write does not close its bank
  pub held_plain : waits_in b ≡ true → held_closes b ≡ false
  held_plain e = (neither (held_closes b) _ (rw (waiting-is b e) at rests.plain)).0

-- ---- least instants

module _ (s : Settings) (b : List ℕ) where
  -- a stored number that says the least instant of a packet
  pub record Says (v : ℕ) (r : Record) : Type 0 where
    pub stored : v ≡ slot (context_of s) (planner_in b) r - 3
    pub instant : v + 3 ≡ slot (context_of s) (planner_in b) r
    pub fits : v + 3 ≤ 1000012100

  slot-low : 4 ≤ (planner_in b).now.0 → (r : Record) → 4 ≤ slot (context_of s) (planner_in b) r
  unfolding slot least_from
  slot-low low r =
      let p : PlannerState = planner_in b in
      let t0 : ℕ = max p.now.0 (earliest (context_of s) p.channel r) in
      omega (arith, picked-late (context_of s) p.channel r t0 (waiting_of p.channel.buffer))

  pub says : 4 ≤ (planner_in b).now.0 → (v : ℕ) (r : Record) → slot (context_of s) (planner_in b) r ≤ 1000012100 → instant_of v ≡ slot (context_of s) (planner_in b) r → Says v r
  says low v r m e =
      let a : v ≡ slot (context_of s) (planner_in b) r - 3 = sym (stored-in v) ∙ ap (λ (n : ℕ). n - 3) e in
      let l = slot-low low r in
      record { stored = a; instant = omega arith; fits = omega arith }

-- on ready bytes
pub said : (s : Settings) (top : ℕ) (b : List ℕ) (k : Ready s top b) → top ≤ 1000012000 → (v : ℕ) (r : Record) → instant_of v ≡ slot (context_of s) (planner_in b) r → Says s b v r
said s top b k h v r e = says s b (inv s top b k).low v r (omega (arith, slot-top s top b k r)) e
