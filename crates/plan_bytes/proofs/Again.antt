-- The bytes after a step are ready for the next one.
-- Assumes nothing.
use Prim.Native.Nat.{ℕ, ◌+◌, ◌*◌, ◌-◌, ◌<◌, ◌≤◌}
use mathlib.Core.Path.{◌≡◌, refl, sym, ap, ◌∙◌}
use mathlib.Core.Bool.{Bool, true, false, ◌&&◌, ◌||◌}
use mathlib.Core.List.{List}
use native.Mathlib.Omega.{arith}
use borrow.Author.Tests.{eqb-true, leb-true, ltb-true, ltb-false}
use lib.Dec.{eqb, leb, ltb}
use lib.ListN.{length}
use Rattle.num.specs.Bytes.{Bytes}
use Rattle.settings.specs.declared.Settings.{Settings}
use Rattle.settings.specs.Settings.{valid}
use Rattle.settings.specs.Instants.{horizon, is_instant}
use Rattle.spec_rules.specs.Neighbour.{bank_count, Context, context_of}
use Rattle.spec_rules.specs.Channel.{waiting_of}
use Rattle.spec_rules.proofs.Bools.{and_left, and_right}
use Rattle.spec_state.specs.Valid.{is_stamp, channel_valid}
use Rattle.spec_state.specs.ChannelBytes.{instant_of, track_in, lasts_in, channel_in, zero_part, channel_spare}
use Rattle.spec_state.proofs.EachInstant.{TrackAll, all_more}
use Rattle.spec_state.proofs.Stamps.{Stamp, IsInstant}
use Rattle.spec_state.proofs.NextValid.{valid-sound}
use Rattle.spec_state.proofs.RoundTrip.{Back, some_back, Kept, valid-kept}
use Rattle.spec_plan.specs.declared.PlannerState.{PlannerState}
use Rattle.spec_plan.specs.Planner.{planner_valid}
use Rattle.spec_plan.specs.Plan.{Draft, waiting, any_closes}
use Rattle.spec_plan.specs.PlannerBytes.{planner_length, planner_bytes, planner_in, planner_right}
use Rattle.spec_plan.proofs.Invariant.{Inv, valid-tested, valid-inv, valid-plain}
use Rattle.spec_plan.proofs.PlannerRoundTrip.{planner-length, planner-back, planner-encode-decode}
use Rattle.plan_bytes.specs.Form.Numbers.{word, waits_in, two_in, Tops, Below}
use Rattle.plan_bytes.specs.Form.Drawn.{drafted, Ready, Rested}
use Rattle.plan_bytes.proofs.Tops.{Under}
use Rattle.plan_bytes.proofs.Marks.{far, Marked}
use Rattle.plan_bytes.proofs.Instants.{said-top}
use Rattle.plan_bytes.proofs.States.{track-at, waiting-is, two_is}
use Rattle.plan_bytes.proofs.ReadyLaws.{readies, inv, under_top, now-top}

-- ready bytes say a draft with no record yet
pub start : (s : Settings) (top : ℕ) (b : List ℕ) → Ready s top b → Marked s (top + 3) (drafted b)
start s top b k = record { instants = (readies s top b k).instants; under = under_top s top b k; low = (inv s top b k).low; now = now-top s top b k }

-- ---- the numbers of bytes that say a state below a top

module _ (s : Settings) (top : ℕ) (b : List ℕ) (low : 4 ≤ (planner_in b).now.0) (u : Under (top + 3) (planner_in b).channel) (n : (planner_in b).now.0 ≤ top + 3) where
  track-under : (x : ℕ) → x < 32 → TrackAll (λ t. t ≤ top + 3) (track_in b x)
  unfolding bank_count
  track-under x l = rw (track-at b x l) at (u.lasts.banks x l)

  -- the instant of bank x in a plane
  at-plane : (k at : ℕ) → 4 * k ≡ at → instant_of (word b at) ≤ top + 3 → word b (4 * k) ≤ top
  at-plane k at e h = rw e (said-top (word b at) top h)

  banks-under : (k : ℕ) → k < 160 → word b (4 * k) ≤ top
  unfolding track_in
  banks-under k l = go (ltb k 32) (ltb k 64) (ltb k 96) (ltb k 128) refl refl refl refl
    where
      go : (p q r t : Bool) → ltb k 32 ≡ p → ltb k 64 ≡ q → ltb k 96 ≡ r → ltb k 128 ≡ t → word b (4 * k) ≤ top
      go true q r t e f g h = at-plane k (4 * k) refl (track-under k (ltb-true k 32 e)).opened
      go false true r t e f g h = let m = ltb-false k 32 e in let n = ltb-true k 64 f in at-plane k (128 + 4 * (k - 32)) (omega arith) (track-under (k - 32) (omega arith)).act
      go false false true t e f g h = let m = ltb-false k 64 f in let n = ltb-true k 96 g in at-plane k (256 + 4 * (k - 64)) (omega arith) (track-under (k - 64) (omega arith)).pre
      go false false false true e f g h = let m = ltb-false k 96 g in let n = ltb-true k 128 h in at-plane k (384 + 4 * (k - 96)) (omega arith) (track-under (k - 96) (omega arith)).rd
      go false false false false e f g h = let m = ltb-false k 128 h in at-plane k (512 + 4 * (k - 128)) (omega arith) (track-under (k - 128) (omega arith)).retire

  wrote-under : waits_in b ≡ true → word b 740 ≤ top
  wrote-under w = said-top (word b 740) top (rw (waiting-is b w) at u.writes).0

  second-under : two_in b ≡ true → word b 748 ≤ top
  unfolding waiting_of
  second-under e = said-top (word b 748) top (rw (two_is b e) at u.writes).1.0

  below : Below top b
  unfolding Below planner_in channel_in lasts_in
  below =
      record {
        banks = banks-under;
        packet = said-top (word b 704) top u.lasts.packet;
        row = said-top (word b 708) top u.lasts.row;
        col = said-top (word b 712) top u.lasts.col;
        pre = said-top (word b 716) top u.lasts.pre;
        rd = said-top (word b 720) top u.lasts.rd;
        implied = said-top (word b 724) top u.lasts.implied;
        wrote = wrote-under;
        second = second-under;
        now = said-top (word b 752) top n;
      }

-- ---- the bytes after a step

pub record After (s : Settings) (top : ℕ) (d : Draft) (b : List ℕ) : Type 0 where
  pub back : planner_in b ≡ d.planner
  pub ready : Ready s top b
  pub size : length b ≡ 768

pub after-step : (s : Settings) → valid s ≡ true → (top : ℕ) (d : Draft) → top ≤ far → Marked s (top + 3) d → Inv (context_of s) d.planner → (b : List ℕ) → b ≡ planner_bytes d.planner → After s top d b
unfolding Ready context_of bank_count
after-step s v top d h m i b e =
    let p : PlannerState = d.planner in
    let kept : Kept (context_of s) p.channel = record { instants = m.instants; rows_in = i.banked.rows_in; write-in = i.held.write-in } in
    let now : Back p.now.0 = some_back p.now.0 m.low (omega (arith, m.now)) in
    let back : planner_in b ≡ p = ap planner_in e ∙ planner-back (context_of s) v p kept now (omega (arith, i.refresh-in)) i.mask-in i.second-in in
    record {
      back = back;
      ready = record {
        figures = v;
        exact = ap planner_bytes back ∙ sym e;
        inv = rw back i;
        instants = rw back m.instants;
        below = below s top b (rw back m.low) (rw back m.under) (rw back m.now);
      };
      size = ap length e ∙ planner-length p;
    }

-- the same where no write that waits closes its bank
pub record AtRest (s : Settings) (top : ℕ) (d : Draft) (b : List ℕ) : Type 0 where
  pub back : planner_in b ≡ d.planner
  pub ready : Rested s top b
  pub size : length b ≡ 768

pub rest-step : (s : Settings) (top : ℕ) (d : Draft) → any_closes (waiting d) ≡ false → (b : List ℕ) → After s top d b → AtRest s top d b
unfolding Rested
rest-step s top d e b a = record { back = a.back; ready = record { ready = a.ready; plain = rw a.back e }; size = a.size }

-- a higher top
pub ready-more : (s : Settings) (top high : ℕ) (b : List ℕ) → top ≤ high → Ready s top b → Ready s high b
unfolding Ready Below
ready-more s top high b l k =
    let t : Tops top b = k.below in
    record {
      figures = k.figures;
      exact = k.exact;
      inv = k.inv;
      instants = k.instants;
      below = record {
        banks = λ i m. omega (arith, t.banks i m);
        packet = omega (arith, t.packet);
        row = omega (arith, t.row);
        col = omega (arith, t.col);
        pre = omega (arith, t.pre);
        rd = omega (arith, t.rd);
        implied = omega (arith, t.implied);
        wrote = λ w. omega (arith, t.wrote w);
        second = λ e. omega (arith, t.second e);
        now = omega (arith, t.now);
      };
    }

-- a lower top
pub ready-below : (s : Settings) (top low : ℕ) (b : List ℕ) → Ready s top b → Below low b → Ready s low b
unfolding Ready
ready-below s top low b k t = record { figures = k.figures; exact = k.exact; inv = k.inv; instants = k.instants; below = t }

-- both of bytes at rest
pub rested-more : (s : Settings) (top high : ℕ) (b : List ℕ) → top ≤ high → Rested s top b → Rested s high b
unfolding Rested
rested-more s top high b l k = record { ready = ready-more s top high b l k.ready; plain = k.plain }

pub rested-below : (s : Settings) (top low : ℕ) (b : List ℕ) → Rested s top b → Below low b → Rested s low b
unfolding Rested
rested-below s top low b k t = record { ready = ready-below s top low b k.ready t; plain = k.plain }

-- the bytes of a call: no instant is past the last one, which is stored less 3
right_valid : (s : Settings) (b : List ℕ) → planner_right (context_of s) b ≡ true → planner_valid (context_of s) (planner_in b) ≡ true
unfolding planner_right planner_length
right_valid s b r = and_right (channel_spare b && (zero_part b 758 2 && zero_part b 764 4)) _ (and_right (eqb (length b) 768) _ r)

ready_call : (s : Settings) (b : List ℕ) → valid s ≡ true → Bytes b → planner_right (context_of s) b ≡ true → Ready s 999999997 b
unfolding Ready planner_valid
ready_call s b v w r =
    let cx : Context = context_of s in
    let p : PlannerState = planner_in b in
    let right : planner_valid cx p ≡ true = right_valid s b r in
    let channel : channel_valid cx p.channel ≡ true = and_left (channel_valid cx p.channel) _ right in
    let i : Inv cx p = valid-inv cx p right in
    let most : Under horizon p.channel = all_more Stamp IsInstant (λ t. t ≤ horizon) (λ t. t ≤ horizon) stamp-most instant-most p.channel (valid-sound cx p.channel channel).stamped in
    record {
      figures = v;
      exact = planner-encode-decode cx b w r;
      inv = i;
      instants = (valid-kept cx p.channel channel).instants;
      below = below s 999999997 b i.low most (instant-most p.now.0 (valid-tested cx p right).now-in);
    }
  where
    instant-most : (t : ℕ) → is_instant t ≡ true → t ≤ horizon
    instant-most t e = leb-true t horizon (and_right (leb 4 t) _ e)

    stamp-most : (t : ℕ) → is_stamp t ≡ true → t ≤ horizon
    stamp-most t e = go (eqb t 0) refl e
      where
        go : (z : Bool) → eqb t 0 ≡ z → z || is_instant t ≡ true → t ≤ horizon
        go true f i = omega (arith, eqb-true t 0 f)
        go false f i = instant-most t i

pub rested-call : (s : Settings) (b : List ℕ) → valid s ≡ true → Bytes b → planner_right (context_of s) b ≡ true → Rested s 999999997 b
unfolding Rested
rested-call s b v w r = record { ready = ready_call s b v w r; plain = valid-plain (context_of s) (planner_in b) (right_valid s b r) }
