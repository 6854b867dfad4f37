-- The NOCOPs after a WRA: one retires the write before it, if there is one, and one the WRA itself.
-- Assumes nothing.
use Prim.Native.Nat.{ℕ, ◌+◌, ◌≤◌}
use mathlib.Core.Path.{◌≡◌, sym, ap, ◌∙◌}
use mathlib.Core.Bool.{Bool, true, false}
use mathlib.Core.List.{List, [], ◌∷◌}
use native.Mathlib.Omega.{arith}
use lib.ListN.{length}
use Rattle.settings.specs.declared.Settings.{Settings}
use Rattle.packet.specs.declared.ColPacket.TheVariants.{Nocop}
use Rattle.spec_rules.specs.declared.Write.{Write}
use Rattle.spec_rules.specs.Neighbour.{Context, context_of}
use Rattle.spec_rules.specs.History.{queued}
use Rattle.spec_rules.specs.Channel.{waiting_of}
use Rattle.spec_rules.proofs.Bools.{neither}
use Rattle.spec_rules.proofs.NeighbourLaws.{core-neighbours}
use Rattle.spec_state.specs.ChannelBytes.{write_in}
use Rattle.spec_plan.specs.Plan.{Draft, col_packet, waiting, any_waits, any_closes, flushed, flushed_while}
use Rattle.spec_plan.specs.PlannerBytes.{planner_in}
use Rattle.spec_plan.proofs.Trace.{trace-start}
use Rattle.spec_plan.proofs.SentLaws.{flushed-waiting}
use Rattle.spec_plan.proofs.PlanLaws.{Good, good-flushed}
use Rattle.plan_bytes.specs.Form.Numbers.{waits_in, held_closes, two_in}
use Rattle.plan_bytes.specs.Form.Drawn.{drafted, Ready, Fits, Drawn}
use Rattle.plan_bytes.proofs.Marks.{Marked, marked_more, marked-sent}
use Rattle.plan_bytes.proofs.States.{two_is, one-is, waiting-is}
use Rattle.plan_bytes.proofs.ReadyLaws.{readies, inv}
use Rattle.plan_bytes.proofs.Again.{start, After, after-step, ready-more}
use Rattle.plan_bytes.proofs.Compose.{flushed-blind, fits-first, fits-then, drawn-then}
use Rattle.plan_steps.specs.Form.Closing.{NewestCloses}
use Rattle.plan_steps.proofs.Tested.{waits-is}
use Rattle.plan_steps.proofs.Stepwise.{one-flushed}

-- ---- bytes that say a WRA behind these writes, none of which closes its bank

-- whether the first of a list closes its bank, and the second
abbrev first_closes : List Write → Bool
first_closes [] = false
first_closes (x ∷ ws) = x.close

abbrev second_closes : List Write → Bool
second_closes [] = false
second_closes (x ∷ ws) = first_closes ws

module _ (b : List ℕ) (w : Write) (c : w.close ≡ true) where
  pub newest-closes : (ws : List Write) → any_closes ws ≡ false → waiting (drafted b) ≡ queued ws w → NewestCloses b
  unfolding waiting_of
  newest-closes [] o e =
      let one : two_in b ≡ true → ⊥ = λ q. omega (arith, ap length (sym (ap waiting_of (two_is b q)) ∙ e)) in
      let waits : waits_in b ≡ true = waits-is b ∙ ap any_waits e in
      record {
        waits = waits;
        alone = λ q. ap first_closes (sym (ap waiting_of (one-is b waits q)) ∙ e) ∙ c;
        older = λ q. absurd (one q);
        newer = λ q. absurd (one q);
      }
  newest-closes (x ∷ ws) o e =
      let waits : waits_in b ≡ true = waits-is b ∙ ap any_waits e in
      record {
        waits = waits;
        alone = λ q. absurd (omega (arith, ap length (sym (ap waiting_of (one-is b waits q)) ∙ e)));
        older = λ q. ap first_closes (sym (ap waiting_of (two_is b q)) ∙ e) ∙ (neither x.close _ o).0;
        newer = λ q. ap second_closes (sym (ap waiting_of (two_is b q)) ∙ e) ∙ c;
      }

-- ---- the NOCOPs

module _ (s : Settings) (top : ℕ) (b : List ℕ) (k : Ready s top b) (h : top ≤ 1000011000) (n : NewestCloses b) where
  abbrev cx : Context
  cx = context_of s

  abbrev d : Draft
  d = drafted b

  -- two wait, or the WRA alone
  both : two_in b ≡ true → waiting d ≡ write_in b 736 ∷ write_in b 744 ∷ []
  unfolding waiting_of
  both e = rw (two_is b e)

  alone : two_in b ≡ false → waiting d ≡ write_in b 736 ∷ []
  unfolding waiting_of
  alone e = rw (one-is b n.waits e)

  pub closing-ready : Ready s 1000012000 b
  closing-ready = ready-more s top 1000012000 b (omega arith) k

  -- ---- the WRA alone: one NOCOP

  module _ (e : two_in b ≡ false) where
    once_is : flushed_while cx any_closes d ≡ flushed cx d
    unfolding flushed_while
    once_is =
        let f : any_closes (waiting d) ≡ true = rw (alone e, n.alone e) in
        let g : any_closes (waiting (flushed cx d)) ≡ false = rw (flushed-waiting cx d, alone e) in
        rw (f, g)

    pub once-fits : (room : List ℕ) (at : ℕ) → Fits (flushed_while cx any_closes d) room at → at + 32 ≤ length room
    once-fits room at f = let g : Fits (flushed cx d) room at = rw once_is at f in omega (arith, one-flushed cx (planner_in b))

    pub once-drawn : (room : List ℕ) (at : ℕ) (b1 room1 : List ℕ) (to1 : ℕ) → Drawn s (flushed cx d) room at b1 room1 to1 → Drawn s (flushed_while cx any_closes d) room at b1 room1 to1
    once-drawn room at b1 room1 to1 w = rw once_is w

  -- ---- another before it: two

  module _ (e : two_in b ≡ true) where
    then : waiting (flushed cx d) ≡ write_in b 744 ∷ []
    then = flushed-waiting cx d ∙ rw (both e)

    twice-is : flushed_while cx any_closes d ≡ flushed cx (flushed cx d)
    unfolding flushed_while
    twice-is =
        let f : any_closes (waiting d) ≡ true = rw (both e, n.older e, n.newer e) in
        let g : any_closes (waiting (flushed cx d)) ≡ true = rw (then, n.newer e) in
        rw (f, g)

    good : Good cx (planner_in b) d
    good = record { trace = trace-start cx (planner_in b); inv = inv s top b k; queue = rw (both e, n.older e) }

    module _ (room : List ℕ) (at : ℕ) (fits : Fits (flushed_while cx any_closes d) room at) where
      both-fits : Fits (flushed cx (flushed cx d)) room at
      both-fits = rw twice-is at fits

      pub older-fits : at + 32 ≤ length room
      older-fits = let f : Fits (flushed cx d) room at = fits-first (flushed cx) (flushed-blind cx) (flushed cx d) room at both-fits in omega (arith, one-flushed cx (planner_in b))

      -- the older one has retired
      module _ (b1 room1 : List ℕ) (to1 : ℕ) (w : Drawn s (flushed cx d) room at b1 room1 to1) where
        marked : Marked s 1000012003 (flushed cx d)
        unfolding flushed
        marked = marked_more s (top + 3 + 96) 1000012003 (omega arith) _ (marked-sent s (readies s top b k).figures (top + 3) d (start s top b k) (omega arith) (col_packet (Nocop 0xFFFF)))

        pub older-after : After s 1000012000 (flushed cx d) b1
        older-after = after-step s (readies s top b k).figures 1000012000 (flushed cx d) (omega arith) marked (good-flushed cx (core-neighbours s) (planner_in b) d good).inv b1 w.planner

        left : waiting (drafted b1) ≡ write_in b 744 ∷ []
        left = rw older-after.back then

        pub newer-waits : waits_in b1 ≡ true
        newer-waits = waits-is b1 ∙ rw left

        pub newer-closes : held_closes b1 ≡ true
        newer-closes = ap first_closes (sym (waiting-is b1 newer-waits) ∙ left) ∙ n.newer e

        pub newer-fits : to1 + 32 ≤ length room1
        newer-fits = omega (arith, fits-then s (flushed cx) (flushed-blind cx) (flushed cx d) room at b1 room1 to1 w older-after.back both-fits, one-flushed cx (planner_in b1))

        pub twice-drawn : (b2 room2 : List ℕ) (to2 : ℕ) → Drawn s (flushed cx (drafted b1)) room1 to1 b2 room2 to2 → Drawn s (flushed_while cx any_closes d) room at b2 room2 to2
        twice-drawn b2 room2 to2 v = rw twice-is (drawn-then s (flushed cx) (flushed-blind cx) (flushed cx d) room at b1 room1 to1 w older-after.back both-fits b2 room2 to2 v)
