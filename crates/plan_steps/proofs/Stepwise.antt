-- The steps of the plan on bytes, one command after the other.
-- Assumes nothing.
use Prim.Native.Nat.{ℕ, ◌+◌, ◌*◌, ◌<◌, ◌≤◌}
use mathlib.Core.Path.{◌≡◌, refl, sym, ◌∙◌}
use mathlib.Core.Bool.{Bool, true, false, not}
use mathlib.Core.List.{List, [], ◌∷◌}
use native.Mathlib.Omega.{arith}
use lib.Dec.{leb}
use lib.ListN.{length}
use Rattle.settings.specs.declared.Settings.{Settings}
use Rattle.packet.specs.declared.RowPacket.TheVariants.{Act, Prer}
use Rattle.packet.specs.declared.ColPacket.TheVariants.{Nocop}
use Rattle.record.specs.declared.Record.{Record}
use Rattle.spec_rules.specs.declared.Write.{Write}
use Rattle.spec_rules.specs.Neighbour.{bank_count, Context, context_of, near}
use Rattle.spec_rules.specs.History.{is_closed, any_write}
use Rattle.spec_rules.proofs.Bools.{not-both}
use Rattle.spec_rules.proofs.NeighbourLaws.{core-neighbours}
use Rattle.spec_plan.specs.declared.PlannerState.{PlannerState}
use Rattle.spec_plan.specs.Plan.{Draft, row_packet, col_packet, when, waiting, state_in, open_on, any_waits, sent, flushed, flushed_while, closed, closed_up_to, reached}
use Rattle.spec_plan.specs.PlannerBytes.{planner_bytes, planner_in}
use Rattle.spec_plan.proofs.SentLaws.{when-either, Plain, flushed-plain, flushed-same, while-idle, while-state}
use Rattle.spec_plan.proofs.CallLaws.{rested}
use Rattle.spec_plan.proofs.PlanLaws.{Good, good-flushed, good-while, good-up-to, good-cleared}
use Rattle.plan_bytes.specs.Form.Numbers.{waits_in, held_closes}
use Rattle.plan_bytes.specs.Form.Drawn.{bare, drafted, Ready, Rested, OpenAt, NearShut, Fits, Drawn}
use Rattle.plan_bytes.proofs.Marks.{Marked, marked_more, marked-when, marked-while, marked-up-to, marked_all}
use Rattle.plan_bytes.proofs.ReadyLaws.{readies, inv, ready, at_rest, held_plain}
use Rattle.plan_bytes.proofs.Again.{start, after-step, AtRest, rest-step, ready-more}
use Rattle.plan_bytes.proofs.Compose.{Blind, sent-blind, again-blind, drawn-none, fits-first, fits-then, drawn-then, one-sent}
use Rattle.plan_steps.proofs.Tested.{waits-is}
use Rattle.plan_steps.proofs.Ranges.{up-to-none, up-to-next, up-to-grows, turn-blind}

-- one record
pub one-flushed : (cx : Context) (p : PlannerState) → length (flushed cx (bare p)).records ≡ 1
unfolding flushed
one-flushed cx p = one-sent cx (col_packet (Nocop 0xFFFF)) p

module _ (s : Settings) (top : ℕ) (b : List ℕ) (k : Rested s top b) where
  r : Ready s top b
  r = ready s top b k

  abbrev cx : Context
  cx = context_of s

  abbrev d : Draft
  d = drafted b

  abbrev pub G : Draft → Type 0
  G z = Good cx (planner_in b) z × Plain cx z

  pub good : G d
  good = rested cx (planner_in b) (at_rest s top b k)

  -- the bytes of a draft that a step has come to
  pub after-of : (hi high : ℕ) (z : Draft) → hi ≤ high + 3 → high ≤ 1000012000 → Marked s hi z → G z → (b1 : List ℕ) → b1 ≡ planner_bytes z.planner → AtRest s high z b1
  after-of hi high z l h m g b1 e = rest-step s high z g.1 b1 (after-step s (readies s top b r).figures high z (omega arith) (marked_more s hi (high + 3) l z m) g.0.inv b1 e)

  -- ---- NOCOP while the waiting writes pass a test, at most twice

  module _ (h : top ≤ 1000011000) (test : List Write → Bool) (quiet : test [] ≡ false) where
    abbrev step : Draft → Draft
    step y = when (test (waiting y)) (flushed cx) y

    abbrev once : Draft
    once = step d

    once_after : (b1 : List ℕ) → b1 ≡ planner_bytes once.planner → AtRest s 1000012000 once b1
    once_after =
        after-of (top + 3 + 96) 1000012000 once (omega arith) (omega arith) (marked-when s (readies s top b r).figures (test (waiting d)) (top + 3) d (start s top b r) (omega arith))
        (when-either G (test (waiting d)) (flushed cx) d (λ _. (good-flushed cx (core-neighbours s) (planner_in b) d good.0, flushed-plain cx d good.1)) (λ _. good))

    -- it passes only where a write waits
    pub passes : (z : Draft) (q : Bool) → q ≡ test (waiting z) → q ≡ true → any_waits (waiting z) ≡ true
    passes z q e w = go (waiting z) (sym e ∙ w)
      where
        go : (ws : List Write) → test ws ≡ true → any_waits ws ≡ true
        go [] e = not-both (test []) e quiet
        go (w ∷ ws) e = refl

    module _ (room : List ℕ) (at : ℕ) (fits : Fits (flushed_while cx test d) room at) where
      both-fits : Fits (step once) room at
      unfolding flushed_while
      both-fits = fits

      -- it fails at first
      pub none-drawn : test (waiting d) ≡ false → Drawn s (flushed_while cx test d) room at b room at
      none-drawn e = rw (while-idle cx test d e) (drawn-none s b room at (readies s top b r).exact)

      -- it passes at first: a write waits, and there is room for a NOCOP
      module _ (e : test (waiting d) ≡ true) where
        pub first-waits : waits_in b ≡ true
        first-waits = waits-is b ∙ passes d true (sym e) refl

        pub first_plain : held_closes b ≡ false
        first_plain = held_plain s top b k first-waits

        pub first-ready : Ready s 1000012000 b
        first-ready = ready-more s top 1000012000 b (omega arith) r

        pub first_fits : at + 32 ≤ length room
        first_fits =
            let f : Fits (flushed cx d) room at = rw e at (fits-first step (again-blind cx test) once room at both-fits) in
            omega (arith, one-flushed cx (planner_in b))

        module _ (b1 room1 : List ℕ) (to1 : ℕ) (w : Drawn s (flushed cx d) room at b1 room1 to1) where
          once-drawn : Drawn s once room at b1 room1 to1
          once-drawn = rw e w

          pub again-after : AtRest s 1000012000 once b1
          again-after = once_after b1 once-drawn.planner

          -- a NOCOP for a write that does not close its bank leaves each bank as it was
          pub again-open : (x : ℕ) → x < 32 → OpenAt b x → OpenAt b1 x
          unfolding bank_count
          again-open x l o = rw (again-after.back, e, flushed-same cx d (inv s top b r).size good.1 x l) o

          module _ (q : Bool) (f : q ≡ test (waiting (drafted b1))) where
            pub again-fits : Fits (when q (flushed cx) (drafted b1)) room1 to1
            again-fits = rw f (fits-then s step (again-blind cx test) once room at b1 room1 to1 once-drawn again-after.back both-fits)

            pub both-drawn : (b2 room2 : List ℕ) (to2 : ℕ) → Drawn s (when q (flushed cx) (drafted b1)) room1 to1 b2 room2 to2 → Drawn s (flushed_while cx test d) room at b2 room2 to2
            unfolding flushed_while
            both-drawn b2 room2 to2 v = drawn-then s step (again-blind cx test) once room at b1 room1 to1 once-drawn again-after.back both-fits b2 room2 to2 (rw f at v)

  -- ---- a bank closed

  module _ (h : top ≤ 1000011000) (x : ℕ) (l : x < 32) where
    abbrev lost : List Write → Bool
    lost = any_write (λ w. near cx x w.bank)

    abbrev saved : Draft
    saved = flushed_while cx lost d

    pub saved_after : (b1 : List ℕ) → b1 ≡ planner_bytes saved.planner → AtRest s 1000012000 saved b1
    saved_after =
        after-of (top + 3 + 192) 1000012000 saved (omega arith) (omega arith) (marked-while s (readies s top b r).figures lost (top + 3) d (start s top b r) (omega arith))
        (good-while cx (core-neighbours s) (planner_in b) d good lost refl)

    pub saved-open : (b1 : List ℕ) → planner_in b1 ≡ saved.planner → OpenAt b x → OpenAt b1 x
    unfolding bank_count
    saved-open b1 back o = rw back (rw (while-state cx lost refl d (inv s top b r).size good.1 x l) o)

    -- the room of the NOCOPs, of the PRER, and what both make
    module _ (room : List ℕ) (at : ℕ) (fits : Fits (closed cx x d) room at) where
      abbrev prer : Record
      prer = row_packet (Prer x)

      all-fits : Fits (sent cx prer saved) room at
      unfolding closed
      all-fits = fits

      pub close-first : Fits saved room at
      close-first = fits-first (sent cx prer) (sent-blind cx prer) saved room at all-fits

      module _ (b1 room1 : List ℕ) (to1 : ℕ) (w : Drawn s saved room at b1 room1 to1) where
        abbrev back : planner_in b1 ≡ saved.planner
        back = (saved_after b1 w.planner).back

        pub close-room : to1 + 32 ≤ length room1
        close-room = omega (arith, fits-then s (sent cx prer) (sent-blind cx prer) saved room at b1 room1 to1 w back all-fits, one-sent cx prer (planner_in b1))

        pub close-drawn : (b2 room2 : List ℕ) (to2 : ℕ) → Drawn s (sent cx prer (drafted b1)) room1 to1 b2 room2 to2 → Drawn s (closed cx x d) room at b2 room2 to2
        unfolding closed
        close-drawn b2 room2 to2 v = drawn-then s (sent cx prer) (sent-blind cx prer) saved room at b1 room1 to1 w back all-fits b2 room2 to2 v

  -- ---- the open ones of a range, bank after bank

  module _ (h : top ≤ 1000001000) (first end : ℕ) (m : end ≤ 32) where
    abbrev pick : ℕ → Bool
    pick y = leb first y

    abbrev up_to : ℕ → Draft
    up_to n = closed_up_to cx pick n d

    pub up-to-after : (n : ℕ) → n ≤ end → (b1 : List ℕ) → b1 ≡ planner_bytes (up_to n).planner → AtRest s 1000011000 (up_to n) b1
    unfolding bank_count
    up-to-after n l =
        after-of (top + 3 + 288 * n) 1000011000 (up_to n) (omega arith) (omega arith) (marked-up-to s (readies s top b r).figures pick n (top + 3) d (start s top b r) (omega arith))
        (good-up-to cx (core-neighbours s) (planner_in b) d good pick n (omega arith))

    -- before the first turn of the loop
    pub first-drawn : (room : List ℕ) (at : ℕ) → Drawn s (up_to first) room at b room at
    first-drawn room at = rw (up-to-none cx d first) (drawn-none s b room at (readies s top b r).exact)

    -- a turn of it
    module _ (room : List ℕ) (at : ℕ) (fits : Fits (up_to end) room at) (n : ℕ) (l : first ≤ n) (below : n < end) (b1 room1 : List ℕ) (to1 : ℕ) (w : Drawn s (up_to n) room at b1 room1 to1) where
      abbrev turn : Draft → Draft
      turn z = when (not (is_closed (state_in z n))) (closed cx n) z

      next-is : up_to (n + 1) ≡ turn (up_to n)
      next-is = up-to-next cx d first n l

      next_fits : Fits (turn (up_to n)) room at
      next_fits = let f : Fits (up_to (n + 1)) room at = omega (arith, up-to-grows cx d pick (n + 1) end (omega arith)) in rw next-is at f

      abbrev back_at : planner_in b1 ≡ (up_to n).planner
      back_at = (up-to-after n (omega arith) b1 w.planner).back

      pub turn-fits : Fits (turn (drafted b1)) room1 to1
      turn-fits = fits-then s turn (turn-blind cx n) (up_to n) room at b1 room1 to1 w back_at next_fits

      pub turn-drawn : (b2 room2 : List ℕ) (to2 : ℕ) → Drawn s (turn (drafted b1)) room1 to1 b2 room2 to2 → Drawn s (up_to (n + 1)) room at b2 room2 to2
      turn-drawn b2 room2 to2 v = rw next-is (drawn-then s turn (turn-blind cx n) (up_to n) room at b1 room1 to1 w back_at next_fits b2 room2 to2 v)

  -- ---- the bank and its neighbours closed

  module _ (h : top ≤ 999999997) (x : ℕ) where
    abbrev cleared : Draft
    cleared = closed_up_to cx (near cx x) bank_count d

    pub cleared-after : (b1 : List ℕ) → b1 ≡ planner_bytes cleared.planner → AtRest s 1000011000 cleared b1
    cleared-after =
        after-of (top + 3 + 9216) 1000011000 cleared (omega arith) (omega arith) (marked_all s (readies s top b r).figures (near cx x) (top + 3) d (start s top b r) (omega arith))
        (good-cleared cx (core-neighbours s) (planner_in b) d good x).0

    pub cleared-shut : (b1 : List ℕ) → planner_in b1 ≡ cleared.planner → NearShut s b1 x
    unfolding NearShut bank_count
    cleared-shut b1 back = rw back (good-cleared cx (core-neighbours s) (planner_in b) d good x).1

    -- a step g after that, in a room for both
    module _ (g : Draft → Draft) (blind : Blind g) (room : List ℕ) (fits : Fits (g cleared) room 0) where
      pub cleared-first : Fits cleared room 0
      cleared-first = fits-first g blind cleared room 0 fits

      module _ (b1 room1 : List ℕ) (to1 : ℕ) (w : Drawn s cleared room 0 b1 room1 to1) where
        pub cleared-fits : Fits (g (drafted b1)) room1 to1
        cleared-fits = fits-then s g blind cleared room 0 b1 room1 to1 w (cleared-after b1 w.planner).back fits

        pub cleared-drawn : (b2 room2 : List ℕ) (to2 : ℕ) → Drawn s (g (drafted b1)) room1 to1 b2 room2 to2 → Drawn s (g cleared) room 0 b2 room2 to2
        cleared-drawn b2 room2 to2 v = drawn-then s g blind cleared room 0 b1 room1 to1 w (cleared-after b1 w.planner).back fits b2 room2 to2 v

-- a row that is open, and one that is not
pub row_open : (cx : Context) (bank row : ℕ) (d : Draft) → open_on (state_in d bank) row ≡ true → reached cx bank row d ≡ d
unfolding reached
row_open cx bank row d e = rw e

pub row-not : (cx : Context) (bank row : ℕ) (d : Draft) → open_on (state_in d bank) row ≡ false → reached cx bank row d ≡ sent cx (row_packet (Act bank row)) (closed_up_to cx (near cx bank) bank_count d)
unfolding reached
row-not cx bank row d e = rw e
