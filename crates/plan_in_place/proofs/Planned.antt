-- The requests on bytes, one step after the other.
-- Assumes nothing.
use Rattle.std.specs.Prelude.{Option}
use Prim.Native.Nat.{ℕ, zero, suc, ◌+◌, ◌%◌, ◌<◌, ◌≤◌, ◌^◌}
use mathlib.Core.Path.{◌≡◌, refl, sym, ap, ◌∙◌}
use mathlib.Core.Bool.{Bool, true, false, not, ◌&&◌, cond, and-false}
use mathlib.Core.List.{List, []}
use native.Mathlib.Omega.{arith}
use lib.ListN.{length}
use Rattle.num.specs.Bytes.{bytes, splice}
use Rattle.settings.specs.declared.Settings.{Settings}
use Rattle.settings.specs.Settings.{valid}
use Rattle.settings.proofs.SettingsLaws.{bounds}
use Rattle.packet.specs.declared.RowPacket.TheVariants.{Act, Prer, Refa, Refp}
use Rattle.packet.specs.declared.ColPacket.TheVariants.{Nocop, Rd}
use Rattle.record.specs.declared.Dualoct.{Dualoct}
use Rattle.record.specs.declared.Place.{Place}
use Rattle.record.specs.declared.Record.{Record}
use Rattle.record.specs.declared.Request.{Request}
use Rattle.record.specs.declared.Request.TheVariants.{Read, Write as WriteTo, Refresh as RefreshBank, Flush, Close}
use Rattle.record.proofs.RequestLaws.{InPlace}
use Rattle.spec_rules.specs.declared.Bank.TheVariants.{Open}
use Rattle.spec_rules.specs.declared.Write.{Write}
use Rattle.spec_rules.specs.Neighbour.{bank_count, Context, context_of, near}
use Rattle.spec_rules.specs.History.{is_closed, any_write, left}
use Rattle.spec_rules.proofs.NeighbourLaws.{core-neighbours}
use Rattle.spec_plan.specs.declared.PlannerState.{PlannerState}
use Rattle.spec_plan.specs.Plan.{Draft, row_packet, col_packet, state_in, open_on, delays, any_waits, any_closes, leaver, waiting, sent, flushed, flushed_while, closed, closed_up_to, reached, planned_read, loaded, written, planned_write, turned, planned_refresh, planned_flush, planned_close, steps_of, planned}
use Rattle.spec_plan.specs.Call.{unretired}
use Rattle.spec_plan.specs.PlannerBytes.{planner_bytes, planner_in}
use Rattle.spec_plan.proofs.SentLaws.{when-either, wr_packet, sent-refresh, newer, written-waits, written-plain, while-idle, while-keeps, while-state}
use Rattle.spec_plan.proofs.PlanLaws.{good-written, good-while, good-reached}
use Rattle.spec_plan.proofs.Invariant.{left-plain}
use Rattle.spec_plan.proofs.Bound.{most-made}
use Rattle.spec_plan.proofs.Timely.{data_before}
use Rattle.plan_bytes.specs.Form.Numbers.{word, half}
use Rattle.plan_bytes.specs.Form.Drawn.{bare, drafted, Ready, Rested, OpenAt, Fits, Drawn}
use Rattle.plan_bytes.proofs.Marks.{Marked, marked_more, marked-while, marked-reached, marked-written}
use Rattle.plan_bytes.proofs.Instants.{said-some, some-said}
use Rattle.plan_bytes.proofs.Puts.{refresh-stored}
use Rattle.plan_bytes.proofs.ReadyLaws.{readies, inv, now-top, ready, at_rest}
use Rattle.plan_bytes.proofs.Again.{start, After, after-step, AtRest}
use Rattle.plan_bytes.proofs.Compose.{Blind, sent-blind, while-blind, written-blind, drawn-none, fits-first, fits-then, drawn-then, one-sent}
use Rattle.plan_steps.proofs.Stepwise.{G, good, after-of, row_open, row-not, cleared-first, cleared-fits, cleared-drawn}
use Rattle.plan_steps.specs.Form.Closing.{NewestCloses}
use Rattle.plan_steps.proofs.Closing.{newest-closes}

two-written : (cx : Context) (close : Bool) (at : Place) (mask : ℕ) (d : Dualoct) (p : PlannerState) → length (written cx close at mask d (bare p)).records ≡ 2
unfolding written loaded sent
two-written cx close at mask d p = refl

-- no packet moves the refresh bank
up-to-refresh : (cx : Context) (pick : ℕ → Bool) (n : ℕ) (d : Draft) → (closed_up_to cx pick n d).planner.refresh ≡ d.planner.refresh
unfolding closed_up_to closed flushed
up-to-refresh cx pick zero d = refl
up-to-refresh cx pick (suc n) d =
    let z : Draft = closed_up_to cx pick n d in
    let f : Draft → ℕ = λ y. y.planner.refresh in
    let test : List Write → Bool = any_write (λ w. near cx n w.bank) in
    let save : f (flushed_while cx test z) ≡ f z = while-keeps cx (λ y. f y ≡ f z) (λ y _ e. sent-refresh cx (col_packet (Nocop 0xFFFF)) y ∙ e) test refl z refl in
    when-either (λ y. f y ≡ f d) (pick n && not (is_closed (state_in z n))) (closed cx n) z
    (λ _. sent-refresh cx (row_packet (Prer n)) (flushed_while cx test z) ∙ save ∙ up-to-refresh cx pick n d) (λ _. up-to-refresh cx pick n d)

-- ---- a stored now

pub now-some : (s : Settings) (top : ℕ) (b : List ℕ) → Ready s top b → 1 ≤ word b 752
unfolding planner_in
now-some s top b k = some-said (word b 752) (inv s top b k).low

pub now-is : (s : Settings) (top : ℕ) (b : List ℕ) → Ready s top b → (planner_in b).now.0 ≡ word b 752 + 3
unfolding planner_in
now-is s top b k = said-some (word b 752) (now-some s top b k)

module _ (s : Settings) (b : List ℕ) (k : Rested s 999999997 b) (room : List ℕ) (m : 1024 ≤ length room) where
  abbrev cx : Context
  cx = context_of s

  abbrev d : Draft
  d = drafted b

  r : Ready s 999999997 b
  r = ready s 999999997 b k

  v : valid s ≡ true
  v = (readies s 999999997 b r).figures

  -- no request makes more than 32 records
  enough : (q : Request) → unretired q (planner_in b) ≡ false → Fits (planned cx q (planner_in b)) room 0
  enough q u = omega (arith, most-made s (planner_in b) (at_rest s 999999997 b k) q u)

  module _ (at : Place) (i : InPlace s at) where
    -- the row reached
    abbrev there : Draft
    there = reached cx at.bank at.row d

    -- it is open, or a step opens it
    module _ (o : Bool) (e : o ≡ open_on (state_in d at.bank) at.row) where
      pub reach_here : o ≡ true → Drawn s there room 0 b room 0
      reach_here t = rw (row_open cx at.bank at.row d (sym e ∙ t)) (drawn-none s b room 0 (readies s 999999997 b r).exact)

      module _ (t : o ≡ false) where
        abbrev opening : Draft
        opening = sent cx (row_packet (Act at.bank at.row)) (closed_up_to cx (near cx at.bank) bank_count d)

        pub reach-fits : Fits there room 0 → Fits opening room 0
        reach-fits f = rw (row-not cx at.bank at.row d (sym e ∙ t)) at f

        pub reach-opened : (b1 room1 : List ℕ) (to1 : ℕ) → Drawn s opening room 0 b1 room1 to1 → Drawn s there room 0 b1 room1 to1
        reach-opened b1 room1 to1 w = rw (row-not cx at.bank at.row d (sym e ∙ t)) w

    pub row_in : at.row < 512
    row_in = omega (arith, i.1, (bounds s v).rows-most)

    reached-good : G s 999999997 b k there × (state_in there at.bank ≡ Open at.row)
    unfolding bank_count context_of
    reached-good = good-reached cx (core-neighbours s) (planner_in b) d (good s 999999997 b k) at.bank at.row i.0 i.1

    reached-marked : Marked s 1000009312 there
    reached-marked = marked-reached s v at.bank at.row 1000000000 d (start s 999999997 b r) (omega arith)

    pub reached-after : (b1 : List ℕ) → b1 ≡ planner_bytes there.planner → AtRest s 1000011000 there b1
    reached-after = after-of s 999999997 b k 1000009312 1000011000 there (omega arith) (omega arith) reached-marked reached-good.0

    -- ---- read, or read and close

    module _ (close : Bool) where
      abbrev test : List Write → Bool
      test = delays cx close at

      quiet : test [] ≡ false
      quiet = and-false close

      abbrev rd : Record
      rd = col_packet (Rd at.bank at.column 0xFFFF close)

      -- the row reached, and the writes that delay the RD retired
      abbrev clean : Draft
      clean = flushed_while cx test there

      read_fits : Fits (sent cx rd clean) room 0
      unfolding planned steps_of planned_read unretired
      read_fits = enough (Read at close) refl

      clean-fits : Fits clean room 0
      clean-fits = fits-first (sent cx rd) (sent-blind cx rd) clean room 0 read_fits

      pub read_first : Fits there room 0
      read_first = fits-first (flushed_while cx test) (while-blind cx test) there room 0 clean-fits

      clean_after : (b2 : List ℕ) → b2 ≡ planner_bytes clean.planner → AtRest s 1000012000 clean b2
      clean_after =
          after-of s 999999997 b k (1000009312 + 192) 1000012000 clean (omega arith) (omega arith) (marked-while s v test 1000009312 there reached-marked (omega arith))
          (good-while cx (core-neighbours s) (planner_in b) there reached-good.0 test quiet)

      module _ (b1 room1 : List ℕ) (to1 : ℕ) (w : Drawn s there room 0 b1 room1 to1) where
        back : planner_in b1 ≡ there.planner
        back = (reached-after b1 w.planner).back

        pub flush-fits : Fits (flushed_while cx test (drafted b1)) room1 to1
        flush-fits = fits-then s (flushed_while cx test) (while-blind cx test) there room 0 b1 room1 to1 w back clean-fits

        module _ (b2 room2 : List ℕ) (to2 : ℕ) (u : Drawn s (flushed_while cx test (drafted b1)) room1 to1 b2 room2 to2) where
          clean-drawn : Drawn s clean room 0 b2 room2 to2
          clean-drawn = drawn-then s (flushed_while cx test) (while-blind cx test) there room 0 b1 room1 to1 w back clean-fits b2 room2 to2 u

          rest : AtRest s 1000012000 clean b2
          rest = clean_after b2 clean-drawn.planner

          pub read-after : Ready s 1000012000 b2
          read-after = ready s 1000012000 b2 rest.ready

          pub read-open : OpenAt b2 at.bank
          unfolding bank_count is_closed
          read-open = rw (rest.back, while-state cx test quiet there reached-good.0.0.inv.size reached-good.0.1 at.bank i.0, reached-good.1) refl

          pub read-room : to2 + 32 ≤ length room2
          read-room = omega (arith, fits-then s (sent cx rd) (sent-blind cx rd) clean room 0 b2 room2 to2 clean-drawn rest.back read_fits, one-sent cx rd (planner_in b2))

          pub read-drawn : (b3 room3 : List ℕ) (to3 : ℕ) → Drawn s (sent cx rd (drafted b2)) room2 to2 b3 room3 to3 → Drawn s (planned_read cx close at d) room 0 b3 room3 to3
          unfolding planned_read
          read-drawn b3 room3 to3 x = drawn-then s (sent cx rd) (sent-blind cx rd) clean room 0 b2 room2 to2 clean-drawn rest.back read_fits b3 room3 to3 x

    -- ---- write, or write and close

    module _ (close : Bool) (mask : ℕ) (bytes' : Dualoct) where
      abbrev wr : Draft → Draft
      wr = written cx close at mask bytes'

      write-fits : Fits (flushed_while cx any_closes (wr there)) room 0
      unfolding planned steps_of planned_write unretired
      write-fits = enough (WriteTo at mask bytes' close) refl

      wr-fits : Fits (wr there) room 0
      wr-fits = fits-first (flushed_while cx any_closes) (while-blind cx any_closes) (wr there) room 0 write-fits

      module _ (b1 room1 : List ℕ) (to1 : ℕ) (w : Drawn s there room 0 b1 room1 to1) where
        abbrev here : planner_in b1 ≡ there.planner
        here = (reached-after b1 w.planner).back

        pub write-room : to1 + 64 ≤ length room1
        write-room = omega (arith, fits-then s wr (written-blind cx close at mask bytes') there room 0 b1 room1 to1 w here wr-fits, two-written cx close at mask bytes' (planner_in b1))

        module _ (b2 room2 : List ℕ) (to2 : ℕ) (x : Drawn s (wr (drafted b1)) room1 to1 b2 room2 to2) where
          wr-drawn : Drawn s (wr there) room 0 b2 room2 to2
          wr-drawn = drawn-then s wr (written-blind cx close at mask bytes') there room 0 b1 room1 to1 w here wr-fits b2 room2 to2 x

          -- no NOCOP follows a WR
          pub write-drawn : close ≡ false → Drawn s (planned_write cx close at mask bytes' d) room 0 b2 room2 to2
          unfolding planned_write
          write-drawn e = rw (while-idle cx any_closes (wr there) (written-plain cx close at mask bytes' there reached-good.0.1 e)) wr-drawn

          -- a WRA waits, and there is room for the NOCOPs that retire it
          module _ (l : mask < 2 ^ 16) (c : close ≡ true) where
            pub wra-after : After s 1000011000 (wr there) b2
            unfolding bank_count context_of
            wra-after =
                after-step s v 1000011000 (wr there) (omega arith) (marked_more s (1000009312 + 160) 1000011003 (omega arith) _ (marked-written s v close at mask bytes' 1000009312 there reached-marked (omega arith)))
                (good-written cx (core-neighbours s) (planner_in b) there reached-good.0 close at at.row mask bytes' i.0 i.2 l reached-good.1).0.inv b2 wr-drawn.planner

            pub wra-newest : NewestCloses b2
            wra-newest =
                let o : Option Write = leaver cx there.planner (wr_packet close at) in
                newest-closes b2 (newer cx close at there) c (left o (waiting there)) (left-plain o (waiting there) reached-good.0.1) (rw wra-after.back (written-waits cx close at mask bytes' there))

            pub wra-fits : Fits (flushed_while cx any_closes (drafted b2)) room2 to2
            wra-fits = fits-then s (flushed_while cx any_closes) (while-blind cx any_closes) (wr there) room 0 b2 room2 to2 wr-drawn wra-after.back write-fits

            -- D of the WRA, by the instant that is stored
            pub wra-data : (word b2 752 + 3 + s.cwd < 2 ^ 32) × (word b2 752 + 3 + s.cwd ≡ data_before cx (WriteTo at mask bytes' close) (planner_in b))
            unfolding context_of
            wra-data =
                let e : (wr there).planner.now.0 ≡ word b2 752 + 3 = ap (λ (p : PlannerState). p.now.0) (sym wra-after.back) ∙ now-is s 1000011000 b2 wra-after.ready in
                let top = now-top s 1000011000 b2 wra-after.ready in
                let most : word b2 752 + 3 ≤ 1000011003 = omega (arith, top, now-is s 1000011000 b2 wra-after.ready) in
                (omega (arith, (bounds s v).cwd-cac, (bounds s v).cac-most), ap (λ (n : ℕ). n + s.cwd) (sym e) ∙ sym (ap (λ (q : Bool). cond q ((wr there).planner.now.0 + s.cwd) 0) c))

            pub closing-drawn : (b3 room3 : List ℕ) (to3 : ℕ) → Drawn s (flushed_while cx any_closes (drafted b2)) room2 to2 b3 room3 to3 → Drawn s (planned_write cx close at mask bytes' d) room 0 b3 room3 to3
            unfolding planned_write
            closing-drawn b3 room3 to3 y = drawn-then s (flushed_while cx any_closes) (while-blind cx any_closes) (wr there) room 0 b2 room2 to2 wr-drawn wra-after.back write-fits b3 room3 to3 y

  -- ---- refresh

  abbrev bank : ℕ
  bank = (planner_in b).refresh

  bank-is : half b 756 ≡ bank
  unfolding planner_in
  bank-is = refl

  pub bank-in : half b 756 < 32
  unfolding bank_count
  bank-in = rw bank-is (inv s 999999997 b r).refresh-in

  abbrev refreshed : ℕ → Draft → Draft
  refreshed x z = sent cx (row_packet (Refp x)) (sent cx (row_packet (Refa x)) z)

  refreshed-blind : (x : ℕ) → Blind (refreshed x)
  refreshed-blind x l z = ap (sent cx (row_packet (Refp x))) (sent-blind cx (row_packet (Refa x)) l z) ∙ sent-blind cx (row_packet (Refp x)) l (sent cx (row_packet (Refa x)) z)

  abbrev cleared : Draft
  cleared = closed_up_to cx (near cx (half b 756)) bank_count d

  refresh-fits : Fits (refreshed (half b 756) cleared) room 0
  unfolding planned steps_of planned_refresh turned unretired
  refresh-fits = rw bank-is (enough RefreshBank refl)

  pub refresh-first : Fits cleared room 0
  refresh-first = cleared-first s 999999997 b k (omega arith) (half b 756) (refreshed (half b 756)) (refreshed-blind (half b 756)) room refresh-fits

  -- REFA and REFP leave the refresh bank, and so does every PRER before them
  refresh-is : planned_refresh cx d ≡
      let z : Draft = refreshed (half b 756) cleared in
      record { planner = record { channel = z.planner.channel; now = z.planner.now; refresh = (half b 756 + 1) % 32; mask = z.planner.mask; second = z.planner.second }; records = z.records }
  unfolding planned_refresh turned planner_in bank_count
  refresh-is =
      let x : ℕ = half b 756 in
      let y : Draft = sent cx (row_packet (Refa x)) cleared in
      let same : (sent cx (row_packet (Refp x)) y).planner.refresh ≡ x = sent-refresh cx (row_packet (Refp x)) y ∙ sent-refresh cx (row_packet (Refa x)) cleared ∙ up-to-refresh cx (near cx x) 32 d in
      let z : Draft = sent cx (row_packet (Refp x)) y in
      ap (λ (n : ℕ). record { planner = record { channel = z.planner.channel; now = z.planner.now; refresh = (n + 1) % 32; mask = z.planner.mask; second = z.planner.second }; records = z.records }) same

  two-refreshed : (x : ℕ) (p : PlannerState) → length (refreshed x (bare p)).records ≡ 2
  unfolding sent
  two-refreshed x p = refl

  module _ (b1 room1 : List ℕ) (to1 : ℕ) (w : Drawn s cleared room 0 b1 room1 to1) where
    pub refresh-room : to1 + 64 ≤ length room1
    refresh-room = omega (arith, cleared-fits s 999999997 b k (omega arith) (half b 756) (refreshed (half b 756)) (refreshed-blind (half b 756)) room refresh-fits b1 room1 to1 w, two-refreshed (half b 756) (planner_in b1))

    -- the next bank's turn
    pub refresh-drawn : (b2 room2 : List ℕ) (to2 : ℕ) → Drawn s (refreshed (half b 756) (drafted b1)) room1 to1 b2 room2 to2
        → (b3 : List ℕ) → b3 ≡ splice b2 756 (bytes 2 ((half b 756 + 1) % 32)) → Drawn s (planned_refresh cx d) room 0 b3 room2 to2
    refresh-drawn b2 room2 to2 v b3 e =
        let z : Draft = refreshed (half b 756) cleared in
        let u : Drawn s z room 0 b2 room2 to2 = cleared-drawn s 999999997 b k (omega arith) (half b 756) (refreshed (half b 756)) (refreshed-blind (half b 756)) room refresh-fits b1 room1 to1 w b2 room2 to2 v in
        rw refresh-is (record {
          planner = e ∙ ap (λ (l : List ℕ). splice l 756 (bytes 2 ((half b 756 + 1) % 32))) u.planner ∙ refresh-stored z.planner ((half b 756 + 1) % 32);
          records = u.records;
          next = u.next;
        })

  -- ---- flush and close

  pub emptied-fits : Fits (flushed_while cx any_waits d) room 0
  unfolding planned steps_of planned_flush unretired
  emptied-fits = enough Flush refl

  pub close-fits : unretired Close (planner_in b) ≡ false → Fits (planned_close cx d) room 0
  unfolding planned steps_of
  close-fits u = enough Close u
