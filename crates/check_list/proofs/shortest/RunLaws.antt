-- The records of a run are those of the list from its start on, and the walk over it finds where it is refused.
-- Assumes nothing.
use Prim.Native.Nat.{ℕ, ◌+◌, ◌-◌, ◌*◌, ◌<◌, ◌≤◌}
use mathlib.Core.Path.{◌≡◌, refl, sym, ap, ap₂, ◌∙◌}
use mathlib.Core.Bool.{Bool, true, false, ◌&&◌}
use mathlib.Core.List.{List}
use mathlib.Core.Logic.{◌↔◌}
use lib.Dec.{eqb, ltb}
use lib.ListN.{length, get_or, take}
use lib.Seq.{length-slice, get_or-take, get_or-drop, ext_get_or}
use native.Mathlib.Omega.{arith}
use borrow.Author.Tests.{eqb-true, lt-ltb}
use Rattle.num.specs.Bytes.{part}
use Rattle.num.specs.Search.{first_false}
use Rattle.num.proofs.PartLaws.{length_part, part-part}
use Rattle.num.proofs.SearchLaws.{first-same}
use Rattle.settings.specs.declared.Settings.{Settings}
use Rattle.settings.specs.declared.PacketAt.{PacketAt}
use Rattle.packet.specs.declared.ColPacket.{ColPacket}
use Rattle.packet.specs.declared.ColPacket.TheVariants.{Nocop, Wr, Rd}
use Rattle.record.specs.declared.Record.{Record}
use Rattle.record.specs.declared.Record.TheVariants.{ColAt}
use Rattle.record.specs.Record.{record_read, record_at, records_in, well_formed, first_bad}
use Rattle.spec_rules.specs.Neighbour.{Context, Neighbours}
use Rattle.spec_rules.specs.Packets.{traits, col_traits}
use Rattle.spec_rules.specs.History.{has}
use Rattle.spec_rules.specs.Broken.{FirstBreach, rule_at, first_broken}
use Rattle.spec_rules.specs.Checks.{first_found}
use Rattle.spec_rules.proofs.CheckerRight.{checker-right}
use Rattle.spec_check.specs.Check.{known, records_of, ListBreach}
use Rattle.check_walk.specs.declared.Stop.{Stop}
use Rattle.check_walk.specs.Form.Walk.{place_in, record_via, records_via, formed_via, found_via, stop_at, stop_of}
use Rattle.check_walk.proofs.ViaLaws.{length-via, via-at}
use Rattle.check_list.proofs.WalkLaws.{list-via, list-formed, via-fits}
use Rattle.spec_check.specs.Shortest.{run, run_bytes, still_breaks}
use Rattle.check_list.specs.Form.Tried.{tried_at}

-- COL packets open no bank
pub col-opens : (t : PacketAt) (p : ColPacket) → has (traits (ColAt t p)).opens ≡ false
unfolding traits col_traits
col-opens t (Nocop m) = refl
col-opens t (Wr b c m x) = refl
col-opens t (Rd b c m x) = refl

module _ (s : Settings) (l : List ℕ) where
  pub length-records : length (records_of s l) ≡ records_in l
  length-records = ap length (sym (list-via s l)) ∙ length-via s 0 l (records_in l)

  pub record-known : (i : ℕ) → i < records_in l → (d : Record) → get_or (records_of s l) i d ≡ known (record_read s (record_at l i))
  unfolding place_in
  record-known i h d = ap (λ (rs : List Record). get_or rs i d) (sym (list-via s l)) ∙ via-at s 0 l (records_in l) i d h

  -- the records that the walk meets on the bytes of a run
  module _ (i j : ℕ) (k : i ≤ j) (h : j < records_in l) where
    abbrev bytes : List ℕ
    bytes = part l (32 * i) (32 * j + 32 - 32 * i)

    record-via : (x : ℕ) (d : Record) → x < j - i + 1 → record_via s 0 bytes x ≡ get_or (run (records_of s l) i j) x d
    unfolding place_in
    record-via x d m =
        let e : 32 * i + 32 * x ≡ 32 * (i + x) = omega arith in
        ap (λ (p : List ℕ). known (record_read s p)) (part-part l (32 * i) (32 * j + 32 - 32 * i) (32 * x) 32 (omega arith))
        ∙ ap (λ (p : ℕ). known (record_read s (part l p 32))) e
        ∙ sym (record-known (i + x) (omega arith) d)
        ∙ sym (get_or-take (j + 1) (records_of s l) (i + x) d (omega arith))
        ∙ sym (get_or-drop i (take (j + 1) (records_of s l)) x d)

    pub run-via : records_via s 0 bytes (j - i + 1) ≡ run (records_of s l) i j
    run-via =
        let d : Record = known (record_read s (record_at l 0)) in
        let e = length-records in
        let a = length-via s 0 bytes (j - i + 1) in
        let c : length (run (records_of s l) i j) ≡ j + 1 - i = length-slice i (j + 1) (records_of s l) (omega arith) in
        ext_get_or d (records_via s 0 bytes (j - i + 1)) (run (records_of s l) i j) (omega arith)
        (λ x m. let y : x < j - i + 1 = omega arith in via-at s 0 bytes (j - i + 1) x d y ∙ record-via x d y)

    pub formed-via : ((x : ℕ) → x < records_in l → well_formed s (record_at l x) ≡ true) → (x : ℕ) → x < j - i + 1 → formed_via s 0 bytes x ≡ true
    unfolding place_in
    formed-via f x m =
        let e : 32 * i + 32 * x ≡ 32 * (i + x) = omega arith in
        ap (well_formed s) (part-part l (32 * i) (32 * j + 32 - 32 * i) (32 * x) 32 (omega arith))
        ∙ ap (λ (p : ℕ). well_formed s (part l p 32)) e
        ∙ f (i + x) (omega arith)

    -- the bytes of the run, as a list of their own, have these records
    same_bytes : bytes ≡ run_bytes l i j
    same_bytes = let e : 32 * j + 32 - 32 * i ≡ 32 * (j + 1 - i) = omega arith in ap (part l (32 * i)) e

    length-bytes : length bytes ≡ 32 * (j - i + 1)
    length-bytes = length_part l (32 * i) (32 * j + 32 - 32 * i) (omega arith) ∙ omega arith

    pub records-run : records_of s (run_bytes l i j) ≡ run (records_of s l) i j
    records-run =
        let e = length-bytes in
        let n : records_in bytes ≡ j - i + 1 = omega arith in
        ap (records_of s) (sym same_bytes) ∙ sym (list-via s bytes) ∙ ap (records_via s 0 bytes) n ∙ run-via

    pub run-within : (x : ℕ) → x < j - i + 1 → place_in 0 x + 32 ≤ length bytes
    unfolding place_in
    run-within x m = rw (length_part l (32 * i) (32 * j + 32 - 32 * i) (omega arith)) (omega arith)

pub records-formed : (s : Settings) (l : List ℕ) → first_bad s l ≡ records_in l → (x : ℕ) → x < records_in l → well_formed s (record_at l x) ≡ true
unfolding place_in
records-formed s l e = list-formed s l e

-- the checker on the bytes of a run, of a list of well formed records
pub run-breach : (cx : Context) (l : List ℕ) (i j n : ℕ) → i ≤ j → j < records_in l → ((x : ℕ) → x < records_in l → well_formed cx.settings (record_at l x) ≡ true)
    → ListBreach cx (run_bytes l i j) n (j - i) ↔ FirstBreach cx (run (records_of cx.settings l) i j) n (j - i)
unfolding place_in
run-breach cx l i j n k h f =
    let r = records-run cx.settings l i j k h in
    let e = length_part l (32 * i) (32 * (j + 1 - i)) (omega arith) in (
      λ b. rw r at b.breach,
      λ b.
          record {
            whole = omega arith;
            formed = λ x m. rw (same_bytes cx.settings l i j k h) at (formed-via cx.settings l i j k h f x (omega arith));
            breach = rw r b;
          },
    )

-- ---- where the walk stops

module _ (cx : Context) (ns : Neighbours cx) (b : List ℕ) (n : ℕ) (f : (x : ℕ) → x < n → formed_via cx.settings 0 b x ≡ true) where
  abbrev met : List Record
  met = records_via cx.settings 0 b n

  right : (first_found cx met ≡ first_broken cx met) × (first_found cx met < length met → found_via cx 0 b n (first_found cx met) ≡ rule_at cx met (first_found cx met))
  right = checker-right cx ns met (via-fits cx.settings 0 b n f)

  stop-found : stop_at cx 0 b n ≡ first_found cx met
  unfolding first_found
  stop-found =
      first-same _ (λ x. eqb (found_via cx 0 b n x) 0) n (λ x m. ap (λ (t : Bool). t && eqb (found_via cx 0 b n x) 0) (f x m))
      ∙ ap (first_false (λ x. eqb (found_via cx 0 b n x) 0)) (sym (length-via cx.settings 0 b n))

  pub stop-broken : (stop_of cx 0 b n).at ≡ first_broken cx met
  unfolding stop_of
  stop-broken = stop-found ∙ right.0

  pub stop-rule : first_broken cx met < n → (stop_of cx 0 b n).rule ≡ rule_at cx met (first_broken cx met)
  unfolding stop_of
  stop-rule m =
      let e = stop-broken in
      let l = length-via cx.settings 0 b n in
      let g = right in
      rw (stop-found, lt-ltb (first_found cx met) n (omega arith), f (first_found cx met) (omega arith)) (g.1 (omega arith) ∙ ap (rule_at cx met) g.0)

-- what the walk over a run says of its start
module _ (cx : Context) (ns : Neighbours cx) (l : List ℕ) (i j : ℕ) (k : i ≤ j) (h : j < records_in l)
    (good : (x : ℕ) → x < records_in l → well_formed cx.settings (record_at l x) ≡ true) where
  abbrev stop : Stop
  stop = stop_of cx 0 (part l (32 * i) (32 * j + 32 - 32 * i)) (j - i + 1)

  stop-at : stop.at ≡ first_broken cx (run (records_of cx.settings l) i j)
  stop-at = stop-broken cx ns _ (j - i + 1) (formed-via cx.settings l i j k h good) ∙ ap (first_broken cx) (run-via cx.settings l i j k h)

  stop-names : stop.at ≡ j - i → stop.rule ≡ rule_at cx (run (records_of cx.settings l) i j) (j - i)
  stop-names e =
      let f = formed-via cx.settings l i j k h good in
      let v = run-via cx.settings l i j k h in
      let b = stop-broken cx ns (part l (32 * i) (32 * j + 32 - 32 * i)) (j - i + 1) f in
      stop-rule cx ns (part l (32 * i) (32 * j + 32 - 32 * i)) (j - i + 1) f (omega arith) ∙ ap₂ (rule_at cx) v (sym b ∙ e)

  both-same : (t : Bool) (n : ℕ) → eqb stop.at (j - i) ≡ t
      → (t && eqb stop.rule n) ≡ (t && eqb (rule_at cx (run (records_of cx.settings l) i j) (j - i)) n)
  both-same true n e = ap (λ (m : ℕ). eqb m n) (stop-names (eqb-true _ _ e))
  both-same false n e = refl

  pub tried-right : (n : ℕ) → record { found = eqb stop.at (j - i) && eqb stop.rule n; early = ltb stop.at (j - i) } ≡ tried_at cx (records_of cx.settings l) n j i
  unfolding tried_at still_breaks
  tried-right n =
      let rs : List Record = run (records_of cx.settings l) i j in
      ap₂ (λ (a b : Bool). record { found = a; early = b })
      (both-same (eqb stop.at (j - i)) n refl ∙ ap (λ (x : ℕ). eqb x (j - i) && eqb (rule_at cx rs (j - i)) n) stop-at)
      (ap (λ (x : ℕ). ltb x (j - i)) stop-at)
