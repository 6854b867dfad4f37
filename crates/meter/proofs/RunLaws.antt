-- Whole runs: after any feeds the meter tracks the instants that were accepted, so that count, share and the next answer are those
-- of that history.
-- Assumes nothing.
use Prim.Native.Nat.{ℕ, ◌+◌, ◌-◌, ◌*◌, ◌^◌, ◌<◌, ◌≤◌}
use mathlib.Core.Path.{◌≡◌, refl, ap}
use mathlib.Core.Bool.{Bool, true, false, cond, ◌||◌, and-eq-true_iff}
use mathlib.Core.List.{List, [], ◌∷◌}
use native.Mathlib.Omega.{arith}
use lib.Dec.{eqb, leb, ltb, lit<}
use lib.ListN.{get_or, get_or-eq_default}
use borrow.Author.Tests.{leb-true, ltb-true, ltb-false, le-ltb}
use Rattle.settings.specs.Instants.{horizon, is_instant}
use Rattle.num.specs.Marks.{mark, word, words, later, pushed}
use Rattle.num.proofs.bits.BitLaws.{word_below}
use Rattle.num.proofs.bits.MarkLaws.{get_d_words, length-words}
use Rattle.num.proofs.bits.CountLaws.{count-le}
use Rattle.meter.specs.declared.Meter.{Meter}
use Rattle.meter.specs.declared.CountAnswer.{CountAnswer}
use Rattle.std.specs.Prelude.{Err, Ok, Result}
use Rattle.meter.specs.declared.FeedRefusal.{FeedRefusal}
use Rattle.meter.specs.declared.FeedRefusal.TheVariants.{Settings, Horizon, Overlap}
use Rattle.meter.specs.Answer.{feed_number, feed_accepted}
use Rattle.meter.specs.Window.{metered, overlaps, answer_to}
use Rattle.meter.specs.Meter.{fresh_meter, meter_valid, feed_answer, advanced, feed_meter, busy, busy_count}
use Rattle.meter.specs.Calls.{count_answered, share_answered}
use Rattle.meter.specs.MeterBytes.{meter_in, Held}
use Rattle.meter.specs.Runs.{meter_after, heard, bytes_after, MeterRun}
use Rattle.meter.proofs.ValidLaws.{valid-out, length-pushed, clash}
use Rattle.meter.proofs.TrackLaws.{Tracks, newest_of, tracks-fresh, tracks-next, tracks-count, get_or-zeros}
use Rattle.meter.proofs.ShareLaws.{share-exact}
use Rattle.meter.proofs.BytesLaws.{meter-decode-encode}

-- ---- one feed

same-overlap : (h : List ℕ) (m : Meter) → Tracks h m → (at : ℕ) → 4 ≤ at → ltb at (m.newest + 4) ≡ overlaps h at
unfolding overlaps newest_of
same-overlap [] m t at l = rw t.newest (le-ltb at 4 l)
same-overlap (s ∷ h) m t at l = rw t.newest

-- a meter answers by the history that it tracks
pub tracks-answer : (h : List ℕ) (m : Meter) → Tracks h m → (at : ℕ) → feed_answer m at ≡ answer_to h at
unfolding feed_answer answer_to
tracks-answer h m t at = rw (valid-out m t.valid) (go (is_instant at) refl)
  where
    go : (b : Bool) → is_instant at ≡ b → ◌≡◌ {A = Result (Unit {0}) FeedRefusal} (cond b (cond (ltb at (m.newest + 4)) (Err Overlap) (Ok tt)) (Err Horizon)) (cond b (cond (overlaps h at) (Err Overlap) (Ok tt)) (Err Horizon))
    go false e = refl
    go true e = ap (λ (x : Bool). cond x (Err Overlap) (Ok tt)) (same-overlap h m t at (leb-true 4 at ((and-eq-true_iff (leb 4 at) (leb at horizon)).0 e).0))

-- an accepted instant is one that may follow
pub record Follows (m : Meter) (at : ℕ) : Type 0 where
  pub after : m.newest + 4 ≤ at
  pub in-time : at ≤ horizon

pub accepted-follows : (m : Meter) (at : ℕ) → feed_accepted (feed_answer m at) ≡ true → Follows m at
unfolding feed_answer feed_accepted feed_number
accepted-follows m at h = go (meter_valid m) (is_instant at) (ltb at (m.newest + 4)) refl refl h
  where
    go : (v i o : Bool) → is_instant at ≡ i → ltb at (m.newest + 4) ≡ o → eqb (feed_number (cond v (cond i (cond o (Err Overlap) (Ok tt)) (Err Horizon)) (Err Settings))) 0 ≡ true → Follows m at
    go true true false ei eo e = record { after = ltb-false at (m.newest + 4) eo; in-time = leb-true at horizon ((and-eq-true_iff (leb 4 at) (leb at horizon)).0 ei).1 }
    go true true true ei eo e = absurd (clash (eqb 16 0) e refl)
    go true false o ei eo e = absurd (clash (eqb 7 0) e refl)
    go false i o ei eo e = absurd (clash (eqb 1 0) e refl)

-- ---- whole runs

pub run-tracks : (fed : List ℕ) → Tracks (heard fed) (meter_after fed)
unfolding meter_after heard feed_meter
run-tracks [] = tracks-fresh
run-tracks (at ∷ fed) = go (feed_accepted (feed_answer (meter_after fed) at)) refl (run-tracks fed)
  where
    go : (b : Bool) → feed_accepted (feed_answer (meter_after fed) at) ≡ b → Tracks (heard fed) (meter_after fed)
        → Tracks (cond b (at ∷ heard fed) (heard fed)) (cond b (advanced (meter_after fed) at) (meter_after fed))
    go true e t = let f = accepted-follows (meter_after fed) at e in tracks-next (heard fed) (meter_after fed) at t f.after f.in-time
    go false e t = t

-- what lies in memory
held-fresh : Held fresh_meter
unfolding fresh_meter
held-fresh = record { words = refl; word = λ k. rw (get_or-zeros 16 k) (lit< tt); newest = lit< tt }

word-pushed : (ws : List ℕ) (d k : ℕ) → get_or (pushed ws d) k 0 < 2 ^ 64
unfolding pushed
word-pushed ws d k = go (ltb k 16) refl
  where
    f : ℕ → Bool
    f i = eqb i 0 || later (mark ws) d i

    go : (b : Bool) → ltb k 16 ≡ b → get_or (words f 16) k 0 < 2 ^ 64
    go true e = rw (get_d_words f 16 k (ltb-true k 16 e)) (word_below (λ j. f (64 * k + j)) 64)
    go false e = rw (get_or-eq_default (words f 16) 0 {n = k} (rw length-words (ltb-false k 16 e))) (lit< tt)

pub run-held : (fed : List ℕ) → Held (meter_after fed)
unfolding meter_after feed_meter advanced
run-held [] = held-fresh
run-held (at ∷ fed) = go (feed_accepted (feed_answer (meter_after fed) at)) refl (run-held fed)
  where
    go : (b : Bool) → feed_accepted (feed_answer (meter_after fed) at) ≡ b → Held (meter_after fed) → Held (cond b (advanced (meter_after fed) at) (meter_after fed))
    go true e h =
        let f = accepted-follows (meter_after fed) at e in
        record { words = length-pushed (meter_after fed).marks (at - (meter_after fed).newest); word = word-pushed (meter_after fed).marks (at - (meter_after fed).newest); newest = omega (arith, f.in-time) }
    go false e h = h

run-bytes : (fed : List ℕ) → meter_in (bytes_after fed) ≡ meter_after fed
unfolding bytes_after meter_after
run-bytes [] = meter-decode-encode fresh_meter held-fresh
run-bytes (at ∷ fed) = rw (run-bytes fed) (meter-decode-encode (feed_meter (meter_after fed) at) (run-held (at ∷ fed)))

pub most-busy : (m : Meter) → busy_count m ≤ 1024
unfolding busy_count
most-busy m = count-le (busy m) 1024

pub most-counted : (m : Meter) → (count_answered m).count ≤ 1024
unfolding count_answered
most-counted m = go (meter_valid m)
  where
    go : (b : Bool) → (cond {A = CountAnswer} b (record { number = 0; count = busy_count m }) (record { number = feed_number (Err Settings); count = 0 })).count ≤ 1024
    go true = most-busy m
    go false = omega arith

pub meter-run : (fed : List ℕ) → MeterRun fed
unfolding count_answered share_answered
meter-run fed =
    let t = run-tracks fed in
    let v = valid-out (meter_after fed) t.valid in
    let c = tracks-count (heard fed) (meter_after fed) t in
    let l : metered (heard fed) ≤ 1024 = rw c at (most-busy (meter_after fed)) in
    record {
      count = rw (v, c);
      most = l;
      shared = rw (v, c);
      exact = share-exact (metered (heard fed)) l;
      answers = λ at. ap feed_number (tracks-answer (heard fed) (meter_after fed) t at);
      held = run-bytes fed;
    }
