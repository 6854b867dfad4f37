-- The shortest run of a list that still breaks its rule (document 02 l).
-- Assumes nothing.
use Rattle.std.specs.Prelude.{ℕ, zero, suc, ◌+◌, ◌-◌, ◌*◌, ◌<◌, ◌≤◌, Bool, cond, ◌&&◌, List, eqb, take, drop, Err, Ok, Result}
use Rattle.num.specs.Bytes.{part}
use Rattle.record.specs.declared.Record.{Record}
use Rattle.record.specs.declared.Answer.{Answer}
use Rattle.record.specs.Refusal.{answer_of}
use Rattle.spec_rules.specs.Neighbour.{Context}
use Rattle.spec_rules.specs.Broken.{FirstBreach, rule_at, first_broken}
use Rattle.spec_check.specs.Check.{records_of, list_answer}
use Rattle.spec_check.specs.declared.Shortest.{Shortest}
use Rattle.record.specs.declared.Refusal.{Refusal}

-- the run of a list from record i to record j
abbrev pub run : List Record → ℕ → ℕ → List Record
run rs i j = drop i (take (j + 1) rs)

-- and its bytes, of a list of bytes
abbrev pub run_bytes : List ℕ → ℕ → ℕ → List ℕ
run_bytes l i j = part l (32 * i) (32 * (j + 1 - i))

-- "a fresh checker also refuses first at its last record by rule n": whether it does so of the run from record i to record j
unfoldable pub still_breaks : Context → List Record → ℕ → ℕ → ℕ → Bool
still_breaks cx rs n j i = eqb (first_broken cx (run rs i j)) (j - i) && eqb (rule_at cx (run rs i j) (j - i)) n

-- the largest index up to m at which f holds, or 0 where it holds at none above 0
unfoldable pub last_true : (ℕ → Bool) → ℕ → ℕ
last_true f zero = zero
last_true f (suc m) = cond (f (suc m)) (suc m) (last_true f m)

-- "For a list refused first at record j by rule n, give the shortest run ending at j": the record from which it starts
unfoldable pub shortest_start : Context → List Record → ℕ → ℕ → ℕ
shortest_start cx rs n j = last_true (still_breaks cx rs n j) j

-- of a verdict on these records. "If the list passes, that is said": a verdict that names no rule has 0
abbrev pub start_by : Context → List Record → Answer → ℕ
start_by cx rs a = cond (eqb a.number 11) (shortest_start cx rs a.rule a.place) 0

unfoldable pub start_of : Context → List Record → Result (Unit {0}) Refusal → ℕ
start_of cx rs (Ok tt) = 0
start_of cx rs (Err why) = start_by cx rs (answer_of why)

-- a list of records: 13, then 10, then 11 as of the checker, with the start of the run
unfoldable pub shortest_answer : Context → List ℕ → Shortest
shortest_answer cx l = record { judged = list_answer cx l; start = start_of cx (records_of cx.settings l) (list_answer cx l) }

-- what the start says of these records: the run from record i to record j is refused first at its last record by rule n. "The run must
-- be shown minimal: no later start has this property."
pub record ShortestRun (cx : Context) (rs : List Record) (n j i : ℕ) : Type 0 where
  pub within : i ≤ j
  pub still : FirstBreach cx (run rs i j) n (j - i)
  pub latest : (k : ℕ) → i < k → k ≤ j → FirstBreach cx (run rs k j) n (j - k) → ⊥
