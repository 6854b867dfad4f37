-- What rdram_shortest promises, by the answers of rdram_check (document 02 l).
-- Assumes nothing.
use Rattle.std.specs.Prelude.{ℕ, ◌-◌, ◌<◌, ◌≤◌, ◌≡◌, List, ◌↔◌}
use Rattle.spec_check.specs.Shortest.{run_bytes}
use Rattle.spec_calls.specs.declared.CheckAnswer.{CheckAnswer}
use Rattle.spec_calls.specs.Checks.{check_call}
use Rattle.calls_shortest.specs.Results.{with_start, shortest_call}

-- refused first at record j by rule n
abbrev pub broken_at : ℕ → ℕ → CheckAnswer
broken_at n j = record { number = 11; rule = n; place = j }

-- "For a list refused first at record j by rule n, give the shortest run ending at j which a fresh checker also refuses first at its
-- last record by rule n.": the run from record i
pub record ShortestFor (settings list : List ℕ) (n j i : ℕ) : Type 0 where
  pub listed : check_call settings list ≡ broken_at n j
  pub within : i ≤ j
  pub still : check_call settings (run_bytes list i j) ≡ broken_at n (j - i)
  -- "The run must be shown minimal: no later start has this property."
  pub latest : (k : ℕ) → i < k → k ≤ j → check_call settings (run_bytes list k j) ≡ broken_at n (j - k) → ⊥

pub record ShortestCalls : Type 0 where
  -- number, rule and place are rdram_check's of the list: so each list that breaks a rule has its run
  pub verdict : (settings list : List ℕ) → shortest_call settings list ≡ with_start (check_call settings list) (shortest_call settings list).start
  -- a start is answered if and only if it is that of the shortest run
  pub shortest : (settings list : List ℕ) (n j i : ℕ) → (shortest_call settings list ≡ with_start (broken_at n j) i) ↔ ShortestFor settings list n j i
  -- "If the list passes, that is said.", with start 0; so too where it is refused for another reason
  pub no_run : (settings list : List ℕ) → ((check_call settings list).number ≡ 11 → ⊥) → (shortest_call settings list).start ≡ 0
