-- Calm states of a planner: no stored instant is so high that a packet of one request could be late.
-- Assumes nothing.
use Rattle.std.specs.Prelude.{ℕ, ◌*◌, max, Bool, List, leb}
use Rattle.spec_rules.specs.Checks.{max_up_to}
use Rattle.plan_bytes.specs.Form.Numbers.{word}

-- the highest stored instant of a state
unfoldable pub highest_in : List ℕ → ℕ
highest_in b =
    max (max_up_to (λ k. word b (4 * k)) 160)
    (max (word b 704) (max (word b 708) (max (word b 712) (max (word b 716) (max (word b 720) (max (word b 724) (max (word b 740) (max (word b 748) (word b 752)))))))))

-- none is so high that a packet of one request could be late
unfoldable pub is_calm : List ℕ → Bool
is_calm b = leb (highest_in b) 999990000
