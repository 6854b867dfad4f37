-- The least instants of ROW packets, in the stored instants of a planner's bytes. The laws in proofs/ say that these are the plan's.
-- Assumes nothing.
use Rattle.std.specs.Prelude.{ℕ, ◌+◌, ◌*◌, max, cond, List, ltb}
use Rattle.settings.specs.declared.Settings.{Settings}
use Rattle.spec_rules.specs.Neighbour.{context_of, near}
use Rattle.spec_rules.specs.Checks.{since, max_up_to}
use Rattle.chan_view.specs.Form.Beside.{first_near, last_near}
use Rattle.plan_bytes.specs.Form.Numbers.{word}

-- what now and rules 1, 2 and 17 ask of a ROW packet
unfoldable pub row_base : List ℕ → ℕ
row_base b = max (max (max (word b 752) (word b 704)) (since (word b 708) 4)) (word b 724)

-- the latest of a bank and its neighbours in a plane
abbrev pub most_in : Settings → List ℕ → ℕ → ℕ → ℕ
most_in s b plane x = max (max (word b (plane + 4 * x)) (word b (plane + 4 * first_near s x))) (word b (plane + 4 * last_near s x))

-- what rules 6, 8 and 13 ask of a PRER, of an implied one too
unfoldable pub prer_asks : Settings → List ℕ → ℕ → ℕ
prer_asks s b x =
    max (since (most_in s b 0 x) s.ras)
    (max (since (word b 716) s.pp) (max (since (most_in s b 384 x) s.rdp) (since (most_in s b 512 x) s.rtp)))

unfoldable pub close_at : Settings → List ℕ → ℕ → ℕ
close_at s b x = max (row_base b) (prer_asks s b x)

-- the latest ACT or REFA of all banks, and of those that are not near bank x
unfoldable pub latest_in : List ℕ → ℕ
latest_in b = max_up_to (λ y. word b (4 * y)) 32

unfoldable pub far_in : Settings → List ℕ → ℕ → ℕ
far_in s b x = max_up_to (λ y. cond (near (context_of s) x y) 0 (word b (4 * y))) 32

-- what rule 5 reads for the banks that are not near: where tRR is at most tRC, the latest of all stands for them, since a near one
-- asks more by tRC
unfoldable pub other_in : Settings → List ℕ → ℕ → ℕ
other_in s b x = cond (ltb s.rc s.rr) (far_in s b x) (latest_in b)

-- ACT or REFA
unfoldable pub open_at : Settings → List ℕ → ℕ → ℕ
open_at s b x =
    max (row_base b) (max (since (most_in s b 0 x) s.rc) (max (since (other_in s b x) s.rr) (since (most_in s b 256 x) s.rp)))
