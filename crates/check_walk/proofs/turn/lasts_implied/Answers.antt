-- `turn::lasts_implied` meets its contract: by whether the record implies a PRER.
use mathlib.Core.Path.{◌≡◌, sym, ◌∙◌, ap}
use Prim.Native.Nat.{ℕ}
use mathlib.Core.Bool.{false}
use Rattle.chan_view.specs.Form.View.{seen_of, held_of, implies_by}
use Rattle.check_walk.specs.Form.Turn.{view_in, implied_at}
use Rattle.check_walk.proofs.turn.lasts_implied.Goals as goal

pub implied_at-requires : goal.implied_at-requires
implied_at-requires c =
    let implied-by : let a = c.args in implies_by a.s (held_of a.b false) (view_in (seen_of a.r)) ≡ c.implies.result = rw (sym c.view_of-v.ensures, sym c.held_of.ensures) (sym c.implies.ensures) in
    let q = implied-by ∙ c.if-implies.true in
    rw c.view_of-v.ensures (c.requires q)

pub returns-then-implies : goal.returns-then-implies
returns-then-implies c =
    let implied-by : let a = c.args in implies_by a.s (held_of a.b false) (view_in (seen_of a.r)) ≡ c.implies.result = rw (sym c.view_of-v.ensures, sym c.held_of.ensures) (sym c.implies.ensures) in
    let q = implied-by ∙ c.if-implies.true in
    let u : c.implied_at.result ≡ implied_at c.args.s c.view_of-v.result = ap (λ (n : ℕ). record { 0 = n }) c.implied_at.ensures in
    rw (c.implied_lasts.ensures, u, c.view_of-v.ensures, q)

pub returns : goal.returns
returns c =
    let implied-by : let a = c.args in implies_by a.s (held_of a.b false) (view_in (seen_of a.r)) ≡ c.implies.result = rw (sym c.view_of-v.ensures, sym c.held_of.ensures) (sym c.implies.ensures) in
    let q = implied-by ∙ c.if-implies.false in
    rw q
