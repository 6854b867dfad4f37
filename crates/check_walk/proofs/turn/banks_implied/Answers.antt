-- `turn::banks_implied` meets its contract: by whether the record implies a PRER.
use mathlib.Core.Path.{◌≡◌, sym, ◌∙◌, ap, ap₂}
use Prim.Native.Nat.{ℕ}
use mathlib.Core.Bool.{Bool, false, cond}
use Rattle.settings.specs.declared.PacketAt.{PacketAt}
use Rattle.chan_view.specs.declared.View.{View}
use Rattle.chan_view.specs.declared.Held.{Held}
use Rattle.chan_view.specs.Form.View.{seen_of, held_of, implies_by, centre_of}
use Rattle.check_walk.specs.Form.Turn.{view_in, closed_near, implied_at}
use Rattle.check_walk.proofs.turn.banks_implied.Goals as goal

pub implied_at-requires : goal.implied_at-requires
implied_at-requires c =
    let implied-by : let a = c.args in implies_by a.s (held_of a.b false) (view_in (seen_of a.r)) ≡ c.implies.result = rw (sym c.view_of-v.ensures, sym c.held_of-h.ensures) (sym c.implies.ensures) in
    let q = implied-by ∙ c.if-implies.true in
    rw c.view_of-v.ensures (c.requires q)

pub returns-then-implies : goal.returns-then-implies
returns-then-implies c =
    let implied-by : let a = c.args in implies_by a.s (held_of a.b false) (view_in (seen_of a.r)) ≡ c.implies.result = rw (sym c.view_of-v.ensures, sym c.held_of-h.ensures) (sym c.implies.ensures) in
    let q = implied-by ∙ c.if-implies.true in
    let a = c.args in
    let v = view_in (seen_of a.r) in
    let h = held_of a.b false in
    let u : c.implied_at.result ≡ implied_at a.s c.view_of-v.result = ap (λ (n : ℕ). record { 0 = n }) c.implied_at.ensures in
    c.closed_near.ensures ∙ ap₂ (λ (t : PacketAt) (b : ℕ). closed_near a.s t b a.banks) u c.centre.ensures
    ∙ ap₂ (λ (v : View) (h : Held). closed_near a.s (implied_at a.s v) (centre_of a.s h v) a.banks) c.view_of-v.ensures c.held_of-h.ensures
    ∙ ap (λ (i : Bool). cond i (closed_near a.s (implied_at a.s v) (centre_of a.s h v) a.banks) a.banks) (sym q)

pub returns : goal.returns
returns c =
    let implied-by : let a = c.args in implies_by a.s (held_of a.b false) (view_in (seen_of a.r)) ≡ c.implies.result = rw (sym c.view_of-v.ensures, sym c.held_of-h.ensures) (sym c.implies.ensures) in
    let q = implied-by ∙ c.if-implies.false in
    rw q
