-- The masks that a packet carries and leaves, by what code sees.
-- Assumes nothing.
use Rattle.std.specs.Prelude.{Option, None, Some}
use Prim.Native.Nat.{ℕ}
use mathlib.Core.Path.{◌≡◌, refl, sym, ap, ◌∙◌}
use mathlib.Core.Bool.{Bool, true, false, ◌&&◌, ◌||◌, cond, and-false}
use mathlib.Core.List.{List, [], ◌∷◌}
use native.Mathlib.Omega.{arith}
use Rattle.settings.specs.declared.Settings.{Settings}
use Rattle.settings.specs.declared.DataAt.{DataAt}
use Rattle.record.specs.declared.Record.{Record}
use Rattle.record.specs.declared.Record.TheVariants.{RowAt, ColAt, DataOf}
use Rattle.spec_rules.specs.declared.Write.{Write}
use Rattle.spec_rules.specs.declared.Buffer.{Buffer}
use Rattle.spec_rules.specs.declared.Buffer.TheVariants.{Empty, One, Two}
use Rattle.spec_rules.specs.Neighbour.{context_of}
use Rattle.spec_rules.specs.Packets.{traits}
use Rattle.spec_rules.specs.History.{only_write, first, leaving, retire_implies, any_write, only, has}
use Rattle.spec_rules.specs.Rules.{implied_delay}
use Rattle.spec_rules.specs.Channel.{waiting_of, leaving_of}
use Rattle.spec_plan.specs.declared.PlannerState.{PlannerState}
use Rattle.spec_plan.specs.Plan.{carried, shifted}
use Rattle.chan_view.specs.declared.View.{View}
use Rattle.chan_view.specs.declared.Held.{Held}
use Rattle.chan_view.specs.declared.Seen.{Seen}
use Rattle.chan_view.specs.declared.Seen.TheVariants.{Packet, Data}
use Rattle.chan_view.specs.Form.View.{seen_of, held_of, leaves}
use Rattle.chan_step.specs.Form.Lasts.{retires_by}
use Rattle.chan_view.proofs.ViewLaws.{seen-shows, leaving-is}

-- ---- what a packet retires

-- some write, or none
abbrev some_write : Option Write → Bool
some_write None = false
some_write (Some w) = true

some-where : (c : Bool) (x : Write) → c ≡ some_write (only_write c (Some x))
some-where true x = refl
some-where false x = refl

-- data retire nothing
data-keeps : (s : Settings) (p : PlannerState) (q : Record) (t : DataAt) → seen_of q ≡ Data t → leaving_of (context_of s) p.channel q ≡ None
unfolding seen_of leaving traits
data-keeps s p (RowAt u k) t e = absurd (let z : ◌≡◌ {A = ℕ} 0 1 = cc in omega arith)
data-keeps s p (ColAt u k) t e = absurd (let z : ◌≡◌ {A = ℕ} 0 1 = cc in omega arith)
data-keeps s p (DataOf u k) t e = refl

module _ (s : Settings) (p : PlannerState) (q : Record) where
  abbrev held : Held
  held = held_of p.channel.buffer p.channel.due

  -- a record retires a write where code says so
  retires-is : retires_by s held (seen_of q) ≡ some_write (leaving_of (context_of s) p.channel q)
  unfolding retires_by held_of waiting_of
  retires-is = go (seen_of q) refl
    where
      oldest : (b : Buffer) (v : View) → leaves s (held_of b p.channel.due) v ≡ some_write (only_write (leaves s (held_of b p.channel.due) v) (first (waiting_of b)))
      oldest Empty v = refl
      oldest (One x) v = some-where _ x
      oldest (Two x y) v = some-where _ x

      go : (x : Seen) → seen_of q ≡ x → retires_by s held x ≡ some_write (leaving_of (context_of s) p.channel q)
      go (Packet v) e = rw (leaving-is s p.channel.buffer p.channel.due q v (seen-shows q v e)) (oldest p.channel.buffer v)
      go (Data t) e = rw (data-keeps s p q t e)

  -- a record that retires a write carries its mask, and the newer write's moves up
  module _ (l : Bool) (h : l ≡ retires_by s held (seen_of q)) where
    pub carried-by : cond l p.mask 0xFFFF ≡ carried (leaving_of (context_of s) p.channel q) p.mask
    carried-by = rw (h ∙ retires-is) (go (leaving_of (context_of s) p.channel q))
      where
        go : (o : Option Write) → cond (some_write o) p.mask 0xFFFF ≡ carried o p.mask
        go None = refl
        go (Some w) = refl

    pub shifted_by : cond l p.second p.mask ≡ shifted (leaving_of (context_of s) p.channel q) p.mask p.second
    shifted_by = rw (h ∙ retires-is) (go (leaving_of (context_of s) p.channel q))
      where
        go : (o : Option Write) → cond (some_write o) p.second p.mask ≡ shifted o p.mask p.second
        go None = refl
        go (Some w) = refl

  -- what the retire implies
  pub implied-by : (l : Bool) → l ≡ retires_by s held (seen_of q) → cond (l && held.close) s.offp 0 ≡ implied_delay (context_of s) (leaving_of (context_of s) p.channel q)
  unfolding retires_by held_of waiting_of context_of
  implied-by l h = rw h (go (seen_of q) refl)
    where
      closing : (c : Bool) (x : Write) → cond (c && x.close) s.offp 0 ≡ cond (has (retire_implies (only_write c (Some x)))) s.offp 0
      closing false x = refl
      closing true x = by x.close
        where
          by : (z : Bool) → cond z s.offp 0 ≡ cond (has (only z (Some x.bank))) s.offp 0
          by true = refl
          by false = refl

      oldest : (b : Buffer) (v : View)
          → cond (leaves s (held_of b p.channel.due) v && (held_of b p.channel.due).close) s.offp 0
          ≡ cond (has (retire_implies (only_write (leaves s (held_of b p.channel.due) v) (first (waiting_of b))))) s.offp 0
      oldest Empty v = refl
      oldest (One x) v = closing (leaves s (held_of (One x) p.channel.due) v) x
      oldest (Two x y) v = closing (leaves s (held_of (Two x y) p.channel.due) v) x

      go : (x : Seen) → seen_of q ≡ x → cond (retires_by s held x && held.close) s.offp 0 ≡ implied_delay (context_of s) (leaving_of (context_of s) p.channel q)
      go (Packet v) e = rw (leaving-is s p.channel.buffer p.channel.due q v (seen-shows q v e)) (oldest p.channel.buffer v)
      go (Data t) e = rw (data-keeps s p q t e)

-- ---- waiting writes that pass one of two tests

any-either : (f g : Write → Bool) (c : Bool) (ws : List Write) → any_write (λ w. f w || (c && g w)) ws ≡ any_write f ws || (c && any_write g ws)
any-either f g c [] = sym (and-false c)
any-either f g c (w ∷ ws) = ap (λ (b : Bool). (f w || (c && g w)) || b) (any-either f g c ws) ∙ go (f w) (g w) c (any_write f ws) (any_write g ws)
  where
    go : (a b c x y : Bool) → (a || (c && b)) || (x || (c && y)) ≡ (a || x) || (c && (b || y))
    go true b c x y = refl
    go false b false x y = refl
    go false true true true y = refl
    go false true true false y = refl
    go false false true x y = refl
