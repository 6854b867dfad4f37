-- What the table asks of each command, written out: the form that code computes.
-- Assumes nothing.
use Prim.Native.Nat.{ℕ, ◌+◌, ◌-◌, max}
use mathlib.Core.Path.{◌≡◌}
use mathlib.Core.Bool.{Bool, not}
use lib.Dec.{eqb}
use native.Mathlib.Numerals.{unary_clauses}
use Rattle.packet.specs.declared.RowPacket.TheVariants.{Act, Prer, Refa, Refp}
use Rattle.packet.specs.declared.ColPacket.TheVariants.{Nocop, Wr, Rd}
use Rattle.spec_rules.specs.declared.Channel.{Channel}
use Rattle.spec_rules.specs.Neighbour.{Context, near}
use Rattle.spec_rules.specs.Packets.{row_traits, col_traits, retire_traits, implied_traits}
use Rattle.spec_rules.specs.Distances.{Kind, ACT, only_act, PRER, RD, retire, distances}
use Rattle.spec_rules.specs.Checks.{since, bound_banks, bounds}

module _ (cx : Context) (ch : Channel) where
  -- over a bank itself, over it and its neighbours, over the others
  abbrev own : Kind → ℕ → ℕ → ℕ
  own a gap b = bound_banks cx ch (λ b x. eqb x b) a gap b

  abbrev around : Kind → ℕ → ℕ → ℕ
  around a gap b = bound_banks cx ch (near cx) a gap b

  abbrev elsewhere : Kind → ℕ → ℕ → ℕ
  elsewhere a gap b = bound_banks cx ch (λ b x. not (near cx b x)) a gap b

  -- any packet, a ROW packet, a COL packet
  abbrev on_row : ℕ → ℕ
  on_row n = max (since ch.lasts.packet.0 0) (max (since ch.lasts.row.0 4) n)

  -- a ROW packet after an implied PRER that is still due
  abbrev due : ℕ
  due = since ch.lasts.implied.0 0

  abbrev on_col : ℕ → ℕ
  on_col n = max (since ch.lasts.packet.0 0) (max (since ch.lasts.col.0 cx.settings.cc) n)

  pub act-bounds : (b row : ℕ) → bounds cx ch (row_traits (Act b row)) ≡ on_row (max (around ACT cx.settings.rc b) (max (elsewhere ACT cx.settings.rr b) (max (around PRER cx.settings.rp b) due)))
  unfolding bounds distances row_traits
  act-bounds b row = simp unary_clauses

  pub prer-bounds : (b : ℕ) → bounds cx ch (row_traits (Prer b))
      ≡ on_row (max (around ACT cx.settings.ras b) (max (since ch.lasts.pre.0 cx.settings.pp) (max (around RD cx.settings.rdp b) (max (around retire cx.settings.rtp b) due))))
  unfolding bounds distances row_traits
  prer-bounds b = simp unary_clauses

  pub refa-bounds : (b : ℕ) → bounds cx ch (row_traits (Refa b)) ≡ on_row (max (around ACT cx.settings.rc b) (max (elsewhere ACT cx.settings.rr b) (max (around PRER cx.settings.rp b) due)))
  unfolding bounds distances row_traits
  refa-bounds b = simp unary_clauses

  pub nocop-bounds : (m : ℕ) → bounds cx ch (col_traits (Nocop m)) ≡ on_col 0
  unfolding bounds distances col_traits
  nocop-bounds m = simp unary_clauses

  pub rd-bounds : (b c m : ℕ) (x : Bool) → bounds cx ch (col_traits (Rd b c m x)) ≡ on_col (own only_act cx.settings.rcd b)
  unfolding bounds distances col_traits
  rd-bounds b c m x = simp unary_clauses

  pub wr-bounds : (b c m : ℕ) (x : Bool) → bounds cx ch (col_traits (Wr b c m x)) ≡ on_col (max (own only_act (cx.settings.rcd - cx.settings.rtr) b) (since ch.lasts.rd.0 (cx.settings.cc + cx.settings.cac - cx.settings.cwd)))
  unfolding bounds distances col_traits
  wr-bounds b c m x = simp unary_clauses

  pub retire-bounds : (b : ℕ) → bounds cx ch (retire_traits b) ≡ own only_act cx.settings.rcd b
  unfolding bounds distances retire_traits
  retire-bounds b = simp unary_clauses

  -- an implied PRER: as a PRER, but for what is asked of any packet and of any ROW packet
  pub implied-bounds : (b : ℕ) → bounds cx ch (implied_traits b)
      ≡ max (around ACT cx.settings.ras b) (max (since ch.lasts.pre.0 cx.settings.pp) (max (around RD cx.settings.rdp b) (around retire cx.settings.rtp b)))
  unfolding bounds distances implied_traits
  implied-bounds b = simp unary_clauses
