-- The least instants of COL packets, in the stored instants of a planner's bytes, and what a WR stores. The laws in proofs/ say that these are the plan's.
-- Assumes nothing.
use Rattle.std.specs.Prelude.{ℕ, ◌+◌, ◌*◌, ◌-◌, max, Bool, cond, ◌&&◌, ◌||◌, List, leb}
use Rattle.num.specs.Bytes.{bytes, splice}
use Rattle.settings.specs.declared.Settings.{Settings}
use Rattle.spec_rules.specs.Checks.{since}
use Rattle.spec_state.specs.Form.Stores.{implied_stored, col_stored, rd_stored, retire_stored, shift_stored, write_stored, beside_stored, behind_stored}
use Rattle.plan_bytes.specs.Form.Numbers.{word, half, waits_in, held_bank, two_in, now_stored}
use Rattle.plan_packets.specs.Form.RowSlots.{prer_asks}

-- what now and rules 1 and 3 ask of a COL packet
unfoldable pub col_base : Settings → List ℕ → ℕ
col_base s b = max (max (word b 752) (word b 704)) (since (word b 712) s.cc)

unfoldable pub rd_at : Settings → List ℕ → ℕ → ℕ
rd_at s b x = max (col_base s b) (since (word b (128 + 4 * x)) s.rcd)

-- RDA: the PRER that it implies stands tOFFP later
unfoldable pub rda_at : Settings → List ℕ → ℕ → ℕ
rda_at s b x = max (rd_at s b x) (prer_asks s b x - s.offp)

-- what rules 12 and 10 ask of the retire of the older write
unfoldable pub retire_at : Settings → List ℕ → ℕ
retire_at s b = max (since (word b 740) s.rtr) (since (word b (128 + 4 * held_bank b)) s.rcd)

unfoldable pub nocop_at : Settings → List ℕ → ℕ
nocop_at s b = max (col_base s b) (retire_at s b)

-- where that write closes its bank, the PRER that its retire implies stands tOFFP later
unfoldable pub closing_at : Settings → List ℕ → ℕ
closing_at s b = max (nocop_at s b) (prer_asks s b (held_bank b) - s.offp)

-- WR but for what it retires
unfoldable pub wr_base : Settings → List ℕ → ℕ → ℕ
wr_base s b x = max (col_base s b) (max (since (word b (128 + 4 * x)) (s.rcd - s.rtr)) (since (word b 720) (s.cc + s.cac - s.cwd)))

-- whether a WR that could stand at v retires the older write: tRTR has passed since its WR, or two wait
unfoldable pub retires_in : Settings → List ℕ → ℕ → Bool
retires_in s b v = waits_in b && (two_in b || leb (since (word b 740) s.rtr) v)

-- its instant, and the mask that it carries
abbrev pub wr_from : Settings → List ℕ → ℕ → Bool → ℕ
wr_from s b v leaves = cond leaves (max v (retire_at s b)) v

unfoldable pub wr_at : Settings → List ℕ → ℕ → ℕ
wr_at s b x = wr_from s b (wr_base s b x) (retires_in s b (wr_base s b x))

abbrev pub carried_in : List ℕ → Bool → ℕ
carried_in b leaves = cond leaves (half b 760) 0xFFFF

-- ---- what is stored

-- RDA at t, whose implied PRER stands at u
unfoldable pub rda_stored : List ℕ → ℕ → ℕ → ℕ → List ℕ
rda_stored b x t u = now_stored (implied_stored (rd_stored b x t) x u) t

-- NOCOP: the older write leaves, and the newer one, if there is one, moves up with its mask
unfoldable pub nocop_stored : List ℕ → ℕ → List ℕ
nocop_stored b t = splice (now_stored (col_stored (shift_stored (retire_stored b (held_bank b) t) (cond (two_in b) 1 0)) t) t) 760 (bytes 2 (half b 762))

-- where the older one closes its bank at u
unfoldable pub closing_stored : List ℕ → ℕ → ℕ → List ℕ
closing_stored b t u =
    splice (now_stored (col_stored (implied_stored (shift_stored (retire_stored b (held_bank b) t) (cond (two_in b) 1 0)) (held_bank b) u) t) t) 760 (bytes 2 (half b 762))

-- WR and its D: a write waits alone with its own mask
unfoldable pub alone_stored : List ℕ → ℕ → ℕ → Bool → ℕ → ℕ → List ℕ
alone_stored b x c close mask t = splice (now_stored (col_stored (write_stored b 1 x c close t) t) t) 760 (bytes 2 mask)

-- beside an older one
unfoldable pub newer_stored : List ℕ → ℕ → ℕ → Bool → ℕ → ℕ → List ℕ
newer_stored b x c close mask t = splice (now_stored (col_stored (beside_stored b 2 x c close t) t) t) 762 (bytes 2 mask)

-- behind the one that moves up with its mask
unfoldable pub moved_stored : List ℕ → ℕ → ℕ → Bool → ℕ → ℕ → ℕ → List ℕ
moved_stored b x c close second mask t = splice (splice (now_stored (col_stored (behind_stored b 2 x c close t) t) t) 760 (bytes 2 second)) 762 (bytes 2 mask)

-- where the older one leaves
unfoldable pub instead_stored : List ℕ → ℕ → ℕ → Bool → ℕ → ℕ → List ℕ
instead_stored b x c close mask t =
    cond (two_in b) (moved_stored (retire_stored b (held_bank b) t) x c close (half b 762) mask t) (alone_stored (retire_stored b (held_bank b) t) x c close mask t)

unfoldable pub wr_stored : List ℕ → ℕ → ℕ → Bool → ℕ → Bool → ℕ → List ℕ
wr_stored b x c close mask leaves t = cond leaves (instead_stored b x c close mask t) (cond (waits_in b) (newer_stored b x c close mask t) (alone_stored b x c close mask t))
