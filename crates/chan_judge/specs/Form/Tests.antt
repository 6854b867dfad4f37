-- The rules as tests on what one record concerns: of a packet its view, its PRER, the waiting writes, the last instants of the
-- channel and the tracks of five banks. The laws in proofs/ say that these tests are those of the tracked state.
-- Assumes nothing.
use Rattle.std.specs.Prelude.{ℕ, suc, ◌+◌, ◌-◌, Bool, true, false, not, ◌&&◌, ◌||◌, cond, List, [], ◌∷◌, ◌++◌, eqb, leb, get_or, None, Option, Some}
use Rattle.settings.specs.declared.Settings.{Settings}
use Rattle.settings.specs.declared.DataAt.{DataAt}
use Rattle.settings.specs.Instants.{horizon, is_instant}
use Rattle.spec_rules.specs.declared.BankTrack.{BankTrack}
use Rattle.spec_rules.specs.declared.LastInstants.{LastInstants}
use Rattle.spec_rules.specs.Neighbour.{context_of, near}
use Rattle.spec_rules.specs.History.{is_closed, is_open}
use Rattle.spec_rules.specs.Broken.{lowest}
use Rattle.spec_rules.specs.Channel.{idle}
use Rattle.spec_rules.specs.Checks.{since, max_up_to}
use Rattle.chan_view.specs.declared.View.{View}
use Rattle.chan_view.specs.declared.Held.{Held}
use Rattle.chan_view.specs.declared.Tracks.{Tracks}
use Rattle.chan_judge.specs.declared.Precharge.{Precharge}
use Rattle.chan_view.specs.Form.Bounds.{bound_if, three}
use Rattle.chan_view.specs.Form.View.{leaves, stays_by}

-- ---- rule 5 over all banks

-- what bank x asks of an ACT to bank b, and what all banks ask
abbrev pub act_term : Settings → List BankTrack → ℕ → ℕ → ℕ
act_term s l b x = since (get_or l x idle).opened.0 (cond (near (context_of s) b x) s.rc s.rr)

unfoldable pub act_over : Settings → List BankTrack → ℕ → ℕ
act_over s l b = max_up_to (act_term s l b) 32

-- ---- instants of data

-- whether data come in time
unfoldable pub in_time : Option DataAt → Bool
in_time None = false
in_time (Some t) = true

-- whether data come at this instant
unfoldable pub comes_at : DataAt → Option DataAt → Bool
comes_at t None = false
comes_at t (Some u) = eqb t.0 u.0

-- the data of an RD or WR are in time
abbrev pub data_in_time : Settings → View → Bool
data_in_time s v = cond v.reads (leb (v.at.0 + s.cac) horizon) (cond v.writes (leb (v.at.0 + s.cwd) horizon) true)

-- ---- a packet

-- the number of the first test that fails, counted from n on, or what the rest found
unfoldable pub lowest_or : ℕ → ℕ → List Bool → ℕ
lowest_or rest n [] = rest
lowest_or rest n (b ∷ l) = cond b (lowest_or rest (suc n) l) n

-- whether a bound is kept, where it applies
abbrev pub kept : View → Bool → ℕ → Bool
kept v applies bound = leb (bound_if applies bound) v.at.0

-- a packet's PRER: its own, or one that it implies, by itself (RDA) or by the retire of a closing write; out says whether the older
-- write is retired
unfoldable pub prer_of : Settings → View → Held → Bool → Tracks → Precharge
prer_of s v h out k =
    let closing : Bool = h.close && out in
    let implied : Bool = (v.reads && v.close) || closing in
    record {
      applies = v.precharges || implied;
      at = v.at.0 + cond implied s.offp 0;
      bank = cond closing h.bank v.bank;
      opened = cond closing k.held.opened k.own.opened;
      rd = cond closing k.held.rd k.own.rd;
      retire = cond closing k.held.retire k.own.retire;
    }

-- whether it keeps a bound, where there is one
abbrev pub prer_kept : Precharge → ℕ → Bool
prer_kept p bound = leb (bound_if p.applies bound) p.at

module _ (v : View) where
  abbrev pub test4 : Tracks → Bool
  test4 k = not v.opens || (is_closed k.own.bank && (is_closed k.low.bank && is_closed k.high.bank))

  abbrev pub test12 : Bool → Held → Bool
  test12 out h = out || stays_by h v

  -- a closing write is left waiting
  abbrev pub closing_left : Held → Bool → Bool
  closing_left h out = (h.close && not out) || h.next_close

  abbrev pub test17 : Held → Bool → ℕ → Bool
  test17 h out implied = (not (closing_left h out) || not (v.row || v.writes)) && kept v v.row (since implied 0)

module _ (s : Settings) (v : View) where
  abbrev pub test1 : ℕ → ℕ → Bool
  test1 prer last = is_instant v.at.0 && (data_in_time s v && (leb prer horizon && leb last v.at.0))

  abbrev pub test7 : Tracks → Bool
  test7 k = kept v v.opens (three k.own.pre.0 k.low.pre.0 k.high.pre.0 s.rp)

  -- the retire closes the bank that the packet names
  abbrev pub closes_named : Held → Bool → Bool
  closes_named h out = (h.close && out) && near (context_of s) h.bank v.bank

  -- that bank is open after the retire
  abbrev pub named_open : Held → Bool → Tracks → Bool
  named_open h out k = is_open k.own.bank && not (closes_named h out)

  abbrev pub test9 : Held → Bool → Tracks → Bool
  test9 h out k = (not v.reads || named_open h out k) && ((not v.writes || named_open h out k) && (not out || is_open k.held.bank))

  abbrev pub test10 : Bool → Tracks → Bool
  test10 out k =
      kept v v.reads (since k.own.act.0 s.rcd)
      && (kept v out (since k.held.act.0 s.rcd) && kept v v.writes (since k.own.act.0 (s.rcd - s.rtr)))

  abbrev pub test11 : ℕ → Bool
  test11 rd = kept v v.writes (since rd (s.cc + s.cac - s.cwd))

-- those of a PRER, and the tracks of its neighbours
module _ (s : Settings) (p : Precharge) where
  abbrev pub test6 : Tracks → Bool
  test6 k = prer_kept p (three p.opened.0 k.low.opened.0 k.high.opened.0 s.ras)

  abbrev pub test13 : Tracks → Bool
  test13 k =
      prer_kept p (three p.rd.0 k.low.rd.0 k.high.rd.0 s.rdp)
      && prer_kept p (three p.retire.0 k.low.retire.0 k.high.retire.0 s.rtp)

  -- it spares the bank x of a write, where one waits
  abbrev pub spared : Bool → ℕ → BankTrack → Bool
  spared waits x k = not (waits && (p.applies && near (context_of s) p.bank x)) || is_closed k.bank

  -- the older write is no more unretired where it leaves
  abbrev pub test14 : Held → Bool → Tracks → Bool
  test14 h out k = spared (h.waits && not out) h.bank k.held && spared h.two h.next k.next

module _ (s : Settings) (v : View) where
  -- rules 1 to 3
  unfoldable pub pin_tests : Precharge → LastInstants → List Bool
  pin_tests p l = test1 s v p.at l.packet.0 ∷ kept v v.row (since l.row.0 4) ∷ kept v v.col (since l.col.0 s.cc) ∷ []

  -- rules 4 to 8; act is what all banks ask by rule 5
  unfoldable pub row_tests : Precharge → Tracks → ℕ → LastInstants → List Bool
  row_tests p k act l = test4 v k ∷ kept v v.opens act ∷ test6 s p k ∷ test7 s v k ∷ prer_kept p (since l.pre.0 s.pp) ∷ []

  -- rules 9 to 13; out says whether the older write is retired
  unfoldable pub col_tests : Held → Bool → Precharge → Tracks → LastInstants → List Bool
  col_tests h out p k l = test9 s v h out k ∷ test10 s v out k ∷ test11 s v l.rd.0 ∷ test12 v out h ∷ test13 s p k ∷ []

  -- rules 14 to 17
  unfoldable pub buffer_tests : Held → Bool → Precharge → Tracks → LastInstants → List Bool
  buffer_tests h out p k l = test14 s p h out k ∷ not h.due ∷ (not v.masked || out) ∷ test17 v h out l.implied.0 ∷ []

  -- the lowest of the seventeen that fails, or 0
  unfoldable pub packet_rule : Held → Tracks → ℕ → LastInstants → ℕ
  packet_rule h k act l =
      let out : Bool = leaves s h v in
      let p : Precharge = prer_of s v h out k in
      lowest 1 (pin_tests p l ++ (row_tests p k act l ++ (col_tests h out p k l ++ buffer_tests h out p k l)))

-- ---- data, which only rules 1 and 15 judge

unfoldable pub data_rule : Settings → Held → DataAt → ℕ
data_rule s h t = cond (is_instant t.0) (cond (h.due && eqb t.0 (h.newest.0 + s.cwd)) 0 15) 1
