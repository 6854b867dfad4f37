-- The banks after a packet are the banks before with at most three changed.
-- Assumes nothing.
use Prim.Native.Nat.{ℕ, ◌<◌}
use mathlib.Core.Path.{◌≡◌, refl, ap, ◌∙◌, sym}
use mathlib.Core.Bool.{Bool, true, false, not, ◌&&◌, ◌||◌, cond, or-false}
use mathlib.Core.List.{List}
use native.Mathlib.Omega.{arith}
use borrow.Author.Tests.{eq-eqb, ne_eqb, eqb-true, eqb-false}
use lib.Dec.{eqb}
use lib.ListN.{length, length-set, get_or}
use lib.Seq.{get_or-set_same, get_or-set_other, ext_get_or}
use Rattle.settings.specs.declared.Settings.{Settings}
use Rattle.settings.specs.declared.PacketAt.{PacketAt}
use Rattle.packet.specs.declared.RowPacket.TheVariants.{Act, Prer, Refa, Refp}
use Rattle.packet.specs.declared.ColPacket.TheVariants.{Nocop, Wr, Rd}
use Rattle.record.specs.declared.Record.{Record}
use Rattle.record.specs.declared.Record.TheVariants.{RowAt, ColAt}
use Rattle.spec_rules.specs.declared.Bank.TheVariants.{Closed}
use Rattle.spec_rules.specs.declared.BankTrack.{BankTrack}
use Rattle.spec_rules.specs.declared.Write.{Write}
use Rattle.spec_rules.specs.declared.Channel.{Channel}
use Rattle.spec_rules.specs.Neighbour.{Context, context_of, near}
use Rattle.spec_rules.specs.Packets.{traits, row_traits, col_traits, instant}
use Rattle.spec_rules.specs.History.{bank_by, is_closed}
use Rattle.spec_rules.specs.Channel.{idle, track_of, state_of, imap, bank_next, track_next, track_retired, track_implied}
use Rattle.spec_rules.proofs.Bools.{not-both}
use Rattle.spec_rules.proofs.NeighbourLaws.{core-neighbours}
use Rattle.spec_rules.proofs.ListLaws.{length-imap, get_or-imap}
use Rattle.chan_view.specs.Form.Beside.{low_of, high_of, first_near, last_near}
use Rattle.chan_view.proofs.NearLaws.{or_left, or_right, Beside, own, low, high, Below, no-low, one-low, Above, no-high, one-high, below, above, near-beside, near-own, near-low, near-high}
use Rattle.chan_step.specs.Form.Banks.{act_track, refa_track, prer_track, side_track, read_track, retired_track, changed, closed_banks}

-- a function where a test holds
abbrev onto : (BankTrack → BankTrack) → Bool → BankTrack → BankTrack
onto f t k = cond t (f k) k

-- what stands at each index once bank x is changed
pub changed-at : (f : BankTrack → BankTrack) (x : ℕ) (l : List BankTrack) (i : ℕ) → i < length l → get_or (changed f x l) i idle ≡ onto f (eqb i x) (get_or l i idle)
unfolding changed
changed-at f x l i h = go (eqb i x) refl
  where
    go : (t : Bool) → eqb i x ≡ t → get_or (changed f x l) i idle ≡ onto f t (get_or l i idle)
    go true q = let p = eqb-true i x q in rw p (get_or-set_same l x (f (get_or l x idle)) idle (omega arith))
    go false q = get_or-set_other l x i (f (get_or l x idle)) idle (eqb-false i x q)

pub length-changed : (f : BankTrack → BankTrack) (x : ℕ) (l : List BankTrack) → length (changed f x l) ≡ length l
unfolding changed
length-changed f x l = length-set l _ _

-- a map by what stands at each index; one that changes bank x alone, and one that changes none
module _ (g : ℕ → BankTrack → BankTrack) (l : List BankTrack) where
  map-as : (m : List BankTrack) → length m ≡ length l → ((i : ℕ) → i < length l → g i (get_or l i idle) ≡ get_or m i idle) → imap g 0 l ≡ m
  map-as m n e =
      ext_get_or idle _ _ (length-imap g 0 l ∙ sym n)
      (λ i h. let b : i < length l = omega (arith, length-imap g 0 l) in get_or-imap g l i idle idle b ∙ e i b)

  map-one : (f : BankTrack → BankTrack) (x : ℕ) → ((i : ℕ) (k : BankTrack) → eqb i x ≡ true → g i k ≡ f k) → ((i : ℕ) (k : BankTrack) → eqb i x ≡ false → g i k ≡ k)
      → imap g 0 l ≡ changed f x l
  map-one f x here else = map-as (changed f x l) (length-changed f x l) (λ i h. go i (eqb i x) refl ∙ sym (changed-at f x l i h))
    where
      go : (i : ℕ) (u : Bool) → eqb i x ≡ u → g i (get_or l i idle) ≡ onto f (eqb i x) (get_or l i idle)
      go i true q = rw q (here i (get_or l i idle) q)
      go i false q = rw q (else i (get_or l i idle) q)

  map-none : ((i : ℕ) (k : BankTrack) → g i k ≡ k) → imap g 0 l ≡ l
  map-none e = map-as l refl (λ i h. e i (get_or l i idle))

-- a bank and those beside it: every neighbour is one of the two, and the two are near where they are banks
pub record Sides (cx : Context) (b low high : ℕ) : Type 0 where
  pub only : (x : ℕ) → x < 32 → cx.nbr b x ≡ true → eqb x low || eqb x high ≡ true
  pub below : low < 32 → near cx b low ≡ true
  pub above : high < 32 → near cx b high ≡ true

module _ (s : Settings) (b : ℕ) where
  -- by the neighbours, where 32 stands for none
  pub sides : Sides (context_of s) b (low_of s b) (high_of s b)
  sides = record { only = λ x l e. at x e (near-beside s b x (or_right (eqb x b) _ e)); below = near-low s b; above = near-high s b }
    where
      at : (x : ℕ) → (context_of s).nbr b x ≡ true → Beside s b x → eqb x (low_of s b) || eqb x (high_of s b) ≡ true
      at x e (own q) = not-both ((context_of s).nbr b b) (ap ((context_of s).nbr b) (sym q) ∙ e) ((core-neighbours s).irreflexive b)
      at x e (low q) = or_left (eqb x (low_of s b)) (eqb x (high_of s b)) (eq-eqb x (low_of s b) q)
      at x e (high q) = or_right (eqb x (low_of s b)) (eqb x (high_of s b)) (eq-eqb x (high_of s b) q)

  -- by the first and the last near bank: the bank itself where it has no neighbour on that side
  pub near-sides : Sides (context_of s) b (first_near s b) (last_near s b)
  near-sides =
      record {
        only = λ x l e. first x l (below s b) (last x l (above s b) (sides.only x l e));
        below = first-near (below s b);
        above = last-near (above s b);
      }
    where
      first : (x : ℕ) → x < 32 → Below s b → eqb x (low_of s b) || eqb x (last_near s b) ≡ true → eqb x (first_near s b) || eqb x (last_near s b) ≡ true
      first x l (no-low p q) e = or_right (eqb x (first_near s b)) (eqb x (last_near s b)) (rw (p, ne_eqb x 32 (λ z. omega arith)) at e)
      first x l (one-low p q) e = rw q e

      last : (x : ℕ) → x < 32 → Above s b → eqb x (low_of s b) || eqb x (high_of s b) ≡ true → eqb x (low_of s b) || eqb x (last_near s b) ≡ true
      last x l (no-high p q) e = or_left (eqb x (low_of s b)) (eqb x (last_near s b)) (sym (or-false (eqb x (low_of s b))) ∙ rw (p, ne_eqb x 32 (λ z. omega arith)) at e)
      last x l (one-high p q) e = rw q e

      first-near : Below s b → first_near s b < 32 → near (context_of s) b (first_near s b) ≡ true
      first-near (no-low p q) l = rw q (near-own s b)
      first-near (one-low p q) l = rw q (near-low s b (omega arith))

      last-near : Above s b → last_near s b < 32 → near (context_of s) b (last_near s b) ≡ true
      last-near (no-high p q) l = rw q (near-own s b)
      last-near (one-high p q) l = rw q (near-high s b (omega arith))

-- one bank after a PRER: mine, near = it is that bank, a neighbour of it; lo, hi = it is the one below, the one above
closed_at : (t : PacketAt) (k : BankTrack) (mine near lo hi closed : Bool) → is_closed k.bank ≡ closed → (near ≡ true → lo || hi ≡ true)
    → (lo ≡ true → mine || near ≡ true) → (hi ≡ true → mine || near ≡ true)
    → ◌≡◌ {A = BankTrack} (record {
      bank = cond (mine || near) Closed k.bank;
      opened = k.opened;
      act = k.act;
      pre = cond (mine || ((mine || near) && not (is_closed k.bank))) t k.pre;
      rd = k.rd;
      retire = k.retire;
    })
    (onto (side_track t) hi (onto (side_track t) lo (onto (prer_track t) mine k)))
unfolding is_closed
closed_at t k true near false false c q o l h = refl
closed_at t k true near true false c q o l h = refl
closed_at t k true near false true c q o l h = refl
closed_at t k true near true true c q o l h = refl
closed_at t k false true true false true q o l h = rw q
closed_at t k false true true false false q o l h = rw q
closed_at t k false true false true true q o l h = rw q
closed_at t k false true false true false q o l h = rw q
closed_at t k false true true true true q o l h = rw q
closed_at t k false true true true false q o l h = rw q
closed_at t k false true false false c q o l h = not-both false (o refl) refl
closed_at t k false false true hi c q o l h = not-both false (l refl) refl
closed_at t k false false false true c q o l h = not-both false (h refl) refl
closed_at t k false false false false c q o l h = refl

module _ (cx : Context) (ch : Channel) (t : PacketAt) where
  abbrev next : Record → List BankTrack
  next r = imap (track_next cx ch r) 0 ch.banks

  pub act-banks : (b row : ℕ) → next (RowAt t (Act b row)) ≡ changed (act_track row t) b ch.banks
  unfolding track_next bank_next bank_by traits row_traits instant
  act-banks b row = map-one _ ch.banks (act_track row t) b (λ i k q. rw q) (λ i k q. rw q)

  pub refa-banks : (b : ℕ) → next (RowAt t (Refa b)) ≡ changed (refa_track t) b ch.banks
  unfolding track_next bank_next bank_by traits row_traits instant
  refa-banks b = map-one _ ch.banks (refa_track t) b (λ i k q. rw q) (λ i k q. rw q)

  pub rd-banks : (b c m : ℕ) (z : Bool) → next (ColAt t (Rd b c m z)) ≡ changed (read_track t) b ch.banks
  unfolding track_next bank_next traits col_traits instant
  rd-banks b c m z = map-one _ ch.banks (read_track t) b (λ i k q. rw q) (λ i k q. rw q)

  pub wr-banks : (b c m : ℕ) (z : Bool) → next (ColAt t (Wr b c m z)) ≡ ch.banks
  unfolding track_next bank_next traits col_traits instant
  wr-banks b c m z = map-none _ ch.banks (λ i k. refl)

  pub nocop-banks : (m : ℕ) → next (ColAt t (Nocop m)) ≡ ch.banks
  unfolding track_next bank_next traits col_traits instant
  nocop-banks m = map-none _ ch.banks (λ i k. refl)

  -- PRER and REFP, by the banks beside
  module _ (e : length ch.banks ≡ 32) (b low high : ℕ) (k : Sides cx b low high) where
    pub prer-banks : next (RowAt t (Prer b)) ≡ closed_banks t b low high ch.banks
    unfolding track_next bank_next bank_by traits row_traits instant
    prer-banks =
        let l : List BankTrack = ch.banks in
        let l1 : List BankTrack = changed (prer_track t) b l in
        let l2 : List BankTrack = changed (side_track t) low l1 in
        let n1 : length l1 ≡ length l = length-changed (prer_track t) b l in
        let n2 : length l2 ≡ length l = length-changed (side_track t) low l1 ∙ n1 in
        map-as _ l (closed_banks t b low high l) (length-changed (side_track t) high l2 ∙ n2)
        (λ i h. closed_at t (track_of ch i) (eqb i b) (cx.nbr b i) (eqb i low) (eqb i high) (is_closed (track_of ch i).bank) refl (k.only i (omega arith))
        (λ q. let p = eqb-true i low q in ap (near cx b) p ∙ k.below (omega arith)) (λ q. let p = eqb-true i high q in ap (near cx b) p ∙ k.above (omega arith))
        ∙ sym (changed-at (side_track t) high l2 i (omega arith)
        ∙ ap (onto (side_track t) (eqb i high)) (changed-at (side_track t) low l1 i (omega arith) ∙ ap (onto (side_track t) (eqb i low)) (changed-at (prer_track t) b l i h))))

    pub refp-banks : next (RowAt t (Refp b)) ≡ closed_banks t b low high ch.banks
    unfolding track_next bank_next bank_by traits row_traits instant
    refp-banks = prer-banks

    -- an implied PRER
    pub implied-banks : imap (track_implied cx (state_of ch) t.0 b) 0 ch.banks ≡ closed_banks t b low high ch.banks
    unfolding track_next track_implied bank_next bank_by traits row_traits instant
    implied-banks = prer-banks

-- the banks beside as neighbours, or as the first and the last near bank
pub closed-near : (s : Settings) (t : PacketAt) (b : ℕ) (ch : Channel) → length ch.banks ≡ 32
    → closed_banks t b (low_of s b) (high_of s b) ch.banks ≡ closed_banks t b (first_near s b) (last_near s b) ch.banks
closed-near s t b ch e =
    sym (prer-banks (context_of s) ch t e b (low_of s b) (high_of s b) (sides s b)) ∙ prer-banks (context_of s) ch t e b (first_near s b) (last_near s b) (near-sides s b)

-- the bank of a write that is retired
pub retired-banks : (t : PacketAt) (w : Write) (l : List BankTrack) → imap (track_retired t.0 w) 0 l ≡ changed (retired_track t) w.bank l
unfolding track_retired
retired-banks t w l = map-one _ l (retired_track t) w.bank (λ i k q. rw q) (λ i k q. rw q)
