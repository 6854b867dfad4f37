-- The records of a draft in the lent buffer.
-- Assumes nothing.
use Prim.Native.Nat.{ℕ, ◌+◌, ◌*◌, ◌≤◌}
use mathlib.Core.Path.{◌≡◌, refl, sym, ap, ◌∙◌}
use mathlib.Core.List.{List, [], ◌∷◌, ◌++◌, append-nil, append_assoc}
use lib.ListN.{length, length-append, get_or}
use native.Mathlib.Omega.{arith}
use Rattle.num.specs.Bytes.{splice}
use Rattle.num.proofs.ByteLaws.{length-bytes}
use Rattle.num.proofs.SpliceLaws.{splice-none, splice-next, length-splice}
use Rattle.settings.specs.declared.Settings.{Settings}
use Rattle.record.specs.declared.Record.{Record}
use Rattle.record.specs.declared.Record.TheVariants.{RowAt, ColAt, DataOf}
use Rattle.record.specs.Record.{record_fields, record_bytes}
use Rattle.spec_plan.specs.Call.{list_bytes}
use Rattle.plan_by_value.specs.declared.Entry.{Entry}
use Rattle.plan_by_value.specs.Form.Drawn.{blank, records_of}
use Rattle.plan_by_value.proofs.DrawLaws.{records-count, records-next}

length-record : (s : Settings) (r : Record) → length (record_bytes s r) ≡ 32
unfolding record_bytes record_fields
length-record s (RowAt t p) = simp (length-append, length-bytes)
length-record s (ColAt t p) = simp (length-append, length-bytes)
length-record s (DataOf t d) = simp (length-append, length-bytes)

length-list : (s : Settings) (l : List Record) → length (list_bytes s l) ≡ 32 * length l
unfolding list_bytes
length-list s [] = refl
length-list s (r ∷ l) = omega (arith, length-append (record_bytes s r) (list_bytes s l), length-record s r, length-list s l)

list-more : (s : Settings) (l : List Record) (r : Record) → list_bytes s (l ++ (r ∷ [])) ≡ list_bytes s l ++ record_bytes s r
unfolding list_bytes
list-more s [] r = append-nil (record_bytes s r)
list-more s (q ∷ l) r = ap (λ (b : List ℕ). record_bytes s q ++ b) (list-more s l r) ∙ sym (append_assoc (record_bytes s q) (list_bytes s l) (record_bytes s r))

module _ (s : Settings) (list : List Entry) (room : List ℕ) where
  -- the lent buffer with the first i records
  abbrev pub room_with : ℕ → List ℕ
  room_with i = splice room 0 (list_bytes s (records_of list i))

  length-first : (i : ℕ) → length (list_bytes s (records_of list i)) ≡ 32 * i
  length-first i = length-list s (records_of list i) ∙ ap (λ (n : ℕ). 32 * n) (records-count list i)

  pub put-none : room ≡ room_with 0
  unfolding list_bytes records_of
  put-none = splice-none room 0

  pub length-put : (i : ℕ) → 32 * i ≤ length room → length (room_with i) ≡ length room
  length-put i h = length-splice room 0 (list_bytes s (records_of list i)) (omega (arith, length-first i))

  -- one record more
  pub put-turn : (i : ℕ) → 32 * i ≤ length room → splice (room_with i) (32 * i) (record_bytes s (get_or list i blank).made) ≡ room_with (i + 1)
  put-turn i h =
      splice-next room (list_bytes s (records_of list i)) (record_bytes s (get_or list i blank).made) (32 * i) (length-first i) h
      ∙ ap (λ (b : List ℕ). splice room 0 b) (sym (list-more s (records_of list i) (get_or list i blank).made) ∙ ap (list_bytes s) (sym (records-next list i)))
