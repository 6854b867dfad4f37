-- The data of waiting writes after each record of short lists under set H: a D brings those of the newest write, and a retire moves
-- those of the newer write up.
-- Assumes nothing.
use Prim.Native.Nat.{ℕ}
use mathlib.Core.Path.{◌≡◌, refl}
use mathlib.Core.Bool.{false}
use mathlib.Core.List.{List, [], ◌∷◌}
use Rattle.settings.specs.Bench.{set_of, set_h}
use Rattle.packet.specs.declared.RowPacket.TheVariants.{Act}
use Rattle.packet.specs.declared.ColPacket.{ColPacket}
use Rattle.packet.specs.declared.ColPacket.TheVariants.{Nocop, Wr, Rd}
use Rattle.record.specs.declared.Record.{Record}
use Rattle.record.specs.declared.Record.TheVariants.{RowAt, ColAt, DataOf}
use Rattle.spec_rules.specs.Neighbour.{bank_count, context_of}
use Rattle.spec_rules.specs.Packets.{row_traits, col_traits, traits, instant}
use Rattle.spec_rules.specs.History.{leaving, loads}
use Rattle.spec_rules.specs.Channel.{fresh, waiting_of, buffer_of, after_packet, after_retire, after_implied, after_data, after}
use Rattle.spec_model.specs.declared.ModelState.{ModelState}
use Rattle.spec_model.specs.Model.{fresh_model, retired_write, bytes_next, second_next, model_next}

pub act : Record
act = RowAt (record { 0 = 4 }) (Act 0 0)

pub col : ℕ → ColPacket → Record
col t p = ColAt (record { 0 = t }) p

pub dat : ℕ → ℕ → Record
dat t n = DataOf (record { 0 = t }) (record { dqa = n; dqb = 0 })

pub wr : ℕ → ℕ → Record
wr t column = col t (Wr 0 column 0xFFFF false)

-- the data of the older and of the newer write after each record
pub held : ModelState → List Record → List (List ℕ)
held m [] = []
held m (r ∷ l) = let n : ModelState = model_next (context_of set_h) m r in (n.bytes.dqa ∷ n.second.dqa ∷ []) ∷ held n l

-- two writes, each retired by a NOCOP; three, of which the third retires the first
pub held-data : (held fresh_model (act ∷ wr 5 0 ∷ dat 11 1 ∷ wr 9 1 ∷ dat 15 2 ∷ col 13 (Nocop 3) ∷ col 17 (Nocop 3) ∷ [])
    ≡ (0 ∷ 0 ∷ []) ∷ (0 ∷ 0 ∷ []) ∷ (1 ∷ 0 ∷ []) ∷ (1 ∷ 0 ∷ []) ∷ (1 ∷ 2 ∷ []) ∷ (2 ∷ 2 ∷ []) ∷ (2 ∷ 2 ∷ []) ∷ [])
    × (held fresh_model (act ∷ wr 5 0 ∷ dat 11 1 ∷ wr 9 1 ∷ dat 15 2 ∷ wr 13 2 ∷ dat 19 3 ∷ col 17 (Nocop 3) ∷ col 21 (Rd 0 0 0xFFFF false) ∷ [])
    ≡ (0 ∷ 0 ∷ []) ∷ (0 ∷ 0 ∷ []) ∷ (1 ∷ 0 ∷ []) ∷ (1 ∷ 0 ∷ []) ∷ (1 ∷ 2 ∷ []) ∷ (2 ∷ 2 ∷ []) ∷ (2 ∷ 3 ∷ []) ∷ (3 ∷ 3 ∷ []) ∷ (3 ∷ 3 ∷ []) ∷ [])
unfolding set_of set_h act col dat wr held bank_count context_of row_traits col_traits traits instant leaving loads fresh waiting_of buffer_of after_packet after_retire after_implied after_data after fresh_model retired_write bytes_next second_next model_next
held-data = (refl, refl)
