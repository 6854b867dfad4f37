-- The last instants and the write buffer after a record. The laws in proofs/ say that these are those of the state after it.
-- Assumes nothing.
use Rattle.std.specs.Prelude.{Bool, false, cond, Some}
use Rattle.settings.specs.declared.Settings.{Settings}
use Rattle.settings.specs.declared.PacketAt.{PacketAt}
use Rattle.packet.specs.declared.ColPacket.{ColPacket}
use Rattle.packet.specs.declared.ColPacket.TheVariants.{Nocop, Wr, Rd}
use Rattle.record.specs.declared.Record.{Record}
use Rattle.record.specs.declared.Record.TheVariants.{RowAt, ColAt, DataOf}
use Rattle.spec_rules.specs.declared.LastInstants.{LastInstants}
use Rattle.spec_rules.specs.declared.Write.{Write}
use Rattle.spec_rules.specs.declared.Buffer.{Buffer}
use Rattle.spec_rules.specs.Packets.{Traits, row_traits, col_traits}
use Rattle.spec_rules.specs.History.{rest, joined, has}
use Rattle.spec_rules.specs.Channel.{waiting_of, buffer_of}
use Rattle.chan_view.specs.declared.Seen.{Seen}
use Rattle.chan_view.specs.declared.Seen.TheVariants.{Packet, Data}
use Rattle.chan_view.specs.declared.Held.{Held}
use Rattle.chan_view.specs.Form.View.{leaves}

-- after a packet, but for the PRER that it implies
abbrev pub lasts_by : PacketAt → Traits → LastInstants → LastInstants
lasts_by t k l =
    record {
      packet = t;
      row = cond k.row t l.row;
      col = cond k.col t l.col;
      pre = cond (has k.precharges) t l.pre;
      rd = cond (has k.reads) t l.rd;
      implied = l.implied;
    }

unfoldable pub lasts_next : Record → LastInstants → LastInstants
lasts_next (RowAt t p) l = lasts_by t (row_traits p) l
lasts_next (ColAt t p) l = lasts_by t (col_traits p) l
lasts_next (DataOf t d) l = l

-- after an implied PRER, which is no packet
abbrev pub implied_lasts : PacketAt → LastInstants → LastInstants
implied_lasts t l = record { packet = l.packet; row = l.row; col = l.col; pre = t; rd = l.rd; implied = t }

-- the buffer once the older write has left, if it does
unfoldable pub left_buffer : Bool → Buffer → Buffer
left_buffer leaves b = buffer_of (cond leaves (rest (waiting_of b)) (waiting_of b))

-- with a write behind the older one
unfoldable pub joined_buffer : Buffer → Write → Buffer
joined_buffer b w = buffer_of (joined (Some w) (waiting_of b))

-- after a COL packet, and after a record; leaves says whether the older write does
unfoldable pub col_buffer : PacketAt → ColPacket → Bool → Buffer → Buffer
col_buffer t (Nocop m) leaves x = left_buffer leaves x
col_buffer t (Wr b c m z) leaves x = joined_buffer (left_buffer leaves x) (record { bank = b; column = c; at = t; close = z })
col_buffer t (Rd b c m z) leaves x = left_buffer leaves x

unfoldable pub buffer_next : Record → Bool → Buffer → Buffer
buffer_next (RowAt t p) leaves x = x
buffer_next (ColAt t p) leaves x = col_buffer t p leaves x
buffer_next (DataOf t d) leaves x = x

-- whether a record retires the older write
unfoldable pub retires_by : Settings → Held → Seen → Bool
retires_by s h (Packet v) = leaves s h v
retires_by s h (Data t) = false
