-- A model call with a record that is read: what it asks of the store, and what it leaves, from what it answers.
-- Assumes nothing.
use Rattle.std.specs.Prelude.{ℕ, cond, List, [], length}
use Rattle.num.specs.Bytes.{splice}
use Rattle.record.specs.declared.Record.{Record}
use Rattle.spec_rules.specs.declared.Channel.{Channel}
use Rattle.spec_rules.specs.Neighbour.{Context}
use Rattle.spec_rules.specs.Channel.{state_of, leaving_of}
use Rattle.chan_view.specs.declared.Seen.{Seen}
use Rattle.chan_view.specs.declared.Seen.TheVariants.{Packet, Data}
use Rattle.chan_view.specs.Form.Beside.{slot_of}
use Rattle.chan_view.specs.Form.View.{seen_of, held_of}
use Rattle.spec_model.specs.declared.ModelState.{ModelState}
use Rattle.spec_model.specs.Model.{model_next, store_next, read_of}
use Rattle.spec_model.specs.Step.{record_answer, is_taken, bytes_read}
use Rattle.model_store.specs.declared.Touch.{Touch}
use Rattle.model_store.specs.Form.Touch.{touch_of}

-- the bank that a record names
unfoldable pub named : Seen → ℕ
named (Packet v) = v.bank
named (Data t) = 0

-- from the states at the indices of the bank that the record names and of the bank of the older write
unfoldable pub touch_for : Context → Channel → Record → Touch
touch_for cx ch r =
    touch_of r (leaving_of cx ch r) (state_of ch (slot_of (named (seen_of r)))) (state_of ch (slot_of (held_of ch.buffer ch.due).bank))

unfoldable pub take_model : Context → ModelState → Record → ℕ → ModelState
take_model cx m r room = cond (is_taken (record_answer cx m r room)) (model_next cx m r) m

unfoldable pub take_store : Context → ModelState → Record → List ℕ → ℕ → List ℕ
take_store cx m r store room = cond (is_taken (record_answer cx m r room)) (store_next cx m r store) store

unfoldable pub take_room : Context → ModelState → Record → List ℕ → List ℕ → List ℕ
take_room cx m r store room =
    splice room 0 (cond (is_taken (record_answer cx m r (length room))) (bytes_read (read_of cx m.channel r) store) [])
