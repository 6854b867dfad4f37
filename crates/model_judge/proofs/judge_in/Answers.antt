-- `model_judge::judge_in` meets its contract: by what the record is seen as.
use mathlib.Core.Path.{sym, ◌∙◌}
use native.Mathlib.Omega.{arith}
use Rattle.spec_rules.specs.Neighbour.{context_of}
use Rattle.spec_state.specs.ChannelBytes.{channel_in}
use Rattle.spec_model.specs.ModelBytes.{model_in}
use Rattle.state_bytes.proofs.RangeLaws.{model-in-range}
use Rattle.chan_judge.proofs.JudgeLaws.{judged-packet, judged-data}
use Rattle.model_judge.proofs.ReadLaws.{banks-count}
use Rattle.model_judge.proofs.judge_in.Goals as goal

pub returns-in-Packet : goal.returns-in-Packet
unfolding model_in
returns-in-Packet c =
    let b = c.args.b.now in
    rw (c.packet_in.ensures, c.held_at-h.ensures)
    (judged-packet c.args.s (channel_in b) c.args.r (banks-count b) _ (sym c.seen_of-seen.ensures ∙ c.in-Packet.is))

pub returns-in-Data : goal.returns-in-Data
unfolding model_in
returns-in-Data c =
    rw (c.data_rule.ensures, c.held_at-h.ensures)
    (judged-data c.args.s (channel_in c.args.b.now) c.args.r _ (sym c.seen_of-seen.ensures ∙ c.in-Data.is))

pub held_at-h-requires : goal.held_at-h-requires
held_at-h-requires c =
    let cx = context_of c.args.s in
    let b = c.args.b.now in
    record {
      in_bounds = omega arith;
      in_range = model-in-range cx b c.requires;
    }

pub packet_in-requires : goal.packet_in-requires
packet_in-requires c =
    let cx = context_of c.args.s in
    let b = c.args.b.now in
    record {
      in_bounds = omega arith;
      in_range = model-in-range cx b c.requires;
    }
