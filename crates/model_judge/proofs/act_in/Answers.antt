-- `model_judge::act_in` meets its contract: the instants read are those of the state.
use borrow.Author.Rules.{rules}
use Rattle.spec_state.specs.ChannelBytes.{channel_in}
use Rattle.model_judge.proofs.ReadLaws.{opened-read}
use Rattle.model_judge.proofs.act_in.Goals as goal

pub returns : goal.returns
returns c = c.act_by.ensures (channel_in c.args.b.now).banks (λ x t l p. let e = opened-read c.args.b.now x l in search rules)
