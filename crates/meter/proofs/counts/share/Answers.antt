-- `meter::counts::share` meets its contract.
use Rattle.meter.specs.Calls.{share_answered}
use Rattle.meter.proofs.RunLaws.{most-counted}
use Rattle.meter.proofs.counts.share.Goals as goal

pub share_of-requires : goal.share_of-requires
share_of-requires c = rw c.count-counted.ensures (most-counted c.args.m)

pub returns : goal.returns
unfolding share_answered
returns c = rw (c.share_of.ensures.0, c.count-counted.ensures)
